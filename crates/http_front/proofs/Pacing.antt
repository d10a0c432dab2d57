-- A connection as steps, one after another.
use Rattle.std.proofs.Common.{◌≡◌, ◌<◌, ℕ, List, [], Option, Some, length, subst, ◌∙◌}
use Rattle.std.specs.Io.KnownBytes.{prepend_known}
use Rattle.api_calls.specs.Reply.{ReplyView}
use Rattle.http_wire.specs.Head.{Request, Reads, HasNoWhole}
use Rattle.http_front.specs.One.{Did, HandsOn, IfAnswered, IsRefused}
use Rattle.http_front.specs.Paced.{Handles, Moment, Took, InTurn, Finishes, Paced}
use Rattle.http_front.specs.declared.one.OneEnd.{OneEnd}
use Rattle.http_front.specs.declared.link.End.{End}

-- a step, as its call tells it
pub took : {S I O : Type 0} (left : I → Option (List ℕ)) (written flushed : O → Option (List ℕ)) (most_of : I → Option ℕ) {Step : S → Request → ReplyView → S → Type 0} {e : OneEnd} {s t : S} {held after : List ℕ} {i j : I} {a b : O} {most : Option ℕ}
    → Did Step e s t (prepend_known held (left i)) (prepend_known after (left j)) (written a) (written b)
    → ((r : Request) (rest : List ℕ) → Reads held r rest → j ≡ i)
    → (HasNoWhole held → (m : ℕ) → most_of i ≡ Some m → IfAnswered e (length after < m) (IsRefused (prepend_known held (left i))))
    → HandsOn e (flushed b ≡ written b) (b ≡ a)
    → most_of i ≡ most
    → Took (record { left = left; written = written; flushed = flushed }) Step most e s (record { held = held; input = i; output = a }) t (record { held = after; input = j; output = b })
took left written flushed most_of did ready prompt handed same = record {
  did = did;
  ready = ready;
  prompt = λ none m is. prompt none m (same ∙ is);
  handed = handed;
}

pub finished : {S I O : Type 0} {h : Handles I O} {Step : S → Request → ReplyView → S → Type 0} {most : Option ℕ} {end : End} {s t : S} {k n : Moment I O} (before : S) (moment : Moment I O) → InTurn h Step most s k before moment → Finishes h Step most end before moment t n → Paced h Step most end s k t n
finished before moment turns last = record { before = before; moment = moment; turns = turns; last = last }

-- from an inbox that holds nothing
pub from_empty : {S I O : Type 0} {h : Handles I O} {Step : S → Request → ReplyView → S → Type 0} {most : Option ℕ} {end : End} {s t : S} {i : I} {o : O} {n : Moment I O} (held : List ℕ) → held ≡ []
    → Paced h Step most end s (record { held = held; input = i; output = o }) t n → Paced h Step most end s (record { held = []; input = i; output = o }) t n
from_empty {h = h} {Step = Step} {most = most} {end = end} {s = s} {t = t} {i = i} {o = o} {n = n} held empty paced =
    subst (λ (xs : List ℕ). Paced h Step most end s (record { held = xs; input = i; output = o }) t n) empty paced
