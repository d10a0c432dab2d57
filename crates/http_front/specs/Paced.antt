-- A connection as steps, one after another, each of which answers one request: what each found and what it left.
use Rattle.std.specs.Prelude.{◌≡◌, ◌⊎◌, ◌<◌, ℕ, List, Option, Some, length}
use Rattle.std.specs.Io.KnownBytes.{prepend_known}
use Rattle.api_calls.specs.Reply.{ReplyView}
use Rattle.http_wire.specs.Head.{Request, Reads, HasNoWhole}
use Rattle.http_front.specs.One.{Did, HandsOn, IfAnswered, IsRefused}
use Rattle.http_front.specs.declared.one.OneEnd.{OneEnd}
use Rattle.http_front.specs.declared.one.OneEnd.TheVariants as step
use Rattle.http_front.specs.declared.link.End.{End}
use Rattle.http_front.specs.declared.link.End.TheVariants.{Closed, Torn, Refused, ReadFault, WriteFault, Spent, NoMemory}

-- What an input tells in each of its states of the bytes that are left of it, and an output of those that were written and handed on.
pub record Handles (I O : Type 0) : Type 0 where
  pub left : I → Option (List ℕ)
  pub written : O → Option (List ℕ)
  pub flushed : O → Option (List ℕ)

-- What stands between two steps: the bytes that were read and that no request took, and the states of the input and of the output. A state is one
-- that they came to, so what is told of it held then.
pub record Moment (I O : Type 0) : Type 0 where
  pub held : List ℕ
  pub input : I
  pub output : O

-- the bytes that no request took yet, where the input tells them
abbrev pub known_at : {I O : Type 0} → Handles I O → Moment I O → Option (List ℕ)
known_at h k = prepend_known k.held (h.left k.input)

-- A step that ended so. Nothing is read where a whole request is held, and nothing behind one once it is whole: fewer bytes are held
-- then than one read gives, at most `most`. What it writes is handed on when it ends.
pub record Took {S I O : Type 0} (h : Handles I O) (Step : S → Request → ReplyView → S → Type 0) (most : Option ℕ) (e : OneEnd) (s : S) (k : Moment I O) (t : S) (n : Moment I O) : Type 0 where
  pub did : Did Step e s t (known_at h k) (known_at h n) (h.written k.output) (h.written n.output)
  pub ready : (r : Request) (rest : List ℕ) → Reads k.held r rest → n.input ≡ k.input
  pub prompt : HasNoWhole k.held → (m : ℕ) → most ≡ Some m → IfAnswered e (length n.held < m) (IsRefused (known_at h k))
  pub handed : HandsOn e (h.flushed n.output ≡ h.written n.output) (n.output ≡ k.output)

-- steps that each answered a request which didn't ask for closing, from the state s at one moment to another state at a later one
pub data InTurn {S I O : Type 0} (h : Handles I O) (Step : S → Request → ReplyView → S → Type 0) (most : Option ℕ) (s : S) (k : Moment I O) : S → Moment I O → Type 0 where
  none_yet : InTurn h Step most s k s k
  one_more : (t : S) (m : Moment I O) (u : S) (n : Moment I O) → InTurn h Step most s k t m → Took h Step most step.Answered t m u n → InTurn h Step most s k u n

-- the step by which a connection ends so
abbrev pub Finishes : {S I O : Type 0} → Handles I O → (S → Request → ReplyView → S → Type 0) → Option ℕ → End → S → Moment I O → S → Moment I O → Type 0
Finishes h Step most Closed s k t n = Took h Step most step.Closed s k t n ⊎ Took h Step most step.Last s k t n
Finishes h Step most (Torn held) s k t n = Took h Step most (step.Torn held) s k t n
Finishes h Step most (Refused f) s k t n = Took h Step most (step.Refused f) s k t n
Finishes h Step most ReadFault s k t n = Took h Step most step.ReadFault s k t n
Finishes h Step most WriteFault s k t n = Took h Step most step.WriteFault s k t n
Finishes h Step most Spent s k t n = (t ≡ s) × (n ≡ k)
Finishes h Step most NoMemory s k t n = ⊥

-- the whole connection
pub record Paced {S I O : Type 0} (h : Handles I O) (Step : S → Request → ReplyView → S → Type 0) (most : Option ℕ) (end : End) (s : S) (k : Moment I O) (t : S) (n : Moment I O) : Type 0 where
  pub before : S
  pub moment : Moment I O
  pub turns : InTurn h Step most s k before moment
  pub last : Finishes h Step most end before moment t n

-- the end of a connection for which there was no memory: the one response to that was written, or a front of it
abbrev pub IsUnserved : End → Type 0
IsUnserved NoMemory = Unit {0}
IsUnserved WriteFault = Unit {0}
IsUnserved Closed = ⊥
IsUnserved (Torn held) = ⊥
IsUnserved (Refused f) = ⊥
IsUnserved ReadFault = ⊥
IsUnserved Spent = ⊥
