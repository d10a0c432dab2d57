-- What is known where a function came to a result.
use Rattle.std.proofs.Common.{◌≡◌, ◌∙◌, ℕ, ◌+◌, List, Option, Result, Ok, Err, ap}
use Rattle.std.specs.Prelude.{IfOk, OnOk}
use Rattle.kj_value.specs.declared.error.NoMemory.{NoMemory}
use Rattle.api_calls.specs.Calls.{Server}
use Rattle.api_calls.specs.Ends.{TurnEnd, grown}
use Rattle.api_calls.specs.Item.{Item}
use Rattle.api_calls.specs.State.{revision, state}
use Rattle.api_calls.specs.Work.{work_decision}
use Rattle.drill_steps.specs.declared.counts.Counts.{Counts}
use Rattle.drill_steps.specs.declared.worker.Progress.{Progress}
use Rattle.drill_steps.specs.Counting.{with_turn}
use Rattle.drill_steps.specs.inner.Drilled.{point_of}
use Rattle.drill_steps.specs.Steps.{Point, turned}
use Rattle.drill_steps.proofs.Alone.{IsDecided}

-- what follows of two facts of a result
pub both_ok : {X E : Type 0} (r : Result X E) (P Q S : Type 0) → OnOk r P → OnOk r Q → (P → Q → S) → OnOk r S
both_ok (Ok x) P Q S p q f = f p q
both_ok (Err e) P Q S p q f = tt

-- what follows of its value
pub if_ok : {X E : Type 0} (r : Result X E) (P Q : X → Type 0) → IfOk r P → ((x : X) → P x → Q x) → IfOk r Q
if_ok (Ok x) P Q p f = f x p
if_ok (Err e) P Q p f = tt

-- and of one
pub on_ok : {X E : Type 0} (r : Result X E) (P S : Type 0) → OnOk r P → (P → S) → OnOk r S
on_ok (Ok x) P S p f = f p
on_ok (Err e) P S p f = tt

-- a drill behind a turn of its worker
pub turned_is : (s : Server) (d : Progress) (log after : List Item) (left : Option ℕ) (counts : Counts) (e : TurnEnd) → IsDecided s log d.worker.claim e left after
    → counts ≡ with_turn e d.counts → point_of (record d { worker = record { claim = left }; counts = counts }) after ≡ turned s (point_of d log)
turned_is s d log after left counts e is counted =
    ap (λ (x : Option ℕ). standing x after counts) is.leaves
    ∙ ap (λ (x : List Item). standing (work_decision (revision log + 1) (state s.meaning log) d.worker.claim).claim x counts) is.grows
    ∙ ap (λ (x : Counts). standing (work_decision (revision log + 1) (state s.meaning log) d.worker.claim).claim (grown log (work_decision (revision log + 1) (state s.meaning log) d.worker.claim).decision.item) x)
    (counted ∙ ap (λ (x : TurnEnd). with_turn x d.counts) is.end)
  where
    standing : Option ℕ → List Item → Counts → Point
    standing claim l k = record { drawing = d.drawing; switches = d.switches; claim = claim; tally = record { log = l; counts = k } }
