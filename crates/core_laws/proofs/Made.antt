-- A turn that ended as it is decided, told as an answer.
use Rattle.std.proofs.Common.{ℕ, List, Option, ap}
use Rattle.api_calls.specs.Item.{Item}
use Rattle.api_calls.specs.Ends.{TurnEnd, Decision, EndsAsDecided, bound}
use Rattle.api_calls.specs.Work.{Turn}
use Rattle.api_core.specs.Turned.{WorkerTurned}
use Rattle.core_laws.specs.Asked.{Told, worked, told_as, as_turn}

pub told_ends : {A : Type 0} (f : A → Told) (stands : List Item → Type 0) (log : List Item) (d : Decision A) (a : A) → EndsAsDecided bound stands log d a → EndsAsDecided bound stands log (told_as f d) (f a)
told_ends f stands log d a e = (ap f e.0, e.1)

pub told_turn : (stands : List Item → Type 0) (log : List Item) (t : Turn) (end : TurnEnd) (left : Option ℕ) → WorkerTurned stands log t end left → EndsAsDecided bound stands log (as_turn t) (worked end left)
told_turn stands log t end left e =
    let ends = e.ends in
    let claim = e.claim in
    (λ i. worked (ends.0 i) (claim i), ends.1)
