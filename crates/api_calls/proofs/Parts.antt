-- Lists of items in two parts.
use Rattle.std.proofs.Common.{◌≡◌, ℕ, List, [], ◌∷◌, ◌++◌, refl}
use Rattle.kube_meta.specs.declared.limits.Limits.{Limits}
use Rattle.api_calls.specs.Meaning.{Meaning}
use Rattle.api_calls.specs.Item.{Item}
use Rattle.api_calls.specs.State.{State, effect, number_after, number_from, state_from}
use Rattle.api_calls.specs.Legal.{legal_from}

pub state_from-append : (n : ℕ) (s : State) (xs ys : List Item) → state_from n s (xs ++ ys) ≡ state_from (number_from n xs) (state_from n s xs) ys
state_from-append n s [] ys = refl
state_from-append n s (i ∷ xs) ys = state_from-append (number_after n i) (effect n i s) xs ys

pub legal_from-append : (m : Meaning) (limits : Limits) (n : ℕ) (s : State) (xs ys : List Item) → legal_from m limits n s (xs ++ ys)
    → legal_from m limits n s xs × legal_from m limits (number_from n xs) (state_from n s xs) ys
legal_from-append m limits n s [] ys l = (tt, l)
legal_from-append m limits n s (i ∷ xs) ys l =
    let more = legal_from-append m limits (number_after n i) (effect n i s) xs ys l.1 in ((l.0, more.0), more.1)
