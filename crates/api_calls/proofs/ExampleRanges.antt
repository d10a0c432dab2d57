-- An example of a migration of forty objects: two ranges, of thirty-two keys and of the rest.
use Rattle.std.specs.Prelude.{◌≡◌, ℕ, zero, suc, ◌+◌, List, [], ◌∷◌, ◌++◌, Option, None, Some, codes}
use Rattle.std.proofs.Common.{refl}
use Rattle.api_calls.specs.Meaning.{Meaning}
use Rattle.api_calls.specs.Item.{Item, entry, Create, SetVersions, StartMigration}
use Rattle.api_calls.specs.State.{State, effect, number_after, state}
use Rattle.api_calls.specs.Ends.{TurnEnd, claimed, touched, range_done, finished}
use Rattle.api_calls.specs.Work.{Turn, work_decision}
use Rattle.api_calls.proofs.ExampleServer.{v1, storing, example, key, plain}

-- forty names of two letters, in their order
abbrev letters : ℕ → ℕ → List (List ℕ)
letters zero from = []
letters (suc n) from = (97 ∷ from ∷ []) ∷ letters n (from + 1)

abbrev creates : List (List ℕ) → List Item
creates [] = []
creates (n ∷ ns) = entry (Create (key n) (plain n) 1) ∷ creates ns

-- the answers of a worker's turns one after another, on one claim at a time
abbrev after_item : ℕ → Option Item → State → State
after_item n None s = s
after_item n (Some i) s = effect n i s

abbrev number_then : ℕ → Option Item → ℕ
number_then n None = n
number_then n (Some i) = number_after n i

abbrev turns : ℕ → ℕ → State → Option ℕ → List TurnEnd
turns zero n s c = []
turns (suc t) n s c = go (work_decision n s c) (λ d. turns t (number_then n d.decision.item) (after_item n d.decision.item s) d.claim)
  where
    go : Turn → (Turn → List TurnEnd) → List TurnEnd
    go d more = d.decision.answer ∷ more d

abbrev touches : ℕ → ℕ → List TurnEnd
touches zero from = []
touches (suc n) from = touched from ∷ touches n (from + 1)

abbrev log : List Item
log = creates (letters 40 48) ++ entry (SetVersions (storing v1)) ∷ entry (StartMigration (codes "m")) ∷ []

forty_five : (m : Meaning) → turns 45 44 (state (example m) log) None
    ≡ claimed ∷ touches 32 44 ++ range_done ∷ claimed ∷ touches 8 76 ++ range_done ∷ finished 84 ∷ []
forty_five m = refl
