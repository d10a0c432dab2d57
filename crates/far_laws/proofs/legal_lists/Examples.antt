-- The premises of the laws are met by a history of two creates: it is legal, whatever its values are, where nothing is known of what they mean.
use Rattle.std.proofs.Common.{◌≡◌, refl, ℕ, true, false, IsTrue, List, [], ◌∷◌, ◌++◌, None, Some, codes}
use Rattle.kube_meta.specs.View.{ObjectView}
use Rattle.kube_meta.specs.Page.{listed}
use Rattle.api_calls.specs.Item.{Create, Item, entry}
use Rattle.api_calls.specs.LegalLists.{KeepsStorage}
use Rattle.api_calls.specs.Legal.{Each, legal}
use Rattle.api_calls.specs.Meaning.{Meaning}
use Rattle.api_calls.specs.Objects.{Stored, object_key}
use Rattle.api_calls.specs.Snap.{snap}
use Rattle.api_calls.specs.State.{state}
use Rattle.api_calls.proofs.ExampleServer.{example, fresh, key, standing, v1beta1}
use Rattle.far_laws.specs.Keys.{IsAbsentOrAt}

module _ (other : Meaning) where
  -- a definition of which it isn't known what its values mean
  abbrev unknown : Meaning
  unknown = record (example other) { honest = false }

  abbrev a : Item
  a = entry (Create (key (codes "a")) (fresh (codes "a")) 1)

  abbrev b : Item
  b = entry (Create (key (codes "b")) (fresh (codes "b")) 1)

  unsaid : {A : Type 0} → IsTrue false → A
  unsaid never = cc

  is_legal : legal unknown standing (a ∷ b ∷ [])
  is_legal = (
    record { absent = refl; value = λ p. unsaid p; fresh = λ p. unsaid p; room = refl },
    (record { absent = refl; value = λ p. unsaid p; fresh = λ p. unsaid p; room = refl }, tt),
  )

  keeps : Each (KeepsStorage (state unknown (a ∷ [])).flags.storage) (b ∷ [])
  keeps = (refl, tt)

  -- a stands at the storage version, and b isn't there
  stands : IsAbsentOrAt v1beta1 (key (codes "a")) (state unknown (a ∷ []))
  stands = refl

  absent : IsAbsentOrAt v1beta1 (key (codes "b")) (state unknown (a ∷ []))
  absent = tt

  abbrev object : List ℕ → ℕ → Stored
  object name number = record { key = key name; h = fresh name; number = number; at = v1beta1; born = number; weight = 1 }

  -- behind a stands b
  behind_a : listed object_key (Some (codes "default")) None (snap unknown (a ∷ b ∷ []) 3) ≡ [] ++ object (codes "a") 2 ∷ (object (codes "b") 3 ∷ [])
  behind_a = refl
