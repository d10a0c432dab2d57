-- Examples of creates, replaces and deletes: conflicts, an update that changes nothing, and room.
use Rattle.std.specs.Prelude.{◌≡◌, ◌↔◌, ℕ, true, false, List, [], ◌∷◌, Some, codes, take, IsTrue}
use Rattle.std.proofs.Common.{refl, ap}
use Rattle.kube_meta.specs.Key.{KeyView}
use Rattle.kube_meta.specs.View.{ObjectView}
use Rattle.kube_meta.specs.declared.limits.Limits.{Limits}
use Rattle.kube_meta.specs.declared.limits.RoomKind.TheVariants.{Chunks}
use Rattle.api_calls.specs.Meaning.{Meaning}
use Rattle.api_calls.specs.Item.{Item, entry, Create, Replace, Delete, SetVersions}
use Rattle.api_calls.specs.Objects.{find}
use Rattle.api_calls.specs.State.{State, state}
use Rattle.api_calls.specs.Values.{updated_value}
use Rattle.api_calls.specs.Ends.{done, same, gone, newer, present, full, says, enters}
use Rattle.api_calls.specs.Writes.{create_decision, ReplaceDecision, DeleteDecision}
use Rattle.api_calls.proofs.ExampleServer.{v1, v1beta1, storing, example, standing, key, stamp, admitted, plain, fresh, x_differs}

abbrev a : KeyView
a = key (codes "a")

abbrev b : KeyView
b = key (codes "b")

-- the objects are equal
yes_same : {X : Type 0} (x : X) → IsTrue true ↔ (x ≡ x)
yes_same x = (λ h. refl, λ h. refl)

-- ---- conflicts

module _ (m : Meaning) where
  abbrev one : State
  one = state (example m) (entry (Create a (fresh (codes "a")) 1) ∷ [])

  created : create_decision standing 2 (state (example m) []) v1 a (fresh (codes "a")) 1 ≡ enters (done 2 2) (entry (Create a (fresh (codes "a")) 1))
  created = refl

  stands_at_two : find a one.objects ≡ Some (record { key = a; h = fresh (codes "a"); number = 2; at = v1beta1; born = 2; weight = 1 })
  stands_at_two = refl

  again : create_decision standing 3 one v1 a (fresh (codes "a")) 1 ≡ says present
  again = refl

  -- a replace by another number is told the newer one, whatever its value
  conflict : (new h : ObjectView) (w : ℕ) → ReplaceDecision (example m) standing 3 one v1 a 1 new w h (says (newer 2))
  conflict new h w = refl

  missing : (new h : ObjectView) (w : ℕ) → ReplaceDecision (example m) standing 3 one v1 b 2 new w h (says gone)
  missing new h w = refl

  delete_missing : (old : ObjectView) → DeleteDecision (example m) 3 one v1 b stamp old (says gone)
  delete_missing old = refl

  deleted : DeleteDecision (example m) 3 one v1 a stamp (fresh (codes "a")) (enters (done 3 2) (entry (Delete a)))
  deleted = (λ honest. refl, refl)

  nothing_left : (state (example m) (entry (Create a (fresh (codes "a")) 1) ∷ entry (Delete a) ∷ [])).objects ≡ []
  nothing_left = refl

-- ---- an update that changes nothing

module _ (m : Meaning) where
  abbrev log : List Item
  log = entry (Create a (fresh (codes "a")) 1) ∷ entry (SetVersions (storing v1)) ∷ entry (Replace a 2 (fresh (codes "a")) 1) ∷ []

  -- enters nothing while the object stands at the storage version
  unedited : ReplaceDecision (example m) standing 3 (state (example m) (take 1 log)) v1 a 2 (plain (codes "a")) 1 (fresh (codes "a")) (says (same 2 2))
  unedited = (fresh (codes "a"), true, λ honest. refl, (true, yes_same (plain (codes "a")).body, refl), yes_same (fresh (codes "a")), refl)

  -- and moves it to the storage version otherwise, with its generation
  moved : ReplaceDecision (example m) standing 4 (state (example m) (take 2 log)) v1 a 2 (plain (codes "a")) 1 (fresh (codes "a"))
      (enters (done 4 2) (entry (Replace a 2 (fresh (codes "a")) 1)))
  moved = (fresh (codes "a"), true, λ honest. refl, (true, yes_same (plain (codes "a")).body, refl), yes_same (fresh (codes "a")), refl)

  stands_at_four : find a (state (example m) log).objects ≡ Some (record { key = a; h = fresh (codes "a"); number = 4; at = v1; born = 2; weight = 1 })
  stands_at_four = refl

  stored : (state (example m) log).stored ≡ v1beta1 ∷ v1 ∷ []
  stored = refl

-- ---- room for three chunks

module _ (m : Meaning) where
  abbrev small : Limits
  small = record { objects = 16384; chunks = 3; window_records = 1024; window_chunks = 65536; migrations = 256 }

  -- the update of a to another text
  abbrev lighter : ObjectView
  lighter = updated_value false (fresh (codes "a")) (admitted (codes "a") [] (codes "y"))

  abbrev full_log : List Item
  full_log = entry (Create a (fresh (codes "a")) 2) ∷ entry (Replace a 2 lighter 1) ∷ entry (Create b (fresh (codes "b")) 2) ∷ []

  fits : create_decision small 2 (state (example m) []) v1 a (fresh (codes "a")) 2 ≡ enters (done 2 2) (entry (Create a (fresh (codes "a")) 2))
  fits = refl

  lacks : create_decision small 3 (state (example m) (take 1 full_log)) v1 b (fresh (codes "b")) 2 ≡ says (full (record { what = Chunks; need = 2; free = 1 }))
  lacks = refl

  value_differs : IsTrue false ↔ (lighter ≡ fresh (codes "a"))
  value_differs = (λ h. absurd cc, λ h. (x_differs (codes "a") (codes "a") [] []).1 (ap (λ (o : ObjectView). o.body) h))

  shrinks : ReplaceDecision (example m) small 3 (state (example m) (take 1 full_log)) v1 a 2 (admitted (codes "a") [] (codes "y")) 1 lighter
      (enters (done 3 2) (entry (Replace a 2 lighter 1)))
  shrinks = (
    fresh (codes "a"),
    false,
    λ honest. refl,
    (false, x_differs (codes "a") (codes "a") [] [], refl),
    value_differs,
    refl,
  )

  then_fits : create_decision small 4 (state (example m) (take 2 full_log)) v1 b (fresh (codes "b")) 2 ≡ enters (done 4 4) (entry (Create b (fresh (codes "b")) 2))
  then_fits = refl
