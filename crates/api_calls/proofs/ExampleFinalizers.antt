-- An example of finalizers: a delete marks the object, no finalizer is added from then on, and the update that removes the last one removes the object.
use Rattle.std.specs.Prelude.{◌≡◌, ◌↔◌, ℕ, pos, true, false, List, [], ◌∷◌, None, Some, codes, take, IsTrue}
use Rattle.std.proofs.Common.{refl, ap}
use Rattle.kube_meta.specs.Key.{KeyView}
use Rattle.kube_meta.specs.View.{ObjectView}
use Rattle.api_calls.specs.Meaning.{Meaning}
use Rattle.api_calls.specs.Item.{Item, entry, note, Create, Replace, Mark, Release, Touch, SetVersions, StartMigration, Claim}
use Rattle.api_calls.specs.Objects.{find, marked}
use Rattle.api_calls.specs.State.{State, state, revision}
use Rattle.api_calls.specs.Values.{created_value, updated_value}
use Rattle.api_calls.specs.Ends.{done, kept, forbidden, touched, says, enters}
use Rattle.api_calls.specs.Writes.{ReplaceDecision, DeleteDecision}
use Rattle.api_calls.specs.Work.{work_decision}
use Rattle.api_calls.proofs.ExampleServer.{v1, v1beta1, storing, example, standing, key, stamp, admitted, x_differs}

module _ (m : Meaning) where
  abbrev a : KeyView
  a = key (codes "a")

  abbrev hold : List ℕ
  hold = codes "example.com/hold"

  abbrev more : List ℕ
  more = codes "example.com/more"

  abbrev first : ObjectView
  first = created_value stamp (admitted (codes "a") (hold ∷ []) (codes "x"))

  abbrev deleting : ObjectView
  deleting = marked stamp first

  -- the update to another text
  abbrev edited : ObjectView
  edited = updated_value false deleting (admitted (codes "a") (hold ∷ []) (codes "y"))

  abbrev log : List Item
  log = entry (Create a first 1) ∷ entry (Mark a 2 stamp) ∷ entry (Replace a 3 edited 1) ∷ entry (Release a 4) ∷ []

  abbrev after : ℕ → State
  after k = state (example m) (take k log)

  -- the delete keeps the object, with a deletion stamp and its generation
  delete : DeleteDecision (example m) 3 (after 1) v1 a stamp first (enters (kept 3 2) (entry (Mark a 2 stamp)))
  delete = (λ honest. refl, refl)

  marked_now : find a (after 2).objects ≡ Some (record { key = a; h = deleting; number = 3; at = v1beta1; born = 2; weight = 1 })
  marked_now = refl

  generation_stays : deleting.meta.generation ≡ pos 1
  generation_stays = refl

  stamp_is : deleting.meta.deleted ≡ Some (codes "2024-01-02T03:04:05Z")
  stamp_is = refl

  -- the same again enters nothing
  delete_again : DeleteDecision (example m) 4 (after 2) v1 a stamp deleting (says (kept 3 2))
  delete_again = (λ honest. refl, refl)

  value_differs : (fs : List (List ℕ)) → IsTrue false ↔ (updated_value false deleting (admitted (codes "a") fs (codes "y")) ≡ deleting)
  value_differs fs = (λ h. absurd cc, λ h. (x_differs (codes "a") (codes "a") fs (hold ∷ [])).1 (ap (λ (o : ObjectView). o.body) h))

  -- no finalizer is added
  adds_more : ReplaceDecision (example m) standing 4 (after 2) v1 a 3 (admitted (codes "a") (hold ∷ more ∷ []) (codes "y")) 1
      (updated_value false deleting (admitted (codes "a") (hold ∷ more ∷ []) (codes "y"))) (says forbidden)
  adds_more = (deleting, false, λ honest. refl, (false, x_differs (codes "a") (codes "a") (hold ∷ more ∷ []) (hold ∷ []), refl), value_differs (hold ∷ more ∷ []), refl)

  -- another text is taken, and the stamp stays
  edits : ReplaceDecision (example m) standing 4 (after 2) v1 a 3 (admitted (codes "a") (hold ∷ []) (codes "y")) 1 edited
      (enters (done 4 2) (entry (Replace a 3 edited 1)))
  edits = (deleting, false, λ honest. refl, (false, x_differs (codes "a") (codes "a") (hold ∷ []) (hold ∷ []), refl), value_differs (hold ∷ []), refl)

  generation_rises : edited.meta.generation ≡ pos 2
  generation_rises = refl

  stamp_stays : edited.meta.deleted ≡ Some stamp
  stamp_stays = refl

  yes_same : {X : Type 0} (x : X) → IsTrue true ↔ (x ≡ x)
  yes_same x = (λ h. refl, λ h. refl)

  -- the last finalizer goes, and with it the object
  abbrev last : ObjectView
  last = updated_value true edited (admitted (codes "a") [] (codes "y"))

  finalizer_went : IsTrue false ↔ (last ≡ edited)
  finalizer_went = (λ h. absurd cc, λ h. let e : [] ≡ hold ∷ [] = ap (λ (o : ObjectView). o.meta.finalizers) h in absurd cc)

  releases : ReplaceDecision (example m) standing 5 (after 3) v1 a 4 (admitted (codes "a") [] (codes "y")) 1 last (enters (done 5 2) (entry (Release a 4)))
  releases = (edited, false, λ honest. refl, (true, yes_same edited.body, refl), finalizer_went, refl)

  gone_now : find a (after 4).objects ≡ None
  gone_now = refl

  revision_five : revision log ≡ 5
  revision_five = refl

  -- a migration moves a marked object, and its stamp stays
  abbrev moving : List Item
  moving =
      entry (Create a first 1)
      ∷ entry (Mark a 2 stamp)
      ∷ entry (SetVersions (storing v1))
      ∷ entry (StartMigration (codes "m"))
      ∷ note (Claim 1)
      ∷ entry (Touch a 1)
      ∷ []

  touches : work_decision 6 (state (example m) (take 5 moving)) (Some 1) ≡ record { decision = enters (touched 6) (entry (Touch a 1)); claim = Some 1 }
  touches = refl

  moved_marked : find a (state (example m) moving).objects ≡ Some (record { key = a; h = deleting; number = 6; at = v1; born = 2; weight = 1 })
  moved_marked = refl
