-- What a turn that removes or marks an object knows of it, and what it enters.
use Rattle.std.proofs.Common.{◌≡◌, ◌∙◌, ℕ, List, ◌++◌, ap, sym, subst, refl}
use Rattle.std.specs.Prelude.{not, nat_eq}
use mathlib.Core.List.{IsPrefix}
use Rattle.kube_meta.specs.Key.{KeyView}
use Rattle.kube_meta.specs.View.{ObjectView}
use Rattle.record_store.specs.ByKey.{find as find_record}
use Rattle.record_store.specs.View.{item_key}
use Rattle.api_calls.specs.Ends.{Decision, WriteEnd, done, kept, storage_moved, unserved, says, enters}
use Rattle.api_calls.specs.Item.{Item, Logged, entry, Delete, Mark, items}
use Rattle.api_calls.specs.Meaning.{Meaning}
use Rattle.api_calls.specs.Objects.{Stored, find}
use Rattle.api_calls.specs.State.{State, served}
use Rattle.api_calls.specs.Writes.{at_number, delete_commit, if_storage, mark_commit}
use Rattle.api_core.specs.laws.CoreLaws.{fits-later, known-later}
use Rattle.api_core.specs.laws.ListLaws.{items-append}
use Rattle.api_core.specs.Prepared.{FitsAt, KnownAt}
use Rattle.api_core.specs.Stands.{Stands}
use Rattle.api_core.specs.View.{CoreView}
use Rattle.api_core.specs.declared.seen.Prepared.{Prepared}
use Rattle.write_texts.specs.Removing.{IsToMark, WasAt}
use Rattle.shared_api.proofs.Committing.{EntersIt, at_number-item, choose}

-- ---- what is known at a later turn

pub later-items : (v w : List Logged) (p : IsPrefix v w) → items v ++ items p.0 ≡ items w
later-items v w p = sym (items-append v p.0) ∙ ap items p.1

pub known-now : (m : Meaning) (v w : List Logged) (k : KeyView) (number : ℕ) (P : Stored → Type 0) → IsPrefix v w → WasAt m (items v) k number P
    → KnownAt m (items w) k number P
known-now m v w k number P p was =
    subst (λ (log : List Item). KnownAt m log k number P) (later-items v w p)
    (subst (λ (n : ℕ). KnownAt m (items v ++ items p.0) k n P) was.at_number (known-later m (items v) (items p.0) k was.object P was.there was.known))

pub fits-now : (m : Meaning) (c : CoreView) (v w : List Logged) (k : KeyView) (number : ℕ) (p : Prepared) (h : ObjectView) (stamp : List ℕ) → IsPrefix v w → Stands m c (items w)
    → IsToMark m (items v) k number p h stamp → FitsAt k number p (find_record item_key k c.store.items)
fits-now m c v w k number p h stamp on stands to =
    subst (λ (n : ℕ). FitsAt k n p (find_record item_key k c.store.items)) to.was.at_number
    (fits-later m c (items v) (items on.0) k to.was.object p (subst (Stands m c) (sym (later-items v w on)) stands) to.was.there to.key to.weight)

-- ---- what is entered

pub delete-item : (n : ℕ) (s : State) (v : ℕ) (k : KeyView) (over : ℕ) → EntersIt (entry (Delete k)) (delete_commit n s v k over)
delete-item n s v k over =
    let i : Item = entry (Delete k) in
    let next : Stored → Decision WriteEnd = λ e. enters (done n e.born) i in
    choose (EntersIt i) (not (served s.flags v)) (says unserved) (at_number over (find k s.objects) next) refl (at_number-item over (find k s.objects) next i (λ e. refl))

pub mark-item : (n : ℕ) (s : State) (v at : ℕ) (k : KeyView) (over : ℕ) (stamp : List ℕ) → EntersIt (entry (Mark k over stamp)) (mark_commit n s v at k over stamp)
mark-item n s v at k over stamp =
    let i : Item = entry (Mark k over stamp) in
    let next : Stored → Decision WriteEnd = λ e. if_storage s at (enters (kept n e.born) i) in
    choose (EntersIt i) (not (served s.flags v)) (says unserved) (at_number over (find k s.objects) next) refl
    (at_number-item over (find k s.objects) next i
    (λ e. choose (EntersIt i) (nat_eq at s.flags.storage) (enters (kept n e.born) i) (says (storage_moved s.flags.storage)) refl refl))
