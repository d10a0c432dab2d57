-- What is decided of a create, a replace and a delete, the next number being n.
use Rattle.std.specs.Prelude.{◌≡◌, ◌↔◌, ℕ, Bool, not, ◌&&◌, List, Option, None, Some, MatchOption, MatchBool, is_some, nat_eq, if◌then◌else◌, IsTrue}
use Rattle.kube_meta.specs.Key.{KeyView}
use Rattle.kube_meta.specs.View.{ObjectView}
use Rattle.kube_meta.specs.declared.limits.Limits.{Limits}
use Rattle.kube_meta.specs.declared.limits.Room.{Room}
use Rattle.api_calls.specs.Meaning.{Meaning}
use Rattle.api_calls.specs.Item.{Item, entry, Create, Replace, Mark, Release, Delete}
use Rattle.api_calls.specs.Objects.{Stored, find}
use Rattle.api_calls.specs.State.{State, served}
use Rattle.api_calls.specs.Room.{lacking, lacking_chunks}
use Rattle.api_calls.specs.Values.{IsUpdate, has_finalizer, is_marked, is_forbidden, is_release}
use Rattle.api_calls.specs.Ends.{WriteEnd, done, kept, same, unserved, present, gone, newer, forbidden, storage_moved, full, Decision, says, enters}

-- entered, unless room is lacking
abbrev pub with_room : ℕ → ℕ → Item → Option Room → Decision WriteEnd
with_room n born i (Some r) = says (full r)
with_room n born i None = enters (done n born) i

-- a value that was prepared for a version goes on only where that is the storage version
abbrev pub if_storage : State → ℕ → Decision WriteEnd → Decision WriteEnd
if_storage s at next = if nat_eq at s.flags.storage then next else says (storage_moved s.flags.storage)

-- ---- commits: of values that were prepared for a version

-- a create of this value, which was prepared for the version `at`
abbrev pub create_commit : Limits → ℕ → State → ℕ → ℕ → KeyView → ObjectView → ℕ → Decision WriteEnd
create_commit limits n s v at k h w =
    if not (served s.flags v) then says unserved
    else if is_some (find k s.objects) then says present
    else if_storage s at (with_room n n (entry (Create k h w)) (lacking limits s.objects w))

-- what is decided of the object that stands at a number
abbrev pub at_number : ℕ → Option Stored → (Stored → Decision WriteEnd) → Decision WriteEnd
at_number over None next = says gone
at_number over (Some e) next = if nat_eq e.number over then next e else says (newer e.number)

abbrev pub replace_commit : Limits → ℕ → State → ℕ → ℕ → KeyView → ℕ → ObjectView → ℕ → Decision WriteEnd
replace_commit limits n s v at k over h w =
    if not (served s.flags v) then says unserved
    else at_number over (find k s.objects)
    (λ e. if_storage s at (with_room n e.born (entry (Replace k over h w)) (lacking_chunks limits s.objects e.weight w)))

abbrev pub release_commit : ℕ → State → ℕ → KeyView → ℕ → Decision WriteEnd
release_commit n s v k over =
    if not (served s.flags v) then says unserved
    else at_number over (find k s.objects) (λ e. enters (done n e.born) (entry (Release k over)))

abbrev pub delete_commit : ℕ → State → ℕ → KeyView → ℕ → Decision WriteEnd
delete_commit n s v k over =
    if not (served s.flags v) then says unserved
    else at_number over (find k s.objects) (λ e. enters (done n e.born) (entry (Delete k)))

-- a delete of an object that has a finalizer, whose marked value was prepared for the version `at`
abbrev pub mark_commit : ℕ → State → ℕ → ℕ → KeyView → ℕ → List ℕ → Decision WriteEnd
mark_commit n s v at k over stamp =
    if not (served s.flags v) then says unserved
    else at_number over (find k s.objects) (λ e. if_storage s at (enters (kept n e.born) (entry (Mark k over stamp))))

-- ---- the one-thread server

-- of a create: the value stands at the storage version
abbrev pub create_decision : Limits → ℕ → State → ℕ → KeyView → ObjectView → ℕ → Decision WriteEnd
create_decision limits n s v k h w = create_commit limits n s v s.flags.storage k h w

-- of a replace of the object e, whose value is taken for `old`, by the update h; `equal` tells whether h is `old`
abbrev pub replaced : Limits → ℕ → State → KeyView → ObjectView → ObjectView → ℕ → Bool → Stored → Decision WriteEnd
replaced limits n s k old h w equal e =
    if is_forbidden old h then says forbidden
    else if is_release old h then enters (done n e.born) (entry (Release k e.number))
    else if equal && nat_eq e.at s.flags.storage then says (same e.number e.born)
    else with_room n e.born (entry (Replace k e.number h w)) (lacking_chunks limits s.objects e.weight w)

-- of a delete of the object e, whose value is taken for `old`
abbrev pub removed : ℕ → KeyView → ObjectView → List ℕ → Stored → Decision WriteEnd
removed n k old stamp e =
    if not (has_finalizer old) then enters (done n e.born) (entry (Delete k))
    else if is_marked old then says (kept e.number e.born)
    else enters (kept n e.born) (entry (Mark k e.number stamp))

-- what is taken for a value: where it is known what values mean, it is the value
abbrev pub Takes : Meaning → ObjectView → ObjectView → Type 0
Takes m h g = IsTrue m.honest → g ≡ h

-- the update h of the object e by a new value, and what is decided of it
abbrev pub Replaces : Meaning → Limits → ℕ → State → KeyView → ObjectView → ℕ → Stored → ObjectView → Decision WriteEnd → Type 0
Replaces m limits n s k new w e h d =
    (old : ObjectView) × (equal : Bool) × Takes m e.h old × IsUpdate old new h × (IsTrue equal ↔ (h ≡ old)) × (d ≡ replaced limits n s k old h w equal e)

-- a replace of the object at a number by a new value: the update, and what is decided
abbrev pub ReplaceDecision : Meaning → Limits → ℕ → State → ℕ → KeyView → ℕ → ObjectView → ℕ → ObjectView → Decision WriteEnd → Type 0
ReplaceDecision m limits n s v k over new w h d =
    MatchBool (served s.flags v)
    (MatchOption (find k s.objects) (d ≡ says gone)
    (λ e. MatchBool (nat_eq e.number over) (Replaces m limits n s k new w e h d) (d ≡ says (newer e.number))))
    (d ≡ says unserved)

-- a delete: the value that the object had, and what is decided
abbrev pub DeleteDecision : Meaning → ℕ → State → ℕ → KeyView → List ℕ → ObjectView → Decision WriteEnd → Type 0
DeleteDecision m n s v k stamp old d =
    MatchBool (served s.flags v)
    (MatchOption (find k s.objects) (d ≡ says gone) (λ e. Takes m e.h old × (d ≡ removed n k old stamp e)))
    (d ≡ says unserved)
