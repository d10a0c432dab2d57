-- What a commit enters, and the turn in which it did.
use Rattle.std.proofs.Common.{◌≡◌, ◌≤◌, ◌<◌, ◌+◌, ◌^◌, ℕ, Bool, true, false, List, [], ◌∷◌, ◌++◌, Option, None, Some, length, ap, sym, subst, refl, ◌∙◌, arith}
use Rattle.std.specs.Prelude.{not, is_some, nat_eq, if◌then◌else◌}
use Rattle.kube_meta.specs.Key.{KeyView}
use Rattle.kube_meta.specs.View.{ObjectView}
use Rattle.kube_meta.specs.declared.limits.Limits.{Limits}
use Rattle.kube_meta.specs.declared.limits.Room.{Room}
use Rattle.api_calls.specs.Calls.{Server}
use Rattle.api_calls.specs.Ends.{WriteEnd, done, unserved, present, newer, storage_moved, Decision, says, enters, EndsAsDecided, bound, grown}
use Rattle.api_calls.specs.Item.{Logged, Item, entry, Create, Replace, Release, items}
use Rattle.api_calls.specs.Legal.{IsLegal}
use Rattle.api_calls.specs.Meaning.{Meaning}
use Rattle.api_calls.specs.Objects.{Stored, find}
use Rattle.api_calls.specs.Room.{lacking, lacking_chunks}
use Rattle.api_calls.specs.State.{State, served, revision, state}
use Rattle.api_calls.specs.Writes.{with_room, if_storage, at_number, create_commit, replace_commit, release_commit}
use Rattle.api_core.specs.CoreOf.{CoreOf, SameBase, StandsFor}
use Rattle.api_core.specs.Prepared.{KnownAt}
use Rattle.api_core.specs.declared.seen.Prepared.{Prepared}
use Rattle.turn_cell.specs.declared.view.View.{View}
use Rattle.turn_cell.specs.declared.view.Stage.TheVariants.{Holds}
use Rattle.turn_cell.specs.Views.{set_stage, Later}
use mathlib.Core.List.{IsPrefix}
use Rattle.api_core.specs.laws.CoreLaws.{known-later}
use Rattle.shared_api.specs.Base.{StandsCell, base_of, server_of}
use Rattle.shared_api.specs.inner.WriteTurns.{Commits, SeenAt, creates, is_done}
use Rattle.shared_api.specs.inner.Turning.{Closes, Writes, item_if}
use Rattle.shared_api.specs.declared.cell.CoreBase.{CoreBase}
use Rattle.shared_api.proofs.Entering.{writes}
use Rattle.shared_api.proofs.Turns.{few_entries}

-- ---- what is entered

-- what a decision enters is this item, exactly where it ends with an entry
abbrev pub EntersIt : Item → Decision WriteEnd → Type 0
EntersIt i d = d.item ≡ item_if (is_done d.answer) i

pub choose : (P : Decision WriteEnd → Type 0) (b : Bool) (c d : Decision WriteEnd) → P c → P d → P (if b then c else d)
choose P true c d p q = p
choose P false c d p q = q

with_room-item : (n born : ℕ) (i : Item) (r : Option Room) → EntersIt i (with_room n born i r)
with_room-item n born i None = refl
with_room-item n born i (Some r) = refl

pub create-item : (limits : Limits) (n : ℕ) (s : State) (v at : ℕ) (k : KeyView) (h : ObjectView) (w : ℕ)
    → EntersIt (entry (Create k h w)) (create_commit limits n s v at k h w)
create-item limits n s v at k h w =
    let i : Item = entry (Create k h w) in
    let room = with_room n n i (lacking limits s.objects w) in
    choose (EntersIt i) (not (served s.flags v)) (says unserved) (if is_some (find k s.objects) then says present else if_storage s at room) refl
    (choose (EntersIt i) (is_some (find k s.objects)) (says present) (if_storage s at room) refl
    (choose (EntersIt i) (nat_eq at s.flags.storage) room (says (storage_moved s.flags.storage)) (with_room-item n n i (lacking limits s.objects w)) refl))

pub at_number-item : (over : ℕ) (o : Option Stored) (next : Stored → Decision WriteEnd) (i : Item) → ((e : Stored) → EntersIt i (next e)) → EntersIt i (at_number over o next)
at_number-item over None next i each = refl
at_number-item over (Some e) next i each = choose (EntersIt i) (nat_eq e.number over) (next e) (says (newer e.number)) (each e) refl

pub replace-item : (limits : Limits) (n : ℕ) (s : State) (v at : ℕ) (k : KeyView) (over : ℕ) (h : ObjectView) (w : ℕ)
    → EntersIt (entry (Replace k over h w)) (replace_commit limits n s v at k over h w)
replace-item limits n s v at k over h w =
    let i : Item = entry (Replace k over h w) in
    let room : Stored → Decision WriteEnd = λ e. with_room n e.born i (lacking_chunks limits s.objects e.weight w) in
    let next : Stored → Decision WriteEnd = λ e. if_storage s at (room e) in
    choose (EntersIt i) (not (served s.flags v)) (says unserved) (at_number over (find k s.objects) next) refl
    (at_number-item over (find k s.objects) next i
    (λ e. choose (EntersIt i) (nat_eq at s.flags.storage) (room e) (says (storage_moved s.flags.storage)) (with_room-item n e.born i (lacking_chunks limits s.objects e.weight w)) refl))

pub release-item : (n : ℕ) (s : State) (v : ℕ) (k : KeyView) (over : ℕ) → EntersIt (entry (Release k over)) (release_commit n s v k over)
release-item n s v k over =
    let i : Item = entry (Release k over) in
    let next : Stored → Decision WriteEnd = λ e. enters (done n e.born) i in
    choose (EntersIt i) (not (served s.flags v)) (says unserved) (at_number over (find k s.objects) next) refl (at_number-item over (find k s.objects) next i (λ e. refl))

-- ---- a turn that committed

-- a list that a core stands for has room for an item
pub few-revision : {V : Type 0} (meaning : V → Meaning) (c : CoreOf V) (log : List Logged) → StandsCell meaning c log → length log < 2 ^ 61 → c.view.revision ≤ 2 ^ 61
few-revision meaning c log stands short =
    let same = stands.0.revision in let few = few_entries log short in omega (arith, same, few)

module _ {V : Type 0} (meaning : V → Meaning) (c d : CoreOf V) (v w z : View (CoreBase V)) (D : Server → List Item → Decision WriteEnd) (e : WriteEnd) (i : Item) (entered : Bool)
    (enters_it : (s : Server) (log : List Item) → EntersIt i (D s log))
    (turn : EndsAsDecided bound (StandsFor meaning d) (items w.seen) (D (server_of meaning (base_of c)) (items w.seen)) e)
    (told : entered ≡ is_done e) where
  item : (D (server_of meaning (base_of c)) (items w.seen)).item ≡ item_if entered i
  item = enters_it (server_of meaning (base_of c)) (items w.seen) ∙ ap (λ (x : WriteEnd). item_if (is_done x) i) (sym turn.0) ∙ ap (λ (b : Bool). item_if b i) (sym told)

  -- the core stands for the list with the item
  pub committed-stands : StandsFor meaning d (grown (items w.seen) (item_if entered i))
  committed-stands = subst (λ (o : Option Item). StandsFor meaning d (grown (items w.seen) o)) item turn.1

  pub commits : (b : CoreBase V) → v.base ≡ Some (base_of c) → v.base ≡ Some b → (t : ℕ) × (w ≡ set_stage v w.seen (Holds t 0)) → Later v w.seen
      → StandsCell meaning c w.seen → length w.seen < 2 ^ 61 → SameBase c d
      → Closes (item_if entered i) w z → IsLegal (meaning d.versions) d.view.limits z.seen
      → Commits (server_of meaning b) v z (D (server_of meaning b)) e
  commits b based is took later stands short kept closed legal =
      let same : base_of c ≡ b = cc (based, is) in
      let one : D (server_of meaning b) (items w.seen) ≡ D (server_of meaning (base_of c)) (items w.seen) = ap (λ (x : CoreBase V). D (server_of meaning x) (items w.seen)) (sym same) in
      let ended = writes meaning c d b v w z (item_if entered i) based is took later stands short kept closed legal in
      record {
        log = w.seen;
        writes = subst (λ (o : Option Item). Writes (server_of meaning b) v z w.seen o) (sym (ap (λ (q : Decision WriteEnd). q.item) one ∙ item)) ended;
        ends = turn.0 ∙ ap (λ (q : Decision WriteEnd). q.answer) (sym one);
      }

-- ---- numbers

-- an entry has the number n, and where the object is created by it, so has its creation
abbrev pub IsNumbered : ℕ → Decision WriteEnd → Type 0
IsNumbered n d = (rv born : ℕ) → d.answer ≡ done rv born → (rv ≡ n) × (born ≡ n)

room-number : (n : ℕ) (i : Item) (r : Option Room) → IsNumbered n (with_room n n i r)
room-number n i (Some r) rv born is = cc
room-number n i None rv born is = (cc, cc)

pub create-number : (limits : Limits) (n : ℕ) (s : State) (v at : ℕ) (k : KeyView) (h : ObjectView) (w : ℕ) → IsNumbered n (create_commit limits n s v at k h w)
create-number limits n s v at k h w =
    let i : Item = entry (Create k h w) in
    let room = with_room n n i (lacking limits s.objects w) in
    choose (IsNumbered n) (not (served s.flags v)) (says unserved) (if is_some (find k s.objects) then says present else if_storage s at room) (λ rv born is. cc)
    (choose (IsNumbered n) (is_some (find k s.objects)) (says present) (if_storage s at room) (λ rv born is. cc)
    (choose (IsNumbered n) (nat_eq at s.flags.storage) room (says (storage_moved s.flags.storage)) (room-number n i (lacking limits s.objects w)) (λ rv born is. cc)))

-- of a create that ended so in a turn
pub created-number : {B : Type 0} (s : Server) (v z : View B) (at : ℕ) (p : Prepared) (h : ObjectView) (rv : ℕ) → Commits s v z (creates s at p h) (done rv rv) → rv < 2 ^ 62
created-number s v z at p h rv c =
    let n = create-number s.limits (revision (items c.log) + 1) (state s.meaning (items c.log)) at p.at p.key h p.weight rv rv (sym c.ends) in
    let number = n.0 in
    let few = c.writes.few in
    omega (arith, number, few)

-- where a storage version is told, it is that of the state
abbrev IsStorage : ℕ → Decision WriteEnd → Type 0
IsStorage storage d = (now : ℕ) → d.answer ≡ storage_moved now → storage ≡ now

room-storage : (storage n born : ℕ) (i : Item) (r : Option Room) → IsStorage storage (with_room n born i r)
room-storage storage n born i (Some r) now is = cc
room-storage storage n born i None now is = cc

pub create-storage : (limits : Limits) (n : ℕ) (s : State) (v at : ℕ) (k : KeyView) (h : ObjectView) (w now : ℕ) → (create_commit limits n s v at k h w).answer ≡ storage_moved now → s.flags.storage ≡ now
create-storage limits n s v at k h w now is =
    let i : Item = entry (Create k h w) in
    let room = with_room n n i (lacking limits s.objects w) in
    choose (IsStorage s.flags.storage) (not (served s.flags v)) (says unserved) (if is_some (find k s.objects) then says present else if_storage s at room) (λ now is. cc)
    (choose (IsStorage s.flags.storage) (is_some (find k s.objects)) (says present) (if_storage s at room) (λ now is. cc)
    (choose (IsStorage s.flags.storage) (nat_eq at s.flags.storage) room (says (storage_moved s.flags.storage)) (room-storage s.flags.storage n n i (lacking limits s.objects w)) (λ now is. cc))) now is

-- ---- what was seen at an earlier turn

items-append : (xs ys : List Logged) → items (xs ++ ys) ≡ items xs ++ items ys
items-append [] ys = refl
items-append (x ∷ xs) ys = ap (λ (is : List Item). x.item ∷ is) (items-append xs ys)

-- what was known of the object at a number is known at a later list
pub seen-later : (m : Meaning) (xs ys : List Logged) (k : KeyView) (over : ℕ) (P : Stored → Type 0) → SeenAt m (items xs) k over P → IsPrefix xs ys → KnownAt m (items ys) k over P
seen-later m xs ys k over P seen on =
    let more : List Item = items on.0 in
    let all : items ys ≡ items xs ++ more = ap (λ (l : List Logged). items l) (sym on.1) ∙ items-append xs on.0 in
    let known = known-later m (items xs) more k seen.object P seen.there seen.known in
    subst (λ (is : List Item). KnownAt m is k over P) (sym all) (subst (λ (n : ℕ). KnownAt m (items xs ++ more) k n P) seen.number known)
