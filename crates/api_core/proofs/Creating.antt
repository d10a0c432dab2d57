-- How a create ends at a list, by what the store answers.
use Rattle.std.proofs.Common.{◌≡◌, ℕ, ◌+◌, List, Option, None, Some, Bool, true, false, ap, sym, subst, refl, ◌∙◌, eq-eqb}
use Rattle.std.specs.Prelude.{option_map, is_some, if◌then◌else◌, IsTrue}
use Rattle.kube_meta.specs.View.{ObjectView}
use Rattle.kube_meta.specs.declared.limits.Room.{Room}
use Rattle.record_store.specs.declared.row.Record.{Record}
use Rattle.record_store.specs.ByKey.{find as find_record}
use Rattle.record_store.specs.View.{Item as RecordItem, StoreView, item_key, record_of}
use Rattle.record_store.specs.Moves.{new_item, with_new}
use Rattle.record_store.specs.Room.{put_end}
use Rattle.record_store.specs.Room as store
use Rattle.record_store.specs.declared.answer.PutEnd.TheVariants.{Done, Present, Gone, Moved, Full}
use Rattle.api_calls.specs.Meaning.{Meaning}
use Rattle.api_calls.specs.Item.{Item, entry, Create}
use Rattle.api_calls.specs.Objects.{Stored, find}
use Rattle.api_calls.specs.State.{served, next_number, revision, state}
use Rattle.api_calls.specs.Room.{lacking}
use Rattle.api_calls.specs.Legal.{IsNew, MayCreate}
use Rattle.api_calls.specs.Snap.{past}
use Rattle.api_calls.specs.laws.GrowthLaws.{next_number-revision}
use Rattle.api_calls.specs.Ends.{WriteEnd, done, unserved, present as exists, storage_moved, full, Decision, says, enters, EndsAsDecided, bound}
use Rattle.api_calls.specs.Writes.{create_commit, with_room, if_storage}
use Rattle.api_core.specs.declared.seen.Prepared.{Prepared}
use Rattle.api_core.specs.View.{CoreView}
use Rattle.api_core.specs.Keeps.{KeepsObject, IsText}
use Rattle.api_core.specs.Stands.{Stands}
use Rattle.api_core.specs.Prepared.{PreparesValue, record_for}
use Rattle.api_core.specs.laws.PairLaws.{pairs-room, looked-some, looked-none}
use Rattle.api_core.proofs.Growing.{Puts, written, written-stands}
use Rattle.api_core.specs.laws.DecideLaws.{unless-done, unless-full, unless-present, unless-gone, unless-moved, said, entered, unequal, decides-served, ends-unserved, absent, present, storage-same}

-- ---- what the store answers where absence is asked for

pub put-done : (w : ℕ) (o : Option RecordItem) (s : StoreView) → put_end None w o s ≡ Done → (o ≡ None) × (store.lacking s w ≡ None)
put-done w (Some x) s is = cc
put-done w None s is = (refl, unless-done (store.lacking s w) is)

pub put-full : (w : ℕ) (o : Option RecordItem) (s : StoreView) (r : Room) → put_end None w o s ≡ Full r → (o ≡ None) × (store.lacking s w ≡ Some r)
put-full w (Some x) s r is = cc
put-full w None s r is = (refl, unless-full (store.lacking s w) r is)

pub put-present : (w : ℕ) (o : Option RecordItem) (s : StoreView) → put_end None w o s ≡ Present → (x : RecordItem) × (o ≡ Some x)
put-present w (Some x) s is = (x, refl)
put-present w None s is = absurd (unless-present (store.lacking s w) is)

pub put-not_gone : (w : ℕ) (o : Option RecordItem) (s : StoreView) → put_end None w o s ≡ Gone → ⊥
put-not_gone w (Some x) s is = cc
put-not_gone w None s is = unless-gone (store.lacking s w) is

pub put-not_moved : (w : ℕ) (o : Option RecordItem) (s : StoreView) (n : ℕ) → put_end None w o s ≡ Moved n → ⊥
put-not_moved w (Some x) s n is = cc
put-not_moved w None s n is = unless-moved (store.lacking s w) n is

module _ (m : Meaning) (c : CoreView) (log : List Item) (stands : Stands m c log) where
  abbrev decided : ℕ → Prepared → ObjectView → Decision WriteEnd
  decided v p h = create_commit c.limits (revision log + 1) (state m log) v p.at p.key h p.weight

  pub create-unserved : (v : ℕ) (p : Prepared) (h : ObjectView) → served c.flags v ≡ false
      → EndsAsDecided bound (Stands m c) log (create_commit c.limits (revision log + 1) (state m log) v p.at p.key h p.weight) unserved
  create-unserved v p h is =
      ends-unserved m c log stands v
      (if is_some (find p.key (state m log).objects) then says exists
      else if_storage (state m log) p.at (with_room (revision log + 1) (revision log + 1) (entry (Create p.key h p.weight)) (lacking c.limits (state m log).objects p.weight))) is

  -- what is decided where the version is served
  decides : (v : ℕ) (p : Prepared) (h : ObjectView) (o : Option Stored) → served c.flags v ≡ true → find p.key (state m log).objects ≡ o
      → create_commit c.limits (revision log + 1) (state m log) v p.at p.key h p.weight
      ≡ (if is_some o then says exists
      else if_storage (state m log) p.at (with_room (revision log + 1) (revision log + 1) (entry (Create p.key h p.weight)) (lacking c.limits (state m log).objects p.weight)))
  decides v p h o may is =
      decides-served m c log stands v
      (if is_some (find p.key (state m log).objects) then says exists
      else if_storage (state m log) p.at (with_room (revision log + 1) (revision log + 1) (entry (Create p.key h p.weight)) (lacking c.limits (state m log).objects p.weight))) may
      ∙ ap
      (λ (q : Option Stored). if is_some q then says exists
      else if_storage (state m log) p.at (with_room (revision log + 1) (revision log + 1) (entry (Create p.key h p.weight)) (lacking c.limits (state m log).objects p.weight))) is

  pub create-exists : (v : ℕ) (p : Prepared) (h : ObjectView) (x : RecordItem) → served c.flags v ≡ true → find_record item_key p.key c.store.items ≡ Some x
      → EndsAsDecided bound (Stands m c) log (create_commit c.limits (revision log + 1) (state m log) v p.at p.key h p.weight) exists
  create-exists v p h x may is =
      let (e, there, keeps) = present m c log stands p.key x is in
      said (Stands m c) log (decided v p h) exists (decides v p h (Some e) may there) stands

  pub create-seen : (v : ℕ) (p : Prepared) (h : ObjectView) (r : Record) → served c.flags v ≡ true → option_map record_of (find_record item_key p.key c.store.items) ≡ Some r
      → EndsAsDecided bound (Stands m c) log (create_commit c.limits (revision log + 1) (state m log) v p.at p.key h p.weight) exists
  create-seen v p h r may is = let (x, found, told) = looked-some (find_record item_key p.key c.store.items) r is in create-exists v p h x may found

  pub create-moved : (v : ℕ) (p : Prepared) (h : ObjectView) → served c.flags v ≡ true → option_map record_of (find_record item_key p.key c.store.items) ≡ None
      → (p.at ≡ c.flags.storage → ⊥)
      → EndsAsDecided bound (Stands m c) log (create_commit c.limits (revision log + 1) (state m log) v p.at p.key h p.weight) (storage_moved c.flags.storage)
  create-moved v p h may is other =
      let none = absent m c log stands p.key (looked-none (find_record item_key p.key c.store.items) is) in
      let test = storage-same m c log stands p.at false (unequal p.at c.flags.storage other) in
      said (Stands m c) log (decided v p h) (storage_moved c.flags.storage)
      (decides v p h None may none
      ∙ ap
      (λ (b : Bool). if b then with_room (revision log + 1) (revision log + 1) (entry (Create p.key h p.weight)) (lacking c.limits (state m log).objects p.weight)
      else says (storage_moved (state m log).flags.storage)) test
      ∙ ap (λ f. says (storage_moved f.storage)) (sym stands.present.flags)) stands

  decides_room : (v : ℕ) (p : Prepared) (h : ObjectView) (r : Option Room) → served c.flags v ≡ true → find_record item_key p.key c.store.items ≡ None
      → p.at ≡ c.flags.storage → store.lacking c.store p.weight ≡ r
      → create_commit c.limits (revision log + 1) (state m log) v p.at p.key h p.weight ≡ with_room (revision log + 1) (revision log + 1) (entry (Create p.key h p.weight)) r
  decides_room v p h r may is same lacks =
      let none = absent m c log stands p.key is in
      let test = storage-same m c log stands p.at true (eq-eqb p.at c.flags.storage same) in
      let room = sym (pairs-room m c.limits c.store (state m log).objects p.weight stands.limits.store stands.present.records) ∙ lacks in
      decides v p h None may none
      ∙ ap
      (λ (b : Bool). if b then with_room (revision log + 1) (revision log + 1) (entry (Create p.key h p.weight)) (lacking c.limits (state m log).objects p.weight)
      else says (storage_moved (state m log).flags.storage)) test
      ∙ ap (with_room (revision log + 1) (revision log + 1) (entry (Create p.key h p.weight))) room

  pub create-full : (v : ℕ) (p : Prepared) (h : ObjectView) (r : Room) → served c.flags v ≡ true → find_record item_key p.key c.store.items ≡ None
      → p.at ≡ c.flags.storage → store.lacking c.store p.weight ≡ Some r
      → EndsAsDecided bound (Stands m c) log (create_commit c.limits (revision log + 1) (state m log) v p.at p.key h p.weight) (full r)
  create-full v p h r may is same lacks = said (Stands m c) log (decided v p h) (full r) (decides_room v p h (Some r) may is same lacks) stands

  create-puts : (p : Prepared) (h : ObjectView) → PreparesValue m p h → (IsTrue m.honest → IsNew h) → find_record item_key p.key c.store.items ≡ None
      → p.at ≡ c.flags.storage → store.lacking c.store p.weight ≡ None → Puts m c log (record_for p) c.migrations (Create p.key h p.weight)
  create-puts p h prepares new is same lacks =
      let none = absent m c log stands p.key is in
      let room = sym (pairs-room m c.limits c.store (state m log).objects p.weight stands.limits.store stands.present.records) ∙ lacks in
      let storage : p.at ≡ (state m log).flags.storage = same ∙ ap (λ f. f.storage) stands.present.flags in
      let number : c.revision + 1 ≡ next_number log = ap (λ (n : ℕ). n + 1) stands.revision ∙ sym (next_number-revision log) in
      let may : MayCreate m c.limits p.key h p.weight (state m log) = record { absent = none; value = prepares.value; fresh = new; room = room } in
      let object : Stored = record { key = p.key; h = h; number = next_number log; at = (state m log).flags.storage; born = next_number log; weight = p.weight } in
      let keeps : KeepsObject m (new_item (c.revision + 1) (record_for p) None) object = record {
        key = refl;
        number = number;
        at = storage;
        born = number;
        weight = refl;
        text = subst (λ (a : ℕ). IsText m a h p.bytes.bytes) storage prepares.text;
      } in
      record {
        object = object;
        plan = (state m log).plan;
        may = may;
        effect = refl;
        past = ap (past (next_number log)) (sym none);
        keeps = subst (λ (o : Option RecordItem). KeepsObject m (new_item (c.revision + 1) (record_for p) o) object) (sym is) keeps;
        migrations = refl;
        limit = refl;
        plan_is = stands.present.plan;
      }

  pub create-done : (v : ℕ) (p : Prepared) (h : ObjectView) → PreparesValue m p h → (IsTrue m.honest → IsNew h) → served c.flags v ≡ true
      → find_record item_key p.key c.store.items ≡ None → p.at ≡ c.flags.storage → store.lacking c.store p.weight ≡ None
      → EndsAsDecided bound (Stands m (written c (record_for p) c.migrations)) log (create_commit c.limits (revision log + 1) (state m log) v p.at p.key h p.weight) (done (c.revision + 1) (c.revision + 1))
  create-done v p h prepares new may is same lacks =
      let number : revision log + 1 ≡ c.revision + 1 = ap (λ (n : ℕ). n + 1) (sym stands.revision) in
      entered (Stands m (written c (record_for p) c.migrations)) log (decided v p h) (done (c.revision + 1) (c.revision + 1)) (entry (Create p.key h p.weight))
      (decides_room v p h None may is same lacks ∙ ap (λ (n : ℕ). enters (done n n) (entry (Create p.key h p.weight))) number)
      (written-stands m c log (record_for p) c.migrations (Create p.key h p.weight) stands (create-puts p h prepares new is same lacks))

  -- ---- as the store answered

  pub create-refused_present : (v : ℕ) (p : Prepared) (h : ObjectView) (s : StoreView) → served c.flags v ≡ true
      → put_end None p.weight (find_record item_key p.key c.store.items) c.store ≡ Present → s ≡ c.store
      → EndsAsDecided bound (Stands m (record c { store = s })) log (create_commit c.limits (revision log + 1) (state m log) v p.at p.key h p.weight) exists
  create-refused_present v p h s may end is =
      let (x, found) = put-present p.weight (find_record item_key p.key c.store.items) c.store end in
      subst (λ (t : StoreView). EndsAsDecided bound (Stands m (record c { store = t })) log (create_commit c.limits (revision log + 1) (state m log) v p.at p.key h p.weight) exists)
      (sym is) (create-exists v p h x may found)

  pub create-refused_full : (v : ℕ) (p : Prepared) (h : ObjectView) (r : Room) (s : StoreView) → served c.flags v ≡ true → p.at ≡ c.flags.storage
      → put_end None p.weight (find_record item_key p.key c.store.items) c.store ≡ Full r → s ≡ c.store
      → EndsAsDecided bound (Stands m (record c { store = s })) log (create_commit c.limits (revision log + 1) (state m log) v p.at p.key h p.weight) (full r)
  create-refused_full v p h r s may same end is =
      let (none, lacks) = put-full p.weight (find_record item_key p.key c.store.items) c.store r end in
      subst (λ (t : StoreView). EndsAsDecided bound (Stands m (record c { store = t })) log (create_commit c.limits (revision log + 1) (state m log) v p.at p.key h p.weight) (full r))
      (sym is) (create-full v p h r may none same lacks)

  pub create-written : (v : ℕ) (p : Prepared) (h : ObjectView) (s : StoreView) → PreparesValue m p h → (IsTrue m.honest → IsNew h) → served c.flags v ≡ true → p.at ≡ c.flags.storage
      → put_end None p.weight (find_record item_key p.key c.store.items) c.store ≡ Done → s ≡ with_new (c.revision + 1) (record_for p) c.store
      → EndsAsDecided bound (Stands m (record c { revision = c.revision + 1; store = s })) log (create_commit c.limits (revision log + 1) (state m log) v p.at p.key h p.weight) (done (c.revision + 1) (c.revision + 1))
  create-written v p h s prepares new may same end is =
      let (none, room) = put-done p.weight (find_record item_key p.key c.store.items) c.store end in
      subst
      (λ (t : StoreView). EndsAsDecided bound (Stands m (record c { revision = c.revision + 1; store = t })) log (create_commit c.limits (revision log + 1) (state m log) v p.at p.key h p.weight) (done (c.revision + 1) (c.revision + 1)))
      (sym is) (create-done v p h prepares new may none same room)
