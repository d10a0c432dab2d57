-- How a replace, and a mark of an object that is being deleted, end at a list, by what the store answers.
use Rattle.std.proofs.Common.{◌≡◌, ℕ, ◌+◌, List, Option, None, Some, Bool, true, false, ap, sym, subst, refl, ◌∙◌, eq-eqb}
use Rattle.std.specs.Prelude.{option_map, nat_eq, if◌then◌else◌}
use Rattle.kube_meta.specs.Key.{KeyView}
use Rattle.kube_meta.specs.View.{ObjectView}
use Rattle.kube_meta.specs.declared.limits.Room.{Room}
use Rattle.record_store.specs.declared.row.Record.{Record}
use Rattle.record_store.specs.ByKey.{find as find_record}
use Rattle.record_store.specs.View.{Item as RecordItem, StoreView, item_key, record_of}
use Rattle.record_store.specs.Moves.{new_item, with_new}
use Rattle.record_store.specs.Room.{put_end, touch_end, unless_full}
use Rattle.record_store.specs.Room as store
use Rattle.record_store.specs.declared.answer.PutEnd.TheVariants.{Done, Moved, Full}
use Rattle.api_calls.specs.Meaning.{Meaning}
use Rattle.api_calls.specs.Item.{Item, entry, Replace, Mark}
use Rattle.api_calls.specs.Objects.{Stored, find, marked, marked_at, born_or}
use Rattle.api_calls.specs.State.{served, next_number, revision, state}
use Rattle.api_calls.specs.Room.{lacking_chunks}
use Rattle.api_calls.specs.Legal.{IsValue, MayReplace, MayMark}
use Rattle.api_calls.specs.laws.GrowthLaws.{next_number-revision}
use Rattle.api_calls.specs.Ends.{WriteEnd, done, kept, unserved, gone, newer, storage_moved, full, Decision, says, enters, EndsAsDecided, bound}
use Rattle.api_calls.specs.Writes.{replace_commit, mark_commit, with_room, if_storage, at_number}
use Rattle.api_core.specs.declared.seen.Prepared.{Prepared}
use Rattle.api_core.specs.View.{CoreView}
use Rattle.api_core.specs.Keeps.{KeepsObject, IsText}
use Rattle.api_core.specs.Stands.{Stands}
use Rattle.api_core.specs.Prepared.{PreparesValue, KnownAt, Replacing, Marking, FitsAt, record_for}
use Rattle.api_core.specs.laws.PairLaws.{find-key, updated-put, pairs-chunks, looked-some}
use Rattle.api_core.proofs.Growing.{Puts, written, written-stands}
use Rattle.api_core.specs.laws.DecideLaws.{unless-done, unless-full, said, entered, unequal, served_at, AtNumber, ends-unserved, ends-gone, ends-newer, at-number, decides-next, storage-same}

-- ---- what the store answers where a record stands at the number that is asked for

pub put-at : (over w : ℕ) (o : Option RecordItem) (r : Record) (s : StoreView) → option_map record_of o ≡ Some r → r.rv ≡ over
    → put_end (Some over) w o s ≡ unless_full (store.lacking_chunks s r.weight w)
put-at over w o r s is at =
    let (x, found, told) = looked-some o r is in
    let same : nat_eq x.rv over ≡ true = eq-eqb x.rv over (ap (λ (q : Record). q.rv) told ∙ at) in
    ap (λ (q : Option RecordItem). put_end (Some over) w q s) found
    ∙ ap (λ (b : Bool). if b then unless_full (store.lacking_chunks s x.weight w) else Moved x.rv) same
    ∙ ap (λ (q : Record). unless_full (store.lacking_chunks s q.weight w)) told

pub touch-at : (over : ℕ) (o : Option RecordItem) (r : Record) → option_map record_of o ≡ Some r → r.rv ≡ over → touch_end over o ≡ Done
touch-at over o r is at =
    let (x, found, told) = looked-some o r is in
    let same : nat_eq x.rv over ≡ true = eq-eqb x.rv over (ap (λ (q : Record). q.rv) told ∙ at) in
    ap (touch_end over) found ∙ ap (λ (b : Bool). if b then Done else Moved x.rv) same

-- what was prepared has the key and the weight of the record
pub fits-told : (k : KeyView) (over : ℕ) (p : Prepared) (o : Option RecordItem) (r : Record) → FitsAt k over p o → option_map record_of o ≡ Some r → r.rv ≡ over
    → (p.key ≡ k) × (p.weight ≡ r.weight)
fits-told k over p None r fits is at = cc
fits-told k over p (Some x) r fits is at =
    let told : record_of x ≡ r = cc in
    let both = fits (ap (λ (q : Record). q.rv) told ∙ at) in
    (both.0, both.1 ∙ ap (λ (q : Record). q.weight) told)

module _ (m : Meaning) (c : CoreView) (log : List Item) (stands : Stands m c log) where
  number : revision log + 1 ≡ c.revision + 1
  number = ap (λ (n : ℕ). n + 1) (sym stands.revision)

  next : c.revision + 1 ≡ next_number log
  next = ap (λ (n : ℕ). n + 1) stands.revision ∙ sym (next_number-revision log)

  born_told : (k : KeyView) (over : ℕ) (r : Record) (a : AtNumber m c log k over r) → a.object.born ≡ r.born
  born_told k over r a = sym a.keeps.born ∙ ap (λ (q : Record). q.born) a.told

  -- what is decided of a value, where the storage version is the one that it was prepared for, or another
  storage_is : (at : ℕ) (d : Decision WriteEnd) → at ≡ c.flags.storage → if_storage (state m log) at d ≡ d
  storage_is at d is =
      ap (λ (b : Bool). if b then d else says (storage_moved (state m log).flags.storage)) (storage-same m c log stands at true (eq-eqb at c.flags.storage is))

  storage_other : (at : ℕ) (d : Decision WriteEnd) → (at ≡ c.flags.storage → ⊥) → if_storage (state m log) at d ≡ says (storage_moved c.flags.storage)
  storage_other at d other =
      ap (λ (b : Bool). if b then d else says (storage_moved (state m log).flags.storage)) (storage-same m c log stands at false (unequal at c.flags.storage other))
      ∙ ap (λ f. says (storage_moved f.storage)) (sym stands.present.flags)

  -- ---- a replace

  abbrev replaces : Prepared → ℕ → ObjectView → Stored → Decision WriteEnd
  replaces p over h e =
      if_storage (state m log) p.at (with_room (revision log + 1) e.born (entry (Replace p.key over h p.weight)) (lacking_chunks c.limits (state m log).objects e.weight p.weight))

  pub replace-unserved : (v : ℕ) (p : Prepared) (over : ℕ) (h : ObjectView) → served c.flags v ≡ false
      → EndsAsDecided bound (Stands m c) log (replace_commit c.limits (revision log + 1) (state m log) v p.at p.key over h p.weight) unserved
  replace-unserved v p over h is = ends-unserved m c log stands v (at_number over (find p.key (state m log).objects) (replaces p over h)) is

  pub replace-gone : (v : ℕ) (p : Prepared) (over : ℕ) (h : ObjectView) → served c.flags v ≡ true → option_map record_of (find_record item_key p.key c.store.items) ≡ None
      → EndsAsDecided bound (Stands m c) log (replace_commit c.limits (revision log + 1) (state m log) v p.at p.key over h p.weight) gone
  replace-gone v p over h may is = ends-gone m c log stands v p.key over (replaces p over h) may is

  pub replace-newer : (v : ℕ) (p : Prepared) (over : ℕ) (h : ObjectView) (r : Record) → served c.flags v ≡ true
      → option_map record_of (find_record item_key p.key c.store.items) ≡ Some r → (r.rv ≡ over → ⊥)
      → EndsAsDecided bound (Stands m c) log (replace_commit c.limits (revision log + 1) (state m log) v p.at p.key over h p.weight) (newer r.rv)
  replace-newer v p over h r may is other = ends-newer m c log stands v p.key over (replaces p over h) r may is other

  pub replace-moved : (v : ℕ) (p : Prepared) (over : ℕ) (h : ObjectView) (r : Record) → served c.flags v ≡ true
      → option_map record_of (find_record item_key p.key c.store.items) ≡ Some r → r.rv ≡ over → (p.at ≡ c.flags.storage → ⊥)
      → EndsAsDecided bound (Stands m c) log (replace_commit c.limits (revision log + 1) (state m log) v p.at p.key over h p.weight) (storage_moved c.flags.storage)
  replace-moved v p over h r may is at other =
      let a = at-number m c log stands p.key over r is at in
      said (Stands m c) log (served_at (state m log) v p.key over (replaces p over h)) (storage_moved c.flags.storage)
      (decides-next m c log stands v p.key over (replaces p over h) r a may
      ∙ storage_other p.at (with_room (revision log + 1) a.object.born (entry (Replace p.key over h p.weight)) (lacking_chunks c.limits (state m log).objects a.object.weight p.weight)) other) stands

  -- the room that the store tells is that of the state
  replace_room : (p : Prepared) (over : ℕ) (r : Record) (room : Option Room) (a : AtNumber m c log p.key over r) → store.lacking_chunks c.store r.weight p.weight ≡ room
      → lacking_chunks c.limits (state m log).objects a.object.weight p.weight ≡ room
  replace_room p over r room a lacks =
      let weight : a.object.weight ≡ r.weight = sym a.keeps.weight ∙ ap (λ (q : Record). q.weight) a.told in
      ap (λ (w : ℕ). lacking_chunks c.limits (state m log).objects w p.weight) weight
      ∙ sym (pairs-chunks m c.limits c.store (state m log).objects r.weight p.weight stands.limits.store stands.present.records) ∙ lacks

  replace_decides : (v : ℕ) (p : Prepared) (over : ℕ) (h : ObjectView) (r : Record) (room : Option Room) (a : AtNumber m c log p.key over r) → served c.flags v ≡ true
      → p.at ≡ c.flags.storage → store.lacking_chunks c.store r.weight p.weight ≡ room
      → replace_commit c.limits (revision log + 1) (state m log) v p.at p.key over h p.weight ≡ with_room (revision log + 1) a.object.born (entry (Replace p.key over h p.weight)) room
  replace_decides v p over h r room a may same lacks =
      decides-next m c log stands v p.key over (replaces p over h) r a may
      ∙ storage_is p.at (with_room (revision log + 1) a.object.born (entry (Replace p.key over h p.weight)) (lacking_chunks c.limits (state m log).objects a.object.weight p.weight)) same
      ∙ ap (with_room (revision log + 1) a.object.born (entry (Replace p.key over h p.weight))) (replace_room p over r room a lacks)

  pub replace-full : (v : ℕ) (p : Prepared) (over : ℕ) (h : ObjectView) (r : Record) (room : Room) → served c.flags v ≡ true
      → option_map record_of (find_record item_key p.key c.store.items) ≡ Some r → r.rv ≡ over → p.at ≡ c.flags.storage → store.lacking_chunks c.store r.weight p.weight ≡ Some room
      → EndsAsDecided bound (Stands m c) log (replace_commit c.limits (revision log + 1) (state m log) v p.at p.key over h p.weight) (full room)
  replace-full v p over h r room may is at same lacks =
      let a = at-number m c log stands p.key over r is at in
      said (Stands m c) log (served_at (state m log) v p.key over (replaces p over h)) (full room) (replace_decides v p over h r (Some room) a may same lacks) stands

  replace_puts : (p : Prepared) (over : ℕ) (h : ObjectView) (r : Record) (a : AtNumber m c log p.key over r) → PreparesValue m p h → KnownAt m log p.key over (Replacing p h)
      → p.at ≡ c.flags.storage → store.lacking_chunks c.store r.weight p.weight ≡ None → Puts m c log (record_for p) c.migrations (Replace p.key over h p.weight)
  replace_puts p over h r a prepares known same lacks =
      let storage : p.at ≡ (state m log).flags.storage = same ∙ ap (λ f. f.storage) stands.present.flags in
      let may : MayReplace m c.limits p.key over h p.weight (state m log) = record {
        stands = record { old = a.object; there = a.there; at_number = a.at_number };
        value = prepares.value;
        follows = λ honest. (known a.object a.there a.at_number honest).0;
        changes = λ honest equal at. (known a.object a.there a.at_number honest).1 equal (at ∙ sym storage);
        room = replace_room p over r None a lacks;
      } in
      let object : Stored = record {
        key = p.key;
        h = h;
        number = next_number log;
        at = (state m log).flags.storage;
        born = born_or (find p.key (state m log).objects) (next_number log);
        weight = p.weight;
      } in
      let keeps : KeepsObject m (new_item (c.revision + 1) (record_for p) (Some a.item)) object = record {
        key = refl;
        number = next;
        at = storage;
        born = a.keeps.born ∙ ap (λ (q : Option Stored). born_or q (next_number log)) (sym a.there);
        weight = refl;
        text = subst (λ (v : ℕ). IsText m v h p.bytes.bytes) storage prepares.text;
      } in
      record {
        object = object;
        plan = (state m log).plan;
        may = may;
        effect = refl;
        past = refl;
        keeps = subst (λ (o : Option RecordItem). KeepsObject m (new_item (c.revision + 1) (record_for p) o) object) (sym a.found) keeps;
        migrations = refl;
        limit = refl;
        plan_is = stands.present.plan;
      }

  pub replace-done : (v : ℕ) (p : Prepared) (over : ℕ) (h : ObjectView) (r : Record) → PreparesValue m p h → KnownAt m log p.key over (Replacing p h) → served c.flags v ≡ true
      → option_map record_of (find_record item_key p.key c.store.items) ≡ Some r → r.rv ≡ over → p.at ≡ c.flags.storage → store.lacking_chunks c.store r.weight p.weight ≡ None
      → EndsAsDecided bound (Stands m (written c (record_for p) c.migrations)) log (replace_commit c.limits (revision log + 1) (state m log) v p.at p.key over h p.weight) (done (c.revision + 1) r.born)
  replace-done v p over h r prepares known may is at same lacks =
      let a = at-number m c log stands p.key over r is at in
      entered (Stands m (written c (record_for p) c.migrations)) log (served_at (state m log) v p.key over (replaces p over h)) (done (c.revision + 1) r.born) (entry (Replace p.key over h p.weight))
      (replace_decides v p over h r None a may same lacks
      ∙ ap (λ (n : ℕ). enters (done n a.object.born) (entry (Replace p.key over h p.weight))) number
      ∙ ap (λ (b : ℕ). enters (done (c.revision + 1) b) (entry (Replace p.key over h p.weight))) (born_told p.key over r a))
      (written-stands m c log (record_for p) c.migrations (Replace p.key over h p.weight) stands (replace_puts p over h r a prepares known same lacks))

  pub replace-refused_full : (v : ℕ) (p : Prepared) (over : ℕ) (h : ObjectView) (r : Record) (room : Room) (s : StoreView) → served c.flags v ≡ true
      → option_map record_of (find_record item_key p.key c.store.items) ≡ Some r → r.rv ≡ over → p.at ≡ c.flags.storage
      → put_end (Some over) p.weight (find_record item_key p.key c.store.items) c.store ≡ Full room → s ≡ c.store
      → EndsAsDecided bound (Stands m (record c { store = s })) log (replace_commit c.limits (revision log + 1) (state m log) v p.at p.key over h p.weight) (full room)
  replace-refused_full v p over h r room s may is at same end store_is =
      let lacks = unless-full (store.lacking_chunks c.store r.weight p.weight) room
      (sym (put-at over p.weight (find_record item_key p.key c.store.items) r c.store is at) ∙ end) in
      subst (λ (t : StoreView). EndsAsDecided bound (Stands m (record c { store = t })) log (replace_commit c.limits (revision log + 1) (state m log) v p.at p.key over h p.weight) (full room))
      (sym store_is) (replace-full v p over h r room may is at same lacks)

  pub replace-written : (v : ℕ) (p : Prepared) (over : ℕ) (h : ObjectView) (r : Record) (s : StoreView) → PreparesValue m p h → KnownAt m log p.key over (Replacing p h) → served c.flags v ≡ true
      → option_map record_of (find_record item_key p.key c.store.items) ≡ Some r → r.rv ≡ over → p.at ≡ c.flags.storage
      → put_end (Some over) p.weight (find_record item_key p.key c.store.items) c.store ≡ Done → s ≡ with_new (c.revision + 1) (record_for p) c.store
      → EndsAsDecided bound (Stands m (record c { revision = c.revision + 1; store = s })) log (replace_commit c.limits (revision log + 1) (state m log) v p.at p.key over h p.weight) (done (c.revision + 1) r.born)
  replace-written v p over h r s prepares known may is at same end store_is =
      let room = unless-done (store.lacking_chunks c.store r.weight p.weight)
      (sym (put-at over p.weight (find_record item_key p.key c.store.items) r c.store is at) ∙ end) in
      subst
      (λ (t : StoreView). EndsAsDecided bound (Stands m (record c { revision = c.revision + 1; store = t })) log (replace_commit c.limits (revision log + 1) (state m log) v p.at p.key over h p.weight) (done (c.revision + 1) r.born))
      (sym store_is) (replace-done v p over h r prepares known may is at same room)

  -- ---- a mark

  abbrev marks : ℕ → KeyView → ℕ → List ℕ → Stored → Decision WriteEnd
  marks at k over stamp e = if_storage (state m log) at (enters (kept (revision log + 1) e.born) (entry (Mark k over stamp)))

  pub mark-unserved : (v at : ℕ) (k : KeyView) (over : ℕ) (stamp : List ℕ) → served c.flags v ≡ false
      → EndsAsDecided bound (Stands m c) log (mark_commit (revision log + 1) (state m log) v at k over stamp) unserved
  mark-unserved v at k over stamp is = ends-unserved m c log stands v (at_number over (find k (state m log).objects) (marks at k over stamp)) is

  pub mark-gone : (v at : ℕ) (k : KeyView) (over : ℕ) (stamp : List ℕ) → served c.flags v ≡ true → option_map record_of (find_record item_key k c.store.items) ≡ None
      → EndsAsDecided bound (Stands m c) log (mark_commit (revision log + 1) (state m log) v at k over stamp) gone
  mark-gone v at k over stamp may is = ends-gone m c log stands v k over (marks at k over stamp) may is

  pub mark-newer : (v at : ℕ) (k : KeyView) (over : ℕ) (stamp : List ℕ) (r : Record) → served c.flags v ≡ true
      → option_map record_of (find_record item_key k c.store.items) ≡ Some r → (r.rv ≡ over → ⊥)
      → EndsAsDecided bound (Stands m c) log (mark_commit (revision log + 1) (state m log) v at k over stamp) (newer r.rv)
  mark-newer v at k over stamp r may is other = ends-newer m c log stands v k over (marks at k over stamp) r may is other

  pub mark-moved : (v at : ℕ) (k : KeyView) (over : ℕ) (stamp : List ℕ) (r : Record) → served c.flags v ≡ true
      → option_map record_of (find_record item_key k c.store.items) ≡ Some r → r.rv ≡ over → (at ≡ c.flags.storage → ⊥)
      → EndsAsDecided bound (Stands m c) log (mark_commit (revision log + 1) (state m log) v at k over stamp) (storage_moved c.flags.storage)
  mark-moved v at k over stamp r may is here other =
      let a = at-number m c log stands k over r is here in
      said (Stands m c) log (served_at (state m log) v k over (marks at k over stamp)) (storage_moved c.flags.storage)
      (decides-next m c log stands v k over (marks at k over stamp) r a may
      ∙ storage_other at (enters (kept (revision log + 1) a.object.born) (entry (Mark k over stamp))) other) stands

  mark_puts : (p : Prepared) (over : ℕ) (h : ObjectView) (stamp : List ℕ) (r : Record) (a : AtNumber m c log p.key over r) → PreparesValue m p h
      → KnownAt m log p.key over (Marking h stamp) → p.at ≡ c.flags.storage → p.weight ≡ a.item.weight
      → Puts m c log (record_for p) c.migrations (Mark p.key over stamp)
  mark_puts p over h stamp r a prepares known same weight =
      let storage : p.at ≡ (state m log).flags.storage = same ∙ ap (λ f. f.storage) stands.present.flags in
      let key : a.object.key ≡ p.key = find-key p.key (state m log).objects a.object a.there in
      let may : MayMark m p.key over stamp (state m log) = record {
        stands = record { old = a.object; there = a.there; at_number = a.at_number };
        held = λ honest. (known a.object a.there a.at_number honest).0;
        unmarked = λ honest. (known a.object a.there a.at_number honest).1;
        value = λ honest.
            subst (λ (g : ObjectView). IsValue m p.key g a.object.weight) (known a.object a.there a.at_number honest).2
            (subst (λ (w : ℕ). IsValue m p.key h w) (weight ∙ a.keeps.weight) (prepares.value honest));
      } in
      let object : Stored = marked_at (next_number log) (state m log).flags.storage stamp a.object in
      let text : IsText m p.at (marked stamp a.object.h) p.bytes.bytes = record {
        value = prepares.text.value;
        stored = prepares.text.stored;
        same = λ honest. prepares.text.same honest ∙ (known a.object a.there a.at_number honest).2;
      } in
      let keeps : KeepsObject m (new_item (c.revision + 1) (record_for p) (Some a.item)) object = record {
        key = sym key;
        number = next;
        at = storage;
        born = a.keeps.born;
        weight = weight ∙ a.keeps.weight;
        text = subst (λ (v : ℕ). IsText m v (marked stamp a.object.h) p.bytes.bytes) storage text;
      } in
      record {
        object = object;
        plan = (state m log).plan;
        may = may;
        effect = ap (λ (es : List Stored). record (state m log) { objects = es })
            (updated-put (marked_at (next_number log) (state m log).flags.storage stamp) p.key (state m log).objects a.object key a.there);
        past = refl;
        keeps = subst (λ (o : Option RecordItem). KeepsObject m (new_item (c.revision + 1) (record_for p) o) object) (sym a.found) keeps;
        migrations = refl;
        limit = refl;
        plan_is = stands.present.plan;
      }

  mark_done : (v : ℕ) (p : Prepared) (over : ℕ) (h : ObjectView) (stamp : List ℕ) (r : Record) → PreparesValue m p h → KnownAt m log p.key over (Marking h stamp) → served c.flags v ≡ true
      → option_map record_of (find_record item_key p.key c.store.items) ≡ Some r → r.rv ≡ over → p.at ≡ c.flags.storage → p.weight ≡ r.weight
      → EndsAsDecided bound (Stands m (written c (record_for p) c.migrations)) log (mark_commit (revision log + 1) (state m log) v p.at p.key over stamp) (kept (c.revision + 1) r.born)
  mark_done v p over h stamp r prepares known may is at same weight =
      let a = at-number m c log stands p.key over r is at in
      entered (Stands m (written c (record_for p) c.migrations)) log (served_at (state m log) v p.key over (marks p.at p.key over stamp)) (kept (c.revision + 1) r.born) (entry (Mark p.key over stamp))
      (decides-next m c log stands v p.key over (marks p.at p.key over stamp) r a may
      ∙ storage_is p.at (enters (kept (revision log + 1) a.object.born) (entry (Mark p.key over stamp))) same
      ∙ ap (λ (n : ℕ). enters (kept n a.object.born) (entry (Mark p.key over stamp))) number
      ∙ ap (λ (b : ℕ). enters (kept (c.revision + 1) b) (entry (Mark p.key over stamp))) (born_told p.key over r a))
      (written-stands m c log (record_for p) c.migrations (Mark p.key over stamp) stands
      (mark_puts p over h stamp r a prepares known same (weight ∙ ap (λ (q : Record). q.weight) (sym a.told))))

  pub mark-written : (v : ℕ) (p : Prepared) (k : KeyView) (over : ℕ) (h : ObjectView) (stamp : List ℕ) (r : Record) (s : StoreView) → FitsAt k over p (find_record item_key k c.store.items)
      → PreparesValue m p h → KnownAt m log k over (Marking h stamp)
      → served c.flags v ≡ true → option_map record_of (find_record item_key k c.store.items) ≡ Some r → r.rv ≡ over → p.at ≡ c.flags.storage
      → s ≡ with_new (c.revision + 1) (record_for p) c.store
      → EndsAsDecided bound (Stands m (record c { revision = c.revision + 1; store = s })) log (mark_commit (revision log + 1) (state m log) v p.at k over stamp) (kept (c.revision + 1) r.born)
  mark-written v p k over h stamp r s fits prepares known may is at same store_is =
      let (key, weight) = fits-told k over p (find_record item_key k c.store.items) r fits is at in
      subst
      (λ (t : StoreView). EndsAsDecided bound (Stands m (record c { revision = c.revision + 1; store = t })) log (mark_commit (revision log + 1) (state m log) v p.at k over stamp) (kept (c.revision + 1) r.born))
      (sym store_is)
      (subst
      (λ (q : KeyView). KnownAt m log q over (Marking h stamp) → option_map record_of (find_record item_key q c.store.items) ≡ Some r
      → EndsAsDecided bound (Stands m (written c (record_for p) c.migrations)) log (mark_commit (revision log + 1) (state m log) v p.at q over stamp) (kept (c.revision + 1) r.born))
      key (λ known_of is_of. mark_done v p over h stamp r prepares known_of may is_of at same weight) known is)
