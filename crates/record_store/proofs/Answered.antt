-- What the look-ups and the tests of a write answer.
use Rattle.std.proofs.Common.{◌≡◌, ◌≢◌, ℕ, ◌+◌, ◌-◌, ◌≤◌, ◌<◌, List, [], ◌∷◌, length, map, Option, None, Some, Bool, true, false, ap, refl, sym, subst, ◌∙◌, arith, nat_eq, nat_lt, cond}
use Rattle.std.specs.Prelude.{option_map, if◌then◌else◌, find as first}
use Rattle.std.specs.List.{AllByRecursion as Each}
use Rattle.std.proofs.lemmas.Bool.Decides.{nat_tests}
use Rattle.kube_meta.specs.Key.{KeyView}
use Rattle.kube_meta.specs.Window.{weights}
use Rattle.kube_meta.specs.declared.limits.Room.{Room}
use Rattle.kube_meta.specs.declared.limits.RoomKind.TheVariants.{Objects, Chunks}
use Rattle.record_region.specs.Places.{Places, bytes_at}
use Rattle.record_store.specs.ByKey.{KeysRise, find, put}
use Rattle.record_store.specs.Rows.{row_key}
use Rattle.record_store.specs.declared.row.Row.{Row}
use Rattle.record_store.specs.declared.row.Record.{Record}
use Rattle.record_store.specs.View.{Item, StoreView, item_key, item_weight, record_of}
use Rattle.record_store.specs.Moves.{removed, removed_found, replaced, born_of, with_new, added}
use Rattle.record_store.specs.Room.{put_end, touch_end, lacking, lacking_chunks, free_chunks, unless_full, is_done, HasRoom}
use Rattle.record_store.specs.Inside.{item_of, AreKept, IsKept}
use Rattle.record_store.specs.declared.answer.PutEnd.{PutEnd}
use Rattle.record_store.specs.declared.answer.PutEnd.TheVariants.{Done, Present, Gone, Moved, Full}
use Rattle.record_store.specs.declared.record.NewRecord.{NewRecord}
use Rattle.record_store.proofs.Keyed.{weights-without, each-found, put-without}
use Rattle.record_store.proofs.Mapped.{find-seen, first-seen}
use Rattle.record_store.proofs.Pieces.{record-kept}

-- ---- look-ups

pub looked : (places : Places) (rows : List Row) (k : KeyView) (o : Option Row) → AreKept places rows → o ≡ find row_key k rows
    → option_map (λ r. r.record) o ≡ option_map record_of (find item_key k (map (item_of places) rows))
looked places rows k None h e = sym (ap (option_map record_of) (find-seen (item_of places) item_key k rows ∙ ap (option_map (item_of places)) (sym e)))
looked places rows k (Some r) h e =
    let kept = each-found row_key (IsKept places) k r rows (sym e) h in
    ap (λ (s : Record). Some s) (sym (record-kept places r kept)) ∙ sym (ap (option_map record_of) (find-seen (item_of places) item_key k rows ∙ ap (option_map (item_of places)) (sym e)))

pub text_seen : (places : Places) (rows : List Row) (k : KeyView) (o : Option Row) → o ≡ find row_key k rows
    → option_map (λ r. bytes_at places r.piece) o ≡ option_map (λ x. x.bytes) (find item_key k (map (item_of places) rows))
text_seen places rows k None e = sym (ap (option_map (λ (x : Item). x.bytes)) (find-seen (item_of places) item_key k rows ∙ ap (option_map (item_of places)) (sym e)))
text_seen places rows k (Some r) e = sym (ap (option_map (λ (x : Item). x.bytes)) (find-seen (item_of places) item_key k rows ∙ ap (option_map (item_of places)) (sym e)))

each-first : {X : Type 0} (P : X → Type 0) (p : X → Bool) (y : X) (xs : List X) → first p xs ≡ Some y → Each P xs → P y
each-first P p y [] e h = absurd (cc)
each-first P p y (x ∷ xs) e h = by (p x) e (each-first P p y xs)
  where
    by : (b : Bool) → cond b (Some x) (first p xs) ≡ Some y → (first p xs ≡ Some y → Each P xs → P y) → P y
    by true e more = let same : x ≡ y = cc in subst P same h.0
    by false e more = more e h.1

abbrev pub told : Row → KeyView × Record
told r = (r.key, r.record)

abbrev pub told_item : Item → KeyView × Record
told_item x = (x.key, record_of x)

pub nexted : (places : Places) (rows : List Row) (p : KeyView → Bool) (o : Option Row) → AreKept places rows → o ≡ first (λ r. p r.key) rows
    → option_map told o ≡ option_map told_item (first (λ x. p x.key) (map (item_of places) rows))
nexted places rows p None h e = sym (ap (option_map told_item) (first-seen (item_of places) (λ x. p x.key) rows ∙ ap (option_map (item_of places)) (sym e)))
nexted places rows p (Some r) h e =
    let kept = each-first (IsKept places) (λ s. p s.key) r rows (sym e) h in
    let back = sym (record-kept places r kept) in
    let both : told r ≡ told_item (item_of places r) = λ i. (r.key, back i) in
    ap (λ (t : KeyView × Record). Some t) both ∙ sym (ap (option_map told_item) (first-seen (item_of places) (λ x. p x.key) rows ∙ ap (option_map (item_of places)) (sym e)))

-- ---- the tests of a write

module _ (number : ℕ) where
  pub touch_gone : (o : Option Item) → None ≡ option_map record_of o → Gone ≡ touch_end number o
  touch_gone None e = refl
  touch_gone (Some x) e = absurd (cc)

  pub touch_moved : (o : Option Item) (s : Record) → Some s ≡ option_map record_of o → s.rv ≢ number → Moved s.rv ≡ touch_end number o
  touch_moved None s e other = absurd (cc)
  touch_moved (Some x) s e other =
      let same : s ≡ record_of x = cc in
      let rv = ap (λ (t : Record). t.rv) same in
      let no : nat_eq s.rv number ≡ false = grind (arith, nat_tests) in
      let not_it : nat_eq x.rv number ≡ false = ap (λ (n : ℕ). nat_eq n number) (sym rv) ∙ no in
      ap (λ (n : ℕ). Moved n) rv ∙ rw not_it refl

  pub touch_done : (o : Option Item) (s : Record) → Some s ≡ option_map record_of o → s.rv ≡ number → Done ≡ touch_end number o
  touch_done None s e it = absurd (cc)
  touch_done (Some x) s e it =
      let same : s ≡ record_of x = cc in
      let rv = ap (λ (t : Record). t.rv) same in
      let yes : nat_eq s.rv number ≡ true = grind (arith, nat_tests) in
      let is_it : nat_eq x.rv number ≡ true = ap (λ (n : ℕ). nat_eq n number) (sym rv) ∙ yes in
      rw is_it refl

  -- at its own weight a record has room
  pub touch_room : (o : Option Item) (s : Record) (weight : ℕ) (v : StoreView) → Some s ≡ option_map record_of o → s.rv ≡ number → ((x : Item) → o ≡ Some x → x.rv ≡ number → weight ≡ x.weight) → HasRoom weight o v
  touch_room None s weight v e it same_weight = absurd (cc)
  touch_room (Some x) s weight v e it same_weight =
      let same : s ≡ record_of x = cc in
      let rv = ap (λ (t : Record). t.rv) same in
      let w = same_weight x refl (sym rv ∙ it) in
      let enough : nat_lt (free_chunks v x.weight) weight ≡ false = let free : weight ≤ free_chunks v x.weight = omega (arith, w) in grind (arith, nat_tests) in
      rw enough refl

pub not_done : (e : PutEnd) → (e ≡ Done → ⊥) → is_done e ≡ false
not_done Done other = absurd (other refl)
not_done Present other = refl
not_done Gone other = refl
not_done (Moved n) other = refl
not_done (Full r) other = refl

nothing_lacks : (o : Option Room) → unless_full o ≡ Done → o ≡ None
nothing_lacks None e = refl
nothing_lacks (Some r) e = absurd (cc)

pub done_room : (expected : Option ℕ) (weight : ℕ) (o : Option Item) (s : StoreView) → put_end expected weight o s ≡ Done → HasRoom weight o s
done_room None weight None s e = nothing_lacks (lacking s weight) e
done_room None weight (Some x) s e = absurd (cc)
done_room (Some n) weight None s e = absurd (cc)
done_room (Some n) weight (Some x) s e = by (nat_eq x.rv n) e
  where
    by : (b : Bool) → (if b then unless_full (lacking_chunks s x.weight weight) else Moved x.rv) ≡ Done → lacking_chunks s x.weight weight ≡ None
    by true e = nothing_lacks (lacking_chunks s x.weight weight) e
    by false e = absurd (cc)

-- ---- what room for a write says

pub enough_chunks : (s : StoreView) (going weight : ℕ) → weights item_weight s.items ≤ s.limits.chunks → lacking_chunks s going weight ≡ None → weights item_weight s.items + weight ≤ s.limits.chunks + going
enough_chunks s going weight light e = by (nat_lt (free_chunks s going) weight) refl e
  where
    lack : Option Room
    lack = Some (record { what = Chunks; need = weight; free = free_chunks s going })

    by : (b : Bool) → nat_lt (free_chunks s going) weight ≡ b → (if b then lack else None) ≡ None → weights item_weight s.items + weight ≤ s.limits.chunks + going
    by true is e = absurd (cc)
    by false is e = let le : weight ≤ free_chunks s going = grind (arith, nat_tests) in omega (arith, le, light)

-- there is room for one more record, and for its weight
pub record HasMore (weight : ℕ) (s : StoreView) : Type 0 where
  pub few : length s.items < s.limits.objects
  pub light : weights item_weight s.items + weight ≤ s.limits.chunks

pub has_more : (weight : ℕ) (s : StoreView) → weights item_weight s.items ≤ s.limits.chunks → lacking s weight ≡ None → HasMore weight s
has_more weight s light e = by (nat_lt (length s.items) s.limits.objects) refl e
  where
    lack : Option Room
    lack = Some (record { what = Objects; need = 1; free = 0 })

    by : (b : Bool) → nat_lt (length s.items) s.limits.objects ≡ b → (if b then lacking_chunks s 0 weight else lack) ≡ None → HasMore weight s
    by true t e =
        let le = enough_chunks s 0 weight light e in
        record { few = grind (arith, nat_tests); light = omega (arith, le) }
    by false t e = absurd (cc)

pub born_some : (o : Option Item) (r : Record) (now : ℕ) → Some r ≡ option_map record_of o → r.born ≡ born_of o now
born_some None r now e = absurd (cc)
born_some (Some x) r now e = let same : r ≡ record_of x = cc in ap (λ (t : Record). t.born) same

pub born_none : (o : Option Item) (now : ℕ) → None ≡ option_map record_of o → now ≡ born_of o now
born_none None now e = refl
born_none (Some x) now e = absurd (cc)

pub rewritten : (born now : ℕ) (new : NewRecord) (s : StoreView) → KeysRise (map item_key s.items) → born ≡ born_of (find item_key new.key s.items) now → added born now new (removed now new.key s) ≡ with_new now new s
rewritten born now new s order is = ap (λ (b : ℕ). added b now new (removed now new.key s)) is ∙ by (find item_key new.key s.items)
  where
    by : (o : Option Item) → added (born_of o now) now new (removed_found now new.key o s) ≡ record (replaced now o s) { items = put item_key (record { key = new.key; at = new.at; rv = now; born = born_of o now; weight = new.weight; bytes = new.bytes.bytes }) s.items; last = now }
    by None = refl
    by (Some x) =
        let items = put-without item_key (record { key = new.key; at = new.at; rv = now; born = x.born; weight = new.weight; bytes = new.bytes.bytes }) s.items order in
        ap (λ (is : List Item). record (replaced now (Some x) s) { items = is; last = now }) items

-- the test of the chunks, by the sum that the store keeps
pub full_end : (chunks live : ℕ) (v : StoreView) (going weight : ℕ) → chunks ≡ v.limits.chunks → live ≡ weights item_weight v.items → chunks - live + going < weight
    → Full (record { what = Chunks; need = weight; free = chunks - live + going }) ≡ unless_full (lacking_chunks v going weight)
full_end chunks live v going weight e f lt =
    let free : chunks - live + going ≡ free_chunks v going = omega (arith, e, f) in
    let yes : nat_lt (free_chunks v going) weight ≡ true = let less : free_chunks v going < weight = omega (arith, e, f, lt) in grind (arith, nat_tests) in
    ap (λ (n : ℕ). Full (record { what = Chunks; need = weight; free = n })) free ∙ rw yes refl

pub done_end : (chunks live : ℕ) (v : StoreView) (going weight : ℕ) → chunks ≡ v.limits.chunks → live ≡ weights item_weight v.items → weight ≤ chunks - live + going
    → Done ≡ unless_full (lacking_chunks v going weight)
done_end chunks live v going weight e f le =
    let no : nat_lt (free_chunks v going) weight ≡ false = let enough : weight ≤ free_chunks v going = omega (arith, e, f, le) in grind (arith, nat_tests) in
    rw no refl

-- the answer of a look-up tells the record
pub standing_weight : (k : KeyView) (s : StoreView) (r : Record) → Some r ≡ option_map record_of (find item_key k s.items) → r.weight ≤ weights item_weight s.items
standing_weight k s r e = by (find item_key k s.items) refl e
  where
    by : (o : Option Item) → find item_key k s.items ≡ o → Some r ≡ option_map record_of o → r.weight ≤ weights item_weight s.items
    by None is e = absurd (cc)
    by (Some x) is e =
        let same : r ≡ record_of x = cc in
        let weight = ap (λ (t : Record). t.weight) same in
        let all = weights-without item_key item_weight k x s.items is in
        omega (arith, weight, all)

-- ---- the last number

pub last-after : (b : Bool) (now : ℕ) (new : NewRecord) (s : StoreView) → s.last ≤ now → (if b then with_new now new s else s).last ≤ now
last-after true now new s le = omega arith
last-after false now new s le = le

pub last-removed : (now : ℕ) (k : KeyView) (s : StoreView) → s.last ≤ now → (removed now k s).last ≤ now
last-removed now k s le = by (find item_key k s.items)
  where
    by : (o : Option Item) → (removed_found now k o s).last ≤ now
    by None = le
    by (Some x) = omega arith

-- a touch at the weight that was told
pub told_weight : (o : Option Item) (r : Record) → Some r ≡ option_map record_of o → (x : Item) → o ≡ Some x → r.weight ≡ x.weight
told_weight None r e x is = absurd (cc)
told_weight (Some y) r e x is =
    let same : r ≡ record_of y = cc in
    let one : y ≡ x = cc in
    ap (λ (t : Record). t.weight) same ∙ ap (λ (i : Item). i.weight) one
