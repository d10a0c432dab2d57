-- Records that pair with objects: what stands under a key, what is put there and taken out, their number, their weights, and the room that is left.
use Rattle.std.proofs.Common.{◌≡◌, ℕ, List, [], ◌∷◌, length, Option, None, Some, Ordering, Less, Equal, Greater, ap, sym, subst, refl, ◌∙◌, arith}
use Rattle.std.specs.Prelude.{option_map}
use Rattle.std.specs.Ordering.{match_ordering}
use Rattle.kube_meta.specs.Key.{KeyView, key_cmp}
use Rattle.kube_meta.specs.laws.KeyOrder.{key_cmp_one}
use Rattle.kube_meta.specs.Room as room
use Rattle.kube_meta.specs.Window.{weights}
use Rattle.kube_meta.specs.WindowPairs.{AllPair}
use Rattle.kube_meta.specs.declared.limits.Limits.{Limits}
use Rattle.record_store.specs.declared.row.Record.{Record}
use Rattle.record_store.specs.ByKey.{find as find_record, put as put_record, without as without_record}
use Rattle.record_store.specs.View.{Item as RecordItem, StoreView, item_key, item_weight, record_of}
use Rattle.record_store.specs.Room as store
use Rattle.api_calls.specs.Meaning.{Meaning}
use Rattle.api_calls.specs.Objects.{Stored, find, put, without, updated, live}
use Rattle.api_calls.specs.Room.{lacking_chunks, lacking}
use Rattle.api_core.specs.Keeps.{KeepsObject, IsFound}

-- ---- objects by key

pub find-key : (k : KeyView) (es : List Stored) (e : Stored) → find k es ≡ Some e → e.key ≡ k
find-key k [] e is = cc
find-key k (f ∷ es) e is = by (key_cmp k f.key) refl is (find-key k es e)
  where
    by : (o : Ordering) → key_cmp k f.key ≡ o → match_ordering o None (Some f) (find k es) ≡ Some e → (find k es ≡ Some e → e.key ≡ k) → e.key ≡ k
    by Less q is more = cc
    by Equal q is more = let same : f ≡ e = cc in sym (key_cmp_one k f.key q ∙ ap (λ (s : Stored). s.key) same)
    by Greater q is more = more is

-- to change what stands under a key is to put it there
pub updated-put : (f : Stored → Stored) (k : KeyView) (es : List Stored) (e : Stored) → (f e).key ≡ k → find k es ≡ Some e → updated f k es ≡ put (f e) es
updated-put f k [] e same is = cc
updated-put f k (g ∷ es) e same is =
    subst
    (λ (q : KeyView). match_ordering (key_cmp k g.key) (g ∷ es) (f g ∷ es) (g ∷ updated f k es) ≡ match_ordering (key_cmp q g.key) (f e ∷ g ∷ es) (f e ∷ es) (g ∷ put (f e) es))
    (sym same) (by (key_cmp k g.key) is (updated-put f k es e same))
  where
    by : (o : Ordering) → match_ordering o None (Some g) (find k es) ≡ Some e → (find k es ≡ Some e → updated f k es ≡ put (f e) es)
        → match_ordering o (g ∷ es) (f g ∷ es) (g ∷ updated f k es) ≡ match_ordering o (f e ∷ g ∷ es) (f e ∷ es) (g ∷ put (f e) es)
    by Less is more = cc
    by Equal is more = let one : g ≡ e = cc in ap (λ (s : Stored). f s ∷ es) one
    by Greater is more = ap (λ (r : List Stored). g ∷ r) (more is)

-- ---- what was looked up

pub looked-some : (o : Option RecordItem) (r : Record) → option_map record_of o ≡ Some r → (x : RecordItem) × (o ≡ Some x) × (record_of x ≡ r)
looked-some None r is = cc
looked-some (Some x) r is = (x, refl, (let e : record_of x ≡ r = cc in e))

pub looked-none : (o : Option RecordItem) → option_map record_of o ≡ None → o ≡ None
looked-none None is = refl
looked-none (Some x) is = cc

pub record-key : (k : KeyView) (xs : List RecordItem) (x : RecordItem) → find_record item_key k xs ≡ Some x → x.key ≡ k
record-key k [] x is = cc
record-key k (y ∷ xs) x is = by (key_cmp k y.key) refl is (record-key k xs x)
  where
    by : (o : Ordering) → key_cmp k y.key ≡ o → match_ordering o None (Some y) (find_record item_key k xs) ≡ Some x → (find_record item_key k xs ≡ Some x → x.key ≡ k) → x.key ≡ k
    by Less q is more = cc
    by Equal q is more = let same : y ≡ x = cc in sym (key_cmp_one k y.key q ∙ ap (λ (z : RecordItem). z.key) same)
    by Greater q is more = more is

-- a record and its text are what stands under the key
pub record-told : (k : KeyView) (o : Option RecordItem) (r : Record) (bytes : List ℕ) → ((x : RecordItem) → o ≡ Some x → x.key ≡ k)
    → option_map record_of o ≡ Some r → option_map (λ (x : RecordItem). x.bytes) o ≡ Some bytes
    → Some (record { key = k; at = r.at; rv = r.rv; born = r.born; weight = r.weight; bytes = bytes }) ≡ o
record-told k None r bytes key is text = cc
record-told k (Some x) r bytes key is text =
    let told : r ≡ record_of x = cc in
    let text_is : bytes ≡ x.bytes = cc in
    let key_is : k ≡ x.key = sym (key x refl) in
    λ i. Some (record { key = key_is i; at = (told i).at; rv = (told i).rv; born = (told i).born; weight = (told i).weight; bytes = text_is i })

-- ---- pairs

module _ (m : Meaning) where
  pub pairs-find : (k : KeyView) (xs : List RecordItem) (es : List Stored) → AllPair (KeepsObject m) xs es → IsFound m (find_record item_key k xs) (find k es)
  pairs-find k [] [] h = tt
  pairs-find k [] (e ∷ es) h = absurd h
  pairs-find k (x ∷ xs) [] h = absurd h
  pairs-find k (x ∷ xs) (e ∷ es) h =
      subst
      (λ (q : KeyView). IsFound m (match_ordering (key_cmp k q) None (Some x) (find_record item_key k xs)) (match_ordering (key_cmp k e.key) None (Some e) (find k es)))
      (sym h.0.key) (by (key_cmp k e.key) (pairs-find k xs es h.1))
    where
      by : (o : Ordering) → IsFound m (find_record item_key k xs) (find k es) → IsFound m (match_ordering o None (Some x) (find_record item_key k xs)) (match_ordering o None (Some e) (find k es))
      by Less more = tt
      by Equal more = h.0
      by Greater more = more

  pub pairs-put : (y : RecordItem) (z : Stored) (xs : List RecordItem) (es : List Stored) → KeepsObject m y z → AllPair (KeepsObject m) xs es → AllPair (KeepsObject m) (put_record item_key y xs) (put z es)
  pairs-put y z [] [] k h = (k, tt)
  pairs-put y z [] (e ∷ es) k h = absurd h
  pairs-put y z (x ∷ xs) [] k h = absurd h
  pairs-put y z (x ∷ xs) (e ∷ es) k h =
      subst (λ (o : Ordering). AllPair (KeepsObject m) (match_ordering o (y ∷ x ∷ xs) (y ∷ xs) (x ∷ put_record item_key y xs)) (match_ordering (key_cmp z.key e.key) (z ∷ e ∷ es) (z ∷ es) (e ∷ put z es)))
      (sym same) (by (key_cmp z.key e.key) (pairs-put y z xs es k h.1))
    where
      same : key_cmp y.key x.key ≡ key_cmp z.key e.key
      same = ap (λ (q : KeyView). key_cmp q x.key) k.key ∙ ap (key_cmp z.key) h.0.key

      by : (o : Ordering) → AllPair (KeepsObject m) (put_record item_key y xs) (put z es)
          → AllPair (KeepsObject m) (match_ordering o (y ∷ x ∷ xs) (y ∷ xs) (x ∷ put_record item_key y xs)) (match_ordering o (z ∷ e ∷ es) (z ∷ es) (e ∷ put z es))
      by Less more = (k, h)
      by Equal more = (k, h.1)
      by Greater more = (h.0, more)

  pub pairs-without : (k : KeyView) (xs : List RecordItem) (es : List Stored) → AllPair (KeepsObject m) xs es → AllPair (KeepsObject m) (without_record item_key k xs) (without k es)
  pairs-without k [] [] h = tt
  pairs-without k [] (e ∷ es) h = absurd h
  pairs-without k (x ∷ xs) [] h = absurd h
  pairs-without k (x ∷ xs) (e ∷ es) h =
      subst (λ (q : KeyView). AllPair (KeepsObject m) (match_ordering (key_cmp k q) (x ∷ xs) xs (x ∷ without_record item_key k xs)) (match_ordering (key_cmp k e.key) (e ∷ es) es (e ∷ without k es)))
      (sym h.0.key) (by (key_cmp k e.key) (pairs-without k xs es h.1))
    where
      by : (o : Ordering) → AllPair (KeepsObject m) (without_record item_key k xs) (without k es)
          → AllPair (KeepsObject m) (match_ordering o (x ∷ xs) xs (x ∷ without_record item_key k xs)) (match_ordering o (e ∷ es) es (e ∷ without k es))
      by Less more = h
      by Equal more = h.1
      by Greater more = (h.0, more)

  -- ---- sums

  pub pairs-length : (xs : List RecordItem) (es : List Stored) → AllPair (KeepsObject m) xs es → length xs ≡ length es
  pairs-length [] [] h = refl
  pairs-length [] (e ∷ es) h = absurd h
  pairs-length (x ∷ xs) [] h = absurd h
  pairs-length (x ∷ xs) (e ∷ es) h = let more = pairs-length xs es h.1 in omega (arith, more)

  pub pairs-weights : (xs : List RecordItem) (es : List Stored) → AllPair (KeepsObject m) xs es → weights item_weight xs ≡ live es
  pairs-weights [] [] h = refl
  pairs-weights [] (e ∷ es) h = absurd h
  pairs-weights (x ∷ xs) [] h = absurd h
  pairs-weights (x ∷ xs) (e ∷ es) h = let more = pairs-weights xs es h.1 in let one = h.0.weight in omega (arith, more, one)

  -- ---- room

  pub pairs-chunks : (limits : Limits) (s : StoreView) (es : List Stored) (going w : ℕ) → s.limits ≡ limits → AllPair (KeepsObject m) s.items es → store.lacking_chunks s going w ≡ lacking_chunks limits es going w
  pairs-chunks limits s es going w is h =
      ap (λ (l : Limits). room.lacking_chunks l (weights item_weight s.items) going w) is
      ∙ ap (λ (n : ℕ). room.lacking_chunks limits n going w) (pairs-weights s.items es h)

  pub pairs-room : (limits : Limits) (s : StoreView) (es : List Stored) (w : ℕ) → s.limits ≡ limits → AllPair (KeepsObject m) s.items es → store.lacking s w ≡ lacking limits es w
  pairs-room limits s es w is h =
      ap (λ (l : Limits). room.lacking l (length s.items) (weights item_weight s.items) w) is
      ∙ ap (λ (n : ℕ). room.lacking limits n (weights item_weight s.items) w) (pairs-length s.items es h)
      ∙ ap (λ (n : ℕ). room.lacking limits (length es) n w) (pairs-weights s.items es h)
