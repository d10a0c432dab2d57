-- What pairs goes on pairing: the records at a number, and a page of them.
use Rattle.std.proofs.Common.{◌≡◌, ℕ, zero, suc, ◌-◌, List, [], ◌∷◌, length, map, take, Bool, true, false, Option, Ordering, Less, Equal, Greater, ap, refl, sym, subst, ◌∙◌, arith, cond, filter, nat_lt, nat_eq}
use Rattle.std.specs.Prelude.{◌&&◌, not, nat_le, if◌then◌else◌}
use Rattle.std.specs.Ordering.{match_ordering}
use Rattle.kube_meta.specs.Key.{KeyView, key_cmp}
use Rattle.kube_meta.specs.Page.{bound_after, in_namespace, listed, page_of}
use Rattle.kube_meta.specs.Plan.{passed}
use Rattle.kube_meta.specs.WindowPairs.{AllPair}
use Rattle.record_store.specs.ByKey.{put}
use Rattle.record_store.specs.View.{Item, Old, StoreView, item_key, put_all, still, items_at}
use Rattle.record_store.specs.View.{since as items_since}
use Rattle.api_calls.specs.Objects.{Stored, object_key}
use Rattle.api_calls.specs.Snap.{Past}
use Rattle.record_store.specs.Keeping.{IsSame, IsSamePast, ArePagesOfOne}
use Rattle.record_store.proofs.Rising.{put_each}
use Rattle.record_store.proofs.Rebuilt.{no_younger, stood, since, objects_at}

module _ {X Y : Type 0} (R : X → Y → Type 0) where
  pub length-pair : (xs : List X) (ys : List Y) → AllPair R xs ys → length xs ≡ length ys
  length-pair [] [] p = refl
  length-pair (x ∷ xs) (y ∷ ys) p = let e = length-pair xs ys p.1 in omega (arith, e)
  length-pair [] (y ∷ ys) p = absurd p
  length-pair (x ∷ xs) [] p = absurd p

  pub filter-pair : (f : X → Bool) (g : Y → Bool) → ((x : X) (y : Y) → R x y → f x ≡ g y) → (xs : List X) (ys : List Y) → AllPair R xs ys → AllPair R (filter f xs) (filter g ys)
  filter-pair f g same [] [] p = tt
  filter-pair f g same [] (y ∷ ys) p = absurd p
  filter-pair f g same (x ∷ xs) [] p = absurd p
  filter-pair f g same (x ∷ xs) (y ∷ ys) p = by (f x) (g y) (same x y p.0) (filter-pair f g same xs ys p.1)
    where
      by : (b c : Bool) → b ≡ c → AllPair R (filter f xs) (filter g ys) → AllPair R (cond b (x ∷ filter f xs) (filter f xs)) (cond c (y ∷ filter g ys) (filter g ys))
      by true true e more = (p.0, more)
      by false false e more = more
      by true false e more = absurd (cc)
      by false true e more = absurd (cc)

  pub take-pair : (n : ℕ) (xs : List X) (ys : List Y) → AllPair R xs ys → AllPair R (take n xs) (take n ys)
  take-pair zero xs ys p = tt
  take-pair (suc n) [] [] p = tt
  take-pair (suc n) [] (y ∷ ys) p = absurd p
  take-pair (suc n) (x ∷ xs) [] p = absurd p
  take-pair (suc n) (x ∷ xs) (y ∷ ys) p = (p.0, take-pair n xs ys p.1)

  pub put-pair : (kx : X → KeyView) (ky : Y → KeyView) → ((x : X) (y : Y) → R x y → kx x ≡ ky y) → (x : X) (y : Y) → R x y → (xs : List X) (ys : List Y) → AllPair R xs ys → AllPair R (put kx x xs) (put ky y ys)
  put-pair kx ky same x y r [] [] p = (r, tt)
  put-pair kx ky same x y r [] (b ∷ ys) p = absurd p
  put-pair kx ky same x y r (a ∷ xs) [] p = absurd p
  put-pair kx ky same x y r (a ∷ xs) (b ∷ ys) p =
      let e : key_cmp (kx x) (kx a) ≡ key_cmp (ky y) (ky b) = ap (λ (k : KeyView). key_cmp k (kx a)) (same x y r) ∙ ap (key_cmp (ky y)) (same a b p.0) in
      subst (λ (o : Ordering). AllPair R (match_ordering o (x ∷ a ∷ xs) (x ∷ xs) (a ∷ put kx x xs)) (put ky y (b ∷ ys))) (sym e) (by (key_cmp (ky y) (ky b)) (put-pair kx ky same x y r xs ys p.1))
    where
      by : (o : Ordering) → AllPair R (put kx x xs) (put ky y ys) → AllPair R (match_ordering o (x ∷ a ∷ xs) (x ∷ xs) (a ∷ put kx x xs)) (match_ordering o (y ∷ b ∷ ys) (y ∷ ys) (b ∷ put ky y ys))
      by Less more = (r, p)
      by Equal more = (r, p.1)
      by Greater more = (p.0, more)

module _ (text : Stored → List ℕ → Type 0) where
  abbrev Same : Item → Stored → Type 0
  Same x e = IsSame text x e

  put_all-pair : (xs ys : List Item) (es fs : List Stored) → AllPair (IsSame text) xs es → AllPair (IsSame text) ys fs → AllPair (IsSame text) (put_all xs ys) (put_each es fs)
  put_all-pair xs [] es [] p q = p
  put_all-pair xs [] es (f ∷ fs) p q = absurd q
  put_all-pair xs (y ∷ ys) es [] p q = absurd q
  put_all-pair xs (y ∷ ys) es (f ∷ fs) p q =
      put-pair (IsSame text) item_key object_key (λ x e r. r.key) y f q.0 (put_all xs ys) (put_each es fs) (put_all-pair xs ys es fs p q.1)

  objects-pair : (os : List Old) (ps : List Past) → AllPair (IsSamePast text) os ps → AllPair (IsSame text) (map (λ o. o.item) os) (map (λ p. p.object) ps)
  objects-pair [] [] p = tt
  objects-pair [] (q ∷ ps) p = absurd p
  objects-pair (o ∷ os) [] p = absurd p
  objects-pair (o ∷ os) (q ∷ ps) p = (p.0.object, objects-pair os ps p.1)

  abbrev gone : ℕ → Old → Bool
  gone r o = nat_lt r o.by && nat_le o.item.rv r

  same_gone : (r : ℕ) (o : Old) (p : Past) → IsSamePast text o p → gone r o ≡ stood r p
  same_gone r o p h = ap (λ (n : ℕ). nat_lt r n && nat_le o.item.rv r) h.entry ∙ ap (λ (n : ℕ). nat_lt r p.by && nat_le n r) h.object.number

  pub items_at-pair : (r : ℕ) (s : StoreView) (es : List Stored) (ps : List Past) → AllPair (IsSame text) s.items es → AllPair (IsSamePast text) s.window ps → AllPair (IsSame text) (items_at r s) (objects_at r es ps)
  items_at-pair r s es ps p q =
      put_all-pair (still r s.items) (items_since r s.window) (filter (no_younger r) es) (since r ps)
      (filter-pair (IsSame text) (λ x. nat_le x.rv r) (no_younger r) (λ x e h. ap (λ (n : ℕ). nat_le n r) h.number) s.items es p)
      (objects-pair (filter (gone r) s.window) (filter (stood r) ps) (filter-pair (IsSamePast text) (gone r) (stood r) (same_gone r) s.window ps q))

  listed-pair : (ns : Option (List ℕ)) (after : Option KeyView) (xs : List Item) (es : List Stored) → AllPair (IsSame text) xs es → AllPair (IsSame text) (listed item_key ns after xs) (listed object_key ns after es)
  listed-pair ns after xs es p =
      filter-pair (IsSame text) (λ x. in_namespace ns (item_key x) && not (passed (bound_after after) (item_key x))) (λ e. in_namespace ns (object_key e) && not (passed (bound_after after) (object_key e)))
      (λ x e h. ap (λ (k : KeyView). in_namespace ns k && not (passed (bound_after after) k)) h.key) xs es p

  page_of-pair : (r limit : ℕ) (xs : List Item) (es : List Stored) → AllPair (IsSame text) xs es → ArePagesOfOne text (page_of r limit xs) (page_of r limit es)
  page_of-pair r limit xs es p = by (nat_eq limit 0)
    where
      by : (b : Bool) → ArePagesOfOne text (if b then record { number = r; items = xs; remaining = 0 } else record { number = r; items = take limit xs; remaining = length xs - limit })
          (if b then record { number = r; items = es; remaining = 0 } else record { number = r; items = take limit es; remaining = length es - limit })
      by true = record { snapshot = refl; records = p; behind = refl }
      by false = record { snapshot = refl; records = take-pair (IsSame text) limit xs es p; behind = ap (λ (n : ℕ). n - limit) (length-pair (IsSame text) xs es p) }

  pub page-pair : (r limit : ℕ) (ns : Option (List ℕ)) (after : Option KeyView) (xs : List Item) (es : List Stored) → AllPair (IsSame text) xs es
      → ArePagesOfOne text (page_of r limit (listed item_key ns after xs)) (page_of r limit (listed object_key ns after es))
  page-pair r limit ns after xs es p = page_of-pair r limit (listed item_key ns after xs) (listed object_key ns after es) (listed-pair ns after xs es p)
