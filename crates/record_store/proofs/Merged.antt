-- Puts of one list into another, one by one, are a merge of two lists by key.
use Rattle.std.proofs.Common.{◌≡◌, List, [], ◌∷◌, map, Ordering, Less, Equal, Greater, ap, sym, refl, ◌∙◌}
use Rattle.std.specs.List.{AllByRecursion as Each}
use Rattle.std.specs.Ordering.{match_ordering, ordering_reverse}
use Rattle.kube_meta.specs.Key.{KeyView, key_cmp}
use Rattle.kube_meta.specs.laws.KeyOrder.{key_cmp_total, key_cmp_one}
use Rattle.record_store.specs.ByKey.{put}
use Rattle.record_store.specs.inner.Picked.{merge_into, merged}

reversed : (k l : KeyView) (o : Ordering) → key_cmp k l ≡ o → key_cmp l k ≡ ordering_reverse o
reversed k l o e = key_cmp_total.antisymm l k ∙ ap ordering_reverse e

module _ {X : Type 0} (key : X → KeyView) where
  pub merged-nothing : (xs : List X) → merged key xs [] ≡ xs
  merged-nothing [] = refl
  merged-nothing (x ∷ xs) = ap (λ (r : List X). x ∷ r) (merged-nothing xs)

  -- one that is put among those behind x comes behind x
  put_behind : (x y z : X) (rest : List X → List X) (zs : List X) → key_cmp (key z) (key x) ≡ Greater → key_cmp (key y) (key x) ≡ Greater → merge_into key x rest (put key y (z ∷ zs)) ≡ x ∷ rest (put key y (z ∷ zs))
  put_behind x y z rest zs p r = by (key_cmp (key y) (key z))
    where
      by : (u : Ordering) → merge_into key x rest (match_ordering u (y ∷ z ∷ zs) (y ∷ zs) (z ∷ put key y zs)) ≡ x ∷ rest (match_ordering u (y ∷ z ∷ zs) (y ∷ zs) (z ∷ put key y zs))
      by Less = rw r refl
      by Equal = rw r refl
      by Greater = rw p refl

  -- where x stands before z
  put_before : (x y z : X) (rest : List X → List X) (zs : List X) → put key y (rest (z ∷ zs)) ≡ rest (put key y (z ∷ zs)) → key_cmp (key z) (key x) ≡ Greater
      → put key y (x ∷ rest (z ∷ zs)) ≡ merge_into key x rest (put key y (z ∷ zs))
  put_before x y z rest zs h p = by (key_cmp (key y) (key x)) refl
    where
      by : (v : Ordering) → key_cmp (key y) (key x) ≡ v
          → match_ordering v (y ∷ x ∷ rest (z ∷ zs)) (y ∷ rest (z ∷ zs)) (x ∷ put key y (rest (z ∷ zs))) ≡ merge_into key x rest (put key y (z ∷ zs))
      by Less r =
          let e : key_cmp (key y) (key z) ≡ Less = key_cmp_total.trans (key y) (key x) (key z) r (reversed (key z) (key x) Greater p) in
          rw e (rw r (rw p refl))
      by Equal r =
          let e : key_cmp (key y) (key z) ≡ Less = key_cmp_total.congr (key y) (key x) (key z) r ∙ reversed (key z) (key x) Greater p in
          rw e (rw r refl)
      by Greater r = ap (λ (l : List X). x ∷ l) h ∙ sym (put_behind x y z rest zs p r)

  put-merge_into : (x y : X) (rest : List X → List X) → ((zs : List X) → put key y (rest zs) ≡ rest (put key y zs)) → (zs : List X) → put key y (merge_into key x rest zs) ≡ merge_into key x rest (put key y zs)
  put-merge_into x y rest h [] = by (key_cmp (key y) (key x))
    where
      by : (v : Ordering) → match_ordering v (y ∷ x ∷ rest []) (y ∷ rest []) (x ∷ put key y (rest [])) ≡ match_ordering v (y ∷ x ∷ rest []) (y ∷ rest []) (x ∷ rest (y ∷ []))
      by Less = refl
      by Equal = refl
      by Greater = ap (λ (l : List X). x ∷ l) (h [])
  put-merge_into x y rest h (z ∷ zs) = by (key_cmp (key z) (key x)) refl (key_cmp (key y) (key z)) refl (put-merge_into x y rest h zs)
    where
      by : (o : Ordering) → key_cmp (key z) (key x) ≡ o → (u : Ordering) → key_cmp (key y) (key z) ≡ u → put key y (merge_into key x rest zs) ≡ merge_into key x rest (put key y zs)
          → put key y (match_ordering o (z ∷ merge_into key x rest zs) (z ∷ rest zs) (x ∷ rest (z ∷ zs))) ≡ merge_into key x rest (put key y (z ∷ zs))
      by Less p Less q more =
          let e : key_cmp (key y) (key x) ≡ Less = key_cmp_total.trans (key y) (key z) (key x) q p in
          rw q (rw e (rw p refl))
      by Less p Equal q more =
          let e : key_cmp (key y) (key x) ≡ Less = key_cmp_total.congr (key y) (key z) (key x) q ∙ p in
          rw q (rw e refl)
      by Less p Greater q more = rw q (rw p (ap (λ (l : List X). z ∷ l) more))
      by Equal p Less q more =
          let e : key_cmp (key y) (key x) ≡ Less = ap (key_cmp (key y)) (sym (key_cmp_one (key z) (key x) p)) ∙ q in
          rw q (rw e (rw p refl))
      by Equal p Equal q more =
          let e : key_cmp (key y) (key x) ≡ Equal = ap (key_cmp (key y)) (sym (key_cmp_one (key z) (key x) p)) ∙ q in
          rw q (rw e refl)
      by Equal p Greater q more = rw q (rw p (ap (λ (l : List X). z ∷ l) (h zs)))
      by Greater p Less q more = put_before x y z rest zs (h (z ∷ zs)) p
      by Greater p Equal q more = put_before x y z rest zs (h (z ∷ zs)) p
      by Greater p Greater q more = put_before x y z rest zs (h (z ∷ zs)) p

  pub put-merged : (y : X) (xs zs : List X) → put key y (merged key xs zs) ≡ merged key xs (put key y zs)
  put-merged y [] zs = refl
  put-merged y (x ∷ xs) zs = put-merge_into x y (merged key xs) (put-merged y xs) zs

  each-merge_into : (P : X → Type 0) (x : X) (rest : List X → List X) → P x → ((zs : List X) → Each P zs → Each P (rest zs)) → (zs : List X) → Each P zs → Each P (merge_into key x rest zs)
  each-merge_into P x rest p h [] k = (p, h [] k)
  each-merge_into P x rest p h (z ∷ zs) k = by (key_cmp (key z) (key x)) (each-merge_into P x rest p h zs k.1)
    where
      by : (o : Ordering) → Each P (merge_into key x rest zs) → Each P (match_ordering o (z ∷ merge_into key x rest zs) (z ∷ rest zs) (x ∷ rest (z ∷ zs)))
      by Less more = (k.0, more)
      by Equal more = (k.0, h zs k.1)
      by Greater more = (p, h (z ∷ zs) k)

  pub each-merged : (P : X → Type 0) (xs zs : List X) → Each P xs → Each P zs → Each P (merged key xs zs)
  each-merged P [] zs h k = k
  each-merged P (x ∷ xs) zs h k = each-merge_into P x (merged key xs) h.0 (λ l m. each-merged P xs l h.1 m) zs k

-- ---- seen through a function that keeps keys

module _ {X Y : Type 0} (f : X → Y) (key : Y → KeyView) where
  abbrev here : X → KeyView
  here x = key (f x)

  merge_into-seen : (x : X) (rest : List X → List X) (seen : List Y → List Y) → ((zs : List X) → map f (rest zs) ≡ seen (map f zs)) → (zs : List X) → map f (merge_into here x rest zs) ≡ merge_into key (f x) seen (map f zs)
  merge_into-seen x rest seen h [] = ap (λ (l : List Y). f x ∷ l) (h [])
  merge_into-seen x rest seen h (z ∷ zs) = by (key_cmp (here z) (here x)) (merge_into-seen x rest seen h zs)
    where
      by : (o : Ordering) → map f (merge_into here x rest zs) ≡ merge_into key (f x) seen (map f zs)
          → map f (match_ordering o (z ∷ merge_into here x rest zs) (z ∷ rest zs) (x ∷ rest (z ∷ zs))) ≡ match_ordering o (f z ∷ merge_into key (f x) seen (map f zs)) (f z ∷ seen (map f zs)) (f x ∷ seen (f z ∷ map f zs))
      by Less more = ap (λ (l : List Y). f z ∷ l) more
      by Equal more = ap (λ (l : List Y). f z ∷ l) (h zs)
      by Greater more = ap (λ (l : List Y). f x ∷ l) (h (z ∷ zs))

  pub merged-seen : (xs zs : List X) → map f (merged here xs zs) ≡ merged key (map f xs) (map f zs)
  merged-seen [] zs = refl
  merged-seen (x ∷ xs) zs = merge_into-seen x (merged here xs) (merged key (map f xs)) (merged-seen xs) zs
