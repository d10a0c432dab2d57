-- The rows of a namespace behind a key, among rows by key.
use Rattle.std.proofs.Common.{◌≡◌, ℕ, List, [], ◌∷◌, map, Bool, true, false, Ordering, Less, Equal, Greater, Option, None, Some, ap, sym, refl, ◌∙◌, cond, filter}
use Rattle.std.specs.Prelude.{◌&&◌, not, nat_le}
use Rattle.std.specs.Ordering.{is_gt, is_lt, match_ordering}
use Rattle.kube_meta.specs.Key.{KeyView, key_cmp}
use Rattle.kube_meta.specs.laws.KeyOrder.{key_cmp_total, key_cmp_one}
use Rattle.kube_meta.specs.Page.{in_namespace, listed}
use Rattle.record_store.specs.ByKey.{IsBelowFirst, KeysRise}
use Rattle.record_store.specs.Rows.{row_key}
use Rattle.record_store.specs.declared.row.Row.{Row}
use Rattle.record_store.specs.inner.Picked.{merge_into, merged, standing}
use Rattle.record_store.specs.inner.Stretches.{comes_before}
use Rattle.record_store.proofs.Search.{reversed}
use Rattle.record_store.proofs.Stretched.{among-them, falls, in-of, is_behind, names_cmp}

-- what isn't behind a key comes before what is
comes-first : (after : Option KeyView) (z x : KeyView) → is_behind after z ≡ false → is_behind after x ≡ true → key_cmp z x ≡ Less
comes-first None z x p q = absurd (cc)
comes-first (Some k) z x p q = by (key_cmp z k) refl (key_cmp x k) refl p q
  where
    by : (o : Ordering) → key_cmp z k ≡ o → (u : Ordering) → key_cmp x k ≡ u → not (not (is_gt o)) ≡ false → not (not (is_gt u)) ≡ true → key_cmp z x ≡ Less
    by Less e Less f p q = absurd (cc)
    by Less e Equal f p q = absurd (cc)
    by Less e Greater f p q = key_cmp_total.trans z k x e (reversed x k Greater f)
    by Equal e Less f p q = absurd (cc)
    by Equal e Equal f p q = absurd (cc)
    by Equal e Greater f p q = key_cmp_total.congr z k x e ∙ reversed x k Greater f
    by Greater e Less f p q = absurd (cc)
    by Greater e Equal f p q = absurd (cc)
    by Greater e Greater f p q = absurd (cc)

abbrev asked : Option (List ℕ) → Option KeyView → KeyView → Bool
asked ns after k = in_namespace ns k && is_behind after k

both : (b c : Bool) → b && c ≡ true → (b ≡ true) × (c ≡ true)
both true true e = (refl, refl)
both true false e = absurd (cc)
both false true e = absurd (cc)
both false false e = absurd (cc)

-- a key between two of a namespace is of it
among : (ns : List ℕ) (x y z : KeyView) → key_cmp x y ≡ Less → key_cmp y z ≡ Less → in_namespace (Some ns) x ≡ true → in_namespace (Some ns) z ≡ true → in_namespace (Some ns) y ≡ true
among ns x y z p q h k = among-them ns y (not-before (comes_before false ns y) refl) (falls true ns y z q (upto (names_cmp z.ns ns) refl))
  where
    upto : (o : Ordering) → names_cmp z.ns ns ≡ o → not (is_gt (names_cmp z.ns ns)) ≡ true
    upto Less e = rw e refl
    upto Equal e = rw e refl
    upto Greater e = let out : in_namespace (Some ns) z ≡ false = in-of ns z Greater e in absurd (cc)

    from : (o : Ordering) → names_cmp x.ns ns ≡ o → is_lt (names_cmp x.ns ns) ≡ false
    from Less e = let out : in_namespace (Some ns) x ≡ false = in-of ns x Less e in absurd (cc)
    from Equal e = rw e refl
    from Greater e = rw e refl

    not-before : (b : Bool) → comes_before false ns y ≡ b → comes_before false ns y ≡ false
    not-before true e =
        let one = falls false ns x y p e in
        let other = from (names_cmp x.ns ns) refl in
        absurd (cc)
    not-before false e = e

between : (ns : Option (List ℕ)) (after : Option KeyView) (x y z : KeyView) → key_cmp x y ≡ Less → key_cmp y z ≡ Less → asked ns after x ≡ true → asked ns after z ≡ true → asked ns after y ≡ true
between ns after x y z p q h k =
    let hx = both (in_namespace ns x) (is_behind after x) h in
    let hz = both (in_namespace ns z) (is_behind after z) k in
    let inside : in_namespace ns y ≡ true = of ns hx.0 hz.0 in
    let behind : is_behind after y ≡ true = by (is_behind after y) refl hx.1 in
    rw (inside, behind) refl
  where
    of : (ns : Option (List ℕ)) → in_namespace ns x ≡ true → in_namespace ns z ≡ true → in_namespace ns y ≡ true
    of None h k = refl
    of (Some ns) h k = among ns x y z p q h k

    by : (b : Bool) → is_behind after y ≡ b → is_behind after x ≡ true → is_behind after y ≡ true
    by true e h = e
    by false e h =
        let one = comes-first after y x e h in
        let other = reversed x y Less p in
        absurd (cc)

module _ {X : Type 0} (key : X → KeyView) where
  below-rest : (k : KeyView) (y : X) (ys : List X) → IsBelowFirst k (map key (y ∷ ys)) → KeysRise (map key (y ∷ ys)) → IsBelowFirst k (map key ys)
  below-rest k y [] p h = tt
  below-rest k y (z ∷ ys) p h = key_cmp_total.trans k (key y) (key z) p h.0

  below-filter : (s : X → Bool) (k : KeyView) (xs : List X) → IsBelowFirst k (map key xs) → KeysRise (map key xs) → IsBelowFirst k (map key (filter s xs))
  below-filter s k [] p h = tt
  below-filter s k (x ∷ xs) p h = by (s x) (below-filter s k xs (below-rest k x xs p h) h.1)
    where
      by : (b : Bool) → IsBelowFirst k (map key (filter s xs)) → IsBelowFirst k (map key (cond b (x ∷ filter s xs) (filter s xs)))
      by true more = p
      by false more = more

  rise-filter : (s : X → Bool) (xs : List X) → KeysRise (map key xs) → KeysRise (map key (filter s xs))
  rise-filter s [] h = tt
  rise-filter s (x ∷ xs) h = by (s x) (rise-filter s xs h.1)
    where
      by : (b : Bool) → KeysRise (map key (filter s xs)) → KeysRise (map key (cond b (x ∷ filter s xs) (filter s xs)))
      by true more = (below-filter s (key x) xs h.0 h.1, more)
      by false more = more

  module _ (p : KeyView → Bool) (convex : (x y z : KeyView) → key_cmp x y ≡ Less → key_cmp y z ≡ Less → p x ≡ true → p z ≡ true → p y ≡ true) where
    abbrev b : X → Bool
    b x = p (key x)

    none-later : (x z : X) (zs : List X) → b x ≡ true → key_cmp (key x) (key z) ≡ Less → b z ≡ false → IsBelowFirst (key z) (map key zs) → KeysRise (map key zs) → filter b zs ≡ []
    none-later x z [] px lt pz below rise = refl
    none-later x z (y ∷ ys) px lt pz below rise = by (b y) refl (none-later x z ys px lt pz (below-rest (key z) y ys below rise) rise.1)
      where
        by : (t : Bool) → b y ≡ t → filter b ys ≡ [] → cond t (y ∷ filter b ys) (filter b ys) ≡ []
        by true e more =
            let mid = convex (key x) (key z) (key y) lt below px e in
            absurd (cc)
        by false e more = more

    module _ (x : X) (xs : List X) (h : (l : List X) → KeysRise (map key l) → filter b (merged key xs l) ≡ merged key (filter b xs) (filter b l)) where
      abbrev later : List X → List X
      later l = merged key (filter b xs) l

      kept : b x ≡ true → (zs : List X) → KeysRise (map key zs) → filter b (merge_into key x (merged key xs) zs) ≡ merge_into key x (merged key (filter b xs)) (filter b zs)
      kept is [] rise = rw is (ap (λ (l : List X). x ∷ l) (h [] tt))
      kept is (z ∷ zs) rise = by (b z) refl (key_cmp (key z) (key x)) refl (kept is zs rise.1)
        where
          by : (t : Bool) → b z ≡ t → (o : Ordering) → key_cmp (key z) (key x) ≡ o → filter b (merge_into key x (merged key xs) zs) ≡ merge_into key x (merged key (filter b xs)) (filter b zs)
              → filter b (match_ordering o (z ∷ merge_into key x (merged key xs) zs) (z ∷ merged key xs zs) (x ∷ merged key xs (z ∷ zs))) ≡ merge_into key x (merged key (filter b xs)) (cond t (z ∷ filter b zs) (filter b zs))
          by true e Less q more = rw (e, q) (ap (λ (l : List X). z ∷ l) more)
          by true e Equal q more = rw (e, q) (ap (λ (l : List X). z ∷ l) (h zs rise.1))
          by true e Greater q more = rw (is, q) (ap (λ (l : List X). x ∷ l) (h (z ∷ zs) rise ∙ ap (λ (t : Bool). merged key (filter b xs) (cond t (z ∷ filter b zs) (filter b zs))) e))
          by false e Less q more = rw e more
          by false e Equal q more =
              let same = ap p (key_cmp_one (key z) (key x) q) in
              absurd (cc)
          by false e Greater q more =
              let none = none-later x z zs is (reversed (key z) (key x) Greater q) e rise.0 rise.1 in
              rw is (ap (λ (l : List X). x ∷ l) (h (z ∷ zs) rise ∙ ap (λ (t : Bool). merged key (filter b xs) (cond t (z ∷ filter b zs) (filter b zs))) e ∙ ap (merged key (filter b xs)) none)
              ∙ sym (ap (merge_into key x (merged key (filter b xs))) none))

      dropped : IsBelowFirst (key x) (map key xs) → KeysRise (map key xs) → b x ≡ false → (zs : List X) → KeysRise (map key zs) → filter b (merge_into key x (merged key xs) zs) ≡ merged key (filter b xs) (filter b zs)
      dropped below rise_x is [] rise = rw is (h [] tt)
      dropped below rise_x is (z ∷ zs) rise = by (b z) refl (key_cmp (key z) (key x)) refl (dropped below rise_x is zs rise.1)
        where
          by : (t : Bool) → b z ≡ t → (o : Ordering) → key_cmp (key z) (key x) ≡ o → filter b (merge_into key x (merged key xs) zs) ≡ merged key (filter b xs) (filter b zs)
              → filter b (match_ordering o (z ∷ merge_into key x (merged key xs) zs) (z ∷ merged key xs zs) (x ∷ merged key xs (z ∷ zs))) ≡ merged key (filter b xs) (cond t (z ∷ filter b zs) (filter b zs))
          by true e Less q more =
              let none = none-later z x xs e q is below rise_x in
              rw e (ap (λ (l : List X). z ∷ l) (more ∙ ap (λ (l : List X). merged key l (filter b zs)) none) ∙ sym (ap (λ (l : List X). merged key l (z ∷ filter b zs)) none))
          by true e Equal q more =
              let same = ap p (key_cmp_one (key z) (key x) q) in
              absurd (cc)
          by true e Greater q more = rw is (h (z ∷ zs) rise ∙ ap (λ (t : Bool). merged key (filter b xs) (cond t (z ∷ filter b zs) (filter b zs))) e)
          by false e Less q more = rw e more
          by false e Equal q more = rw e (h zs rise.1)
          by false e Greater q more = rw is (h (z ∷ zs) rise ∙ ap (λ (t : Bool). merged key (filter b xs) (cond t (z ∷ filter b zs) (filter b zs))) e)

    filter-merged : (xs zs : List X) → KeysRise (map key xs) → KeysRise (map key zs) → filter b (merged key xs zs) ≡ merged key (filter b xs) (filter b zs)
    filter-merged [] zs rise_x rise = refl
    filter-merged (x ∷ xs) zs rise_x rise = by (b x) refl (λ l r. filter-merged xs l rise_x.1 r)
      where
        by : (t : Bool) → b x ≡ t → ((l : List X) → KeysRise (map key l) → filter b (merged key xs l) ≡ merged key (filter b xs) (filter b l))
            → filter b (merge_into key x (merged key xs) zs) ≡ merged key (cond t (x ∷ filter b xs) (filter b xs)) (filter b zs)
        by true e h = kept x xs h e zs rise
        by false e h = dropped x xs h rise_x.0 rise_x.1 e zs rise

filter-turned : {X : Type 0} (p q : X → Bool) (xs : List X) → filter p (filter q xs) ≡ filter q (filter p xs)
filter-turned p q [] = refl
filter-turned {X} p q (x ∷ xs) = by (p x) refl (q x) refl (filter-turned p q xs)
  where
    by : (s : Bool) → p x ≡ s → (t : Bool) → q x ≡ t → filter p (filter q xs) ≡ filter q (filter p xs)
        → filter p (cond t (x ∷ filter q xs) (filter q xs)) ≡ filter q (cond s (x ∷ filter p xs) (filter p xs))
    by true e true f more = rw (e, f) (ap (λ (l : List X). x ∷ l) more)
    by true e false f more = rw f more
    by false e true f more = rw e more
    by false e false f more = more

-- those of a namespace behind a key may be taken first
pub among-merged : (ns : Option (List ℕ)) (after : Option KeyView) (r : ℕ) (rows olds : List Row) → KeysRise (map row_key rows) → KeysRise (map row_key olds)
    → merged row_key (standing r (listed row_key ns after rows)) (listed row_key ns after olds) ≡ listed row_key ns after (merged row_key (standing r rows) olds)
among-merged ns after r rows olds rise rise_olds =
    ap (λ (l : List Row). merged row_key l (listed row_key ns after olds)) (filter-turned (λ x. nat_le x.record.rv r) (λ x. asked ns after (row_key x)) rows)
    ∙ sym (filter-merged row_key (asked ns after) (between ns after) (standing r rows) olds (rise-filter row_key (λ x. nat_le x.record.rv r) rows rise) rise_olds)
