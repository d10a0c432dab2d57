-- The steps of the walks that gather a page and copy it.
use Rattle.std.proofs.Common.{◌≡◌, ◌≢◌, ℕ, zero, suc, ◌+◌, ◌-◌, ◌<◌, ◌≤◌, List, [], ◌∷◌, ◌++◌, length, map, take, drop, get_or, drop-cons, Bool, true, false, Ordering, Less, Equal, Greater, Option, Some, None, subst, ap, ap₂, sym, refl, ◌∙◌, arith, cond, nat_eq, nat_lt, append_assoc, append-nil}
use Rattle.std.proofs.Math.Seq.{take-nil}
use Rattle.std.proofs.lemmas.Bool.Decides.{nat_tests}
use Rattle.std.proofs.lemmas.List.{drop-drop, drop_all, get_or-drop, take-map, take_all, take_more, length-append, length-drop, length-map, map-append}
use Rattle.std.proofs.lemmas.Option.{get_or_from_slice_get, slice_get_within}
use Rattle.std.proofs.lemmas.List.Elements.{filter-append}
use Rattle.std.specs.Prelude.{not, ◌&&◌, nat_le, slice_get, if◌then◌else◌}
use Rattle.std.specs.List.{AllByRecursion as Each}
use Rattle.std.specs.Ordering.{match_ordering}
use Rattle.kube_meta.specs.Key.{KeyView, key_cmp}
use Rattle.kube_meta.specs.Page.{bound_after, in_namespace, listed, page_of}
use Rattle.kube_meta.specs.Plan.{passed}
use Rattle.record_store.specs.ByKey.{KeysRise, put}
use Rattle.record_store.specs.Rows.{row_key}
use Rattle.record_store.specs.declared.row.Row.{Row}
use Rattle.record_store.specs.declared.past.Past.{Past}
use Rattle.record_store.specs.declared.page.Pick.{Pick}
use Rattle.record_store.specs.View.{Item}
use Rattle.record_store.specs.inner.Picked.{Shown, pick_row, pick_key, rows_in, no_rows, standing, stood, superseded, merge_into, merged, with_more}
use Rattle.record_store.proofs.Mapped.{put-seen}

module _ {X : Type 0} where
  -- the thing at a place is the first of those from there on
  pub next_at : (xs : List X) (i : ℕ) (x : X) → i < length xs → x ≡ get_or xs i x → drop i xs ≡ x ∷ drop (i + 1) xs
  next_at xs i x p e =
      let next : suc i ≡ i + 1 = omega arith in
      drop-cons xs i x p ∙ ap₂ (λ (y : X) (m : ℕ). y ∷ drop m xs) (sym e) next

  pub next_of_get : (xs : List X) (i : ℕ) (x : X) → slice_get xs i ≡ Some x → drop i xs ≡ x ∷ drop (suc i) xs
  next_of_get [] i x e = absurd (cc)
  next_of_get (y ∷ xs) zero x e = let same : y ≡ x = cc in ap (λ (z : X). z ∷ xs) same
  next_of_get (y ∷ xs) (suc i) x e = next_of_get xs i x e

  pub get_some : (xs : List X) (i : ℕ) → i < length xs → slice_get xs i ≡ None → ⊥
  get_some [] i p e = omega (arith, p)
  get_some (x ∷ xs) zero p e = cc
  get_some (x ∷ xs) (suc i) p e = get_some xs i (omega (arith, p)) e

-- ---- the older rows, by key

pub put_row : (p : Pick) (ps : List Pick) → rows_in (put pick_key p ps) ≡ put row_key (pick_row p) (rows_in ps)
put_row p ps = put-seen pick_row row_key p ps

-- the record at a place before those that were looked at
pub older : (r : ℕ) (ws : List Past) (i n : ℕ) (w : Past) (done new : List Row) → slice_get ws i ≡ Some w → n ≡ suc i → new ≡ (if stood r w then put row_key w.row done else done)
    → done ≡ superseded r (drop n ws) → new ≡ superseded r (drop i ws)
older r ws i n w done new got next e h =
    e ∙ ap (λ (rs : List Row). if stood r w then put row_key w.row rs else rs) (h ∙ ap (λ (m : ℕ). superseded r (drop m ws)) next)
    ∙ ap (superseded r) (sym (next_of_get ws i w got))

pub put_in : (r : ℕ) (w : Past) (p : Pick) (done new : List Pick) → stood r w ≡ true → pick_row p ≡ w.row → new ≡ put pick_key p done → rows_in new ≡ (if stood r w then put row_key w.row (rows_in done) else rows_in done)
put_in r w p done new is row e =
    ap rows_in e ∙ put_row p done ∙ ap (λ (x : Row). put row_key x (rows_in done)) row
    ∙ ap (λ (b : Bool). if b then put row_key w.row (rows_in done) else rows_in done) (sym is)

pub put_out : (r : ℕ) (w : Past) (done : List Pick) → stood r w ≡ false → rows_in done ≡ (if stood r w then put row_key w.row (rows_in done) else rows_in done)
put_out r w done isnt = ap (λ (b : Bool). if b then put row_key w.row (rows_in done) else rows_in done) (sym isnt)

-- ---- those of a namespace behind a key

module _ (ns : Option (List ℕ)) (after : Option KeyView) where
  abbrev is_asked : Row → Bool
  is_asked r = in_namespace ns r.key && not (passed (bound_after after) r.key)

  pub kept_in : (ps : List Pick) (p : Pick) → is_asked (pick_row p) ≡ true → rows_in (ps ++ p ∷ []) ≡ rows_in ps ++ listed row_key ns after (pick_row p ∷ [])
  kept_in ps p e = map-append pick_row ps (p ∷ []) ∙ ap (λ (b : Bool). rows_in ps ++ cond b (pick_row p ∷ []) []) (sym e)

  pub kept_out : (ps : List Pick) (p : Pick) → is_asked (pick_row p) ≡ false → rows_in ps ≡ rows_in ps ++ listed row_key ns after (pick_row p ∷ [])
  kept_out ps p e = sym (append-nil (rows_in ps)) ∙ ap (λ (b : Bool). rows_in ps ++ cond b (pick_row p ∷ []) []) (sym e)

  pub kept_at : (done new all : List Row) (picks : List Pick) (i : ℕ) (p : Pick) → i < length picks → p ≡ get_or picks i p → new ≡ done ++ listed row_key ns after (pick_row p ∷ [])
      → done ++ listed row_key ns after (rows_in (drop i picks)) ≡ all → new ++ listed row_key ns after (rows_in (drop (i + 1) picks)) ≡ all
  kept_at done new all picks i p within is e h =
      let rest = rows_in (drop (i + 1) picks) in
      ap (λ (l : List Row). l ++ listed row_key ns after rest) e ∙ append_assoc done (listed row_key ns after (pick_row p ∷ [])) (listed row_key ns after rest)
      ∙ ap (λ (l : List Row). done ++ l) (sym (filter-append is_asked (pick_row p ∷ []) rest))
      ∙ ap (λ (ps : List Pick). done ++ listed row_key ns after (rows_in ps)) (sym (next_at picks i p within is)) ∙ h

  pub kept_all : (done all : List Row) (picks : List Pick) (i : ℕ) → length picks ≤ i → done ++ listed row_key ns after (rows_in (drop i picks)) ≡ all → done ≡ all
  kept_all done all picks i end h = sym (append-nil done) ∙ ap (λ (ps : List Pick). done ++ listed row_key ns after (rows_in ps)) (sym (drop_all i picks end)) ∙ h

pub rows-rise : (ps : List Pick) → KeysRise (map pick_key ps) → KeysRise (map row_key (rows_in ps))
rows-rise [] h = tt
rows-rise (p ∷ []) h = (tt, tt)
rows-rise (p ∷ q ∷ ps) h = (h.0, rows-rise (q ∷ ps) h.1)

-- ---- a run of rows, cut where the page ends

pub cut-run : (run rows : List Row) (place count to : ℕ) → run ++ drop (place + length run) rows ≡ drop place rows → count ≤ length run → place + count ≤ to
    → take count run ++ take (to - (place + count)) (drop (place + count) rows) ≡ take (to - place) (drop place rows)
cut-run run rows place count to e le upto =
    let d = drop place rows in
    let whole : to - place ≡ count + (to - (place + count)) = omega (arith, upto) in
    let front : take count run ≡ take count d = sym (take-within run (drop (place + length run) rows) count le) ∙ ap (λ (l : List Row). take count l) e in
    ap₂ (λ (l m : List Row). l ++ take (to - (place + count)) m) front (sym (drop-drop count place rows))
    ∙ sym (take-sum count (to - (place + count)) d) ∙ ap (λ (n : ℕ). take n d) (sym whole)
  where
    take-within : (xs ys : List Row) (n : ℕ) → n ≤ length xs → take n (xs ++ ys) ≡ take n xs
    take-within xs ys zero p = refl
    take-within [] ys (suc n) p = absurd (omega (arith, p))
    take-within (x ∷ xs) ys (suc n) p = ap (λ (l : List Row). x ∷ l) (take-within xs ys n (omega (arith, p)))

    take-sum : (n m : ℕ) (xs : List Row) → take (n + m) xs ≡ take n xs ++ take m (drop n xs)
    take-sum zero m xs = let same : zero + m ≡ m = omega arith in ap (λ (k : ℕ). take k xs) same
    take-sum (suc n) m [] = let same : suc n + m ≡ suc (n + m) = omega arith in ap (λ (k : ℕ). take k []) same ∙ sym (take-nil m)
    take-sum (suc n) m (x ∷ xs) =
        let same : suc n + m ≡ suc (n + m) = omega arith in
        ap (λ (k : ℕ). take k (x ∷ xs)) same ∙ ap (λ (l : List Row). x ∷ l) (take-sum n m xs)

-- ---- one row was offered: what the page comes to then with more rows is what it came to with the row before them

module _ (done new : List Row → Shown) (all : Shown) where
  one : (rows : List Row) (r : Row) → ((rest : List Row) → new rest ≡ done (r ∷ rest)) → done (r ∷ rows) ≡ all → new rows ≡ all
  one rows r e h = e rows ∙ h

  module _ (olds : List Pick) (i : ℕ) (p : Pick) (within : i < length olds) (is : p ≡ get_or olds i p) where
    pub offered_at : ((rest : List Row) → new rest ≡ done (pick_row p ∷ rest)) → done (rows_in (drop i olds)) ≡ all → new (rows_in (drop (i + 1) olds)) ≡ all
    offered_at e h = one (rows_in (drop (i + 1) olds)) (pick_row p) e (ap (λ (ps : List Pick). done (rows_in ps)) (sym (next_at olds i p within is)) ∙ h)

    module _ (x : Row) (rest : List Row → List Row) (h : done (merge_into row_key x rest (rows_in (drop i olds))) ≡ all) where
      abbrev zs : List Row
      zs = rows_in (drop (i + 1) olds)

      chosen : (o : Ordering) → key_cmp (pick_key p) (row_key x) ≡ o → done (match_ordering o (pick_row p ∷ merge_into row_key x rest zs) (pick_row p ∷ rest zs) (x ∷ rest (pick_row p ∷ zs))) ≡ all
      chosen o q =
          ap (λ (u : Ordering). done (match_ordering u (pick_row p ∷ merge_into row_key x rest zs) (pick_row p ∷ rest zs) (x ∷ rest (pick_row p ∷ zs)))) (sym q)
          ∙ ap (λ (ps : List Pick). done (merge_into row_key x rest (rows_in ps))) (sym (next_at olds i p within is)) ∙ h

      pub merged_before : key_cmp (pick_key p) (row_key x) ≡ Less → ((more : List Row) → new more ≡ done (pick_row p ∷ more)) → new (merge_into row_key x rest (rows_in (drop (i + 1) olds))) ≡ all
      merged_before q e = one (merge_into row_key x rest zs) (pick_row p) e (chosen Less q)

      pub merged_instead : key_cmp (pick_key p) (row_key x) ≡ Equal → ((more : List Row) → new more ≡ done (pick_row p ∷ more)) → new (rest (rows_in (drop (i + 1) olds))) ≡ all
      merged_instead q e = one (rest zs) (pick_row p) e (chosen Equal q)

      pub merged_behind : key_cmp (pick_key p) (row_key x) ≡ Greater → ((more : List Row) → new more ≡ done (x ∷ more)) → new (rest (rows_in (drop i olds))) ≡ all
      merged_behind q e = ap (λ (ps : List Pick). new (rest (rows_in ps))) (next_at olds i p within is) ∙ one (rest (pick_row p ∷ zs)) x e (chosen Greater q)

  pub merged_last : (olds : List Pick) (i n : ℕ) (x : Row) (rest : List Row → List Row) → length olds ≤ i → length olds ≤ n → ((more : List Row) → new more ≡ done (x ∷ more))
      → done (merge_into row_key x rest (rows_in (drop i olds))) ≡ all → new (rest (rows_in (drop n olds))) ≡ all
  merged_last olds i n x rest end end_n e h =
      ap (λ (ps : List Pick). new (rest (rows_in ps))) (drop_all n olds end_n)
      ∙ one (rest []) x e (ap (λ (ps : List Pick). done (merge_into row_key x rest (rows_in ps))) (sym (drop_all i olds end)) ∙ h)

pub offered_all : (done : List Row → Shown) (all : Shown) (olds : List Pick) (i : ℕ) → length olds ≤ i → done (rows_in (drop i olds)) ≡ all → done [] ≡ all
offered_all done all olds i end h = ap (λ (ps : List Pick). done (rows_in ps)) (sym (drop_all i olds end)) ∙ h

-- ---- the rows that stand

pub standing_in : (r : ℕ) (x : Row) (xs zs : List Row) → nat_le x.record.rv r ≡ true → merged row_key (standing r (x ∷ xs)) zs ≡ merge_into row_key x (merged row_key (standing r xs)) zs
standing_in r x xs zs e = ap (λ (b : Bool). merged row_key (cond b (x ∷ standing r xs) (standing r xs)) zs) e

pub standing_out : (r : ℕ) (x : Row) (xs zs : List Row) → nat_le x.record.rv r ≡ false → merged row_key (standing r (x ∷ xs)) zs ≡ merged row_key (standing r xs) zs
standing_out r x xs zs e = ap (λ (b : Bool). merged row_key (cond b (x ∷ standing r xs) (standing r xs)) zs) e

-- ---- a row goes on a page, or is counted

module _ (limit : ℕ) (p : Shown) (x : Row) (xs : List Row) where
  -- the page is full
  more-behind : nat_eq limit 0 ≡ false → limit ≤ length p.rows → with_more limit (record { rows = p.rows; behind = p.behind + 1 }) xs ≡ with_more limit p (x ∷ xs)
  more-behind e le =
      let none : limit - length p.rows ≡ zero = omega (arith, le) in
      let count : p.behind + 1 + (length xs - zero) ≡ p.behind + (length (x ∷ xs) - zero) = omega arith in
      rw (e, none) (ap (λ (n : ℕ). record { rows = p.rows ++ []; behind = n }) count)

  no-limit : nat_eq limit 0 ≡ true → with_more limit (record p { rows = p.rows ++ x ∷ [] }) xs ≡ with_more limit p (x ∷ xs)
  no-limit e = rw e (ap (λ (rs : List Row). record { rows = rs; behind = p.behind }) (append_assoc p.rows (x ∷ []) xs))

  more-shown : nat_eq limit 0 ≡ false → length p.rows < limit → with_more limit (record p { rows = p.rows ++ x ∷ [] }) xs ≡ with_more limit p (x ∷ xs)
  more-shown e lt =
      let m = limit - (length p.rows + 1) in
      let here : limit - length p.rows ≡ suc m = omega (arith, lt) in
      let less : limit - length (p.rows ++ x ∷ []) ≡ m = omega (arith, length-append p.rows (x ∷ [])) in
      let count : p.behind + (length xs - m) ≡ p.behind + (length (x ∷ xs) - suc m) = omega arith in
      rw (e, here, less) (ap₂ (λ (rs : List Row) (n : ℕ). record { rows = rs; behind = n }) (append_assoc p.rows (x ∷ []) (take m xs)) count)

  pub more-open : not (nat_eq limit 0) && nat_le limit (length p.rows) ≡ false → with_more limit (record p { rows = p.rows ++ x ∷ [] }) xs ≡ with_more limit p (x ∷ xs)
  more-open is = by (nat_eq limit 0) refl is
    where
      by : (b : Bool) → nat_eq limit 0 ≡ b → not b && nat_le limit (length p.rows) ≡ false → with_more limit (record p { rows = p.rows ++ x ∷ [] }) xs ≡ with_more limit p (x ∷ xs)
      by true e is = no-limit e
      by false e is = more-shown e (grind (arith, nat_tests))

  pub more-full : not (nat_eq limit 0) && nat_le limit (length p.rows) ≡ true → with_more limit (record { rows = p.rows; behind = p.behind + 1 }) xs ≡ with_more limit p (x ∷ xs)
  more-full is = by (nat_eq limit 0) refl is
    where
      by : (b : Bool) → nat_eq limit 0 ≡ b → not b && nat_le limit (length p.rows) ≡ true → with_more limit (record { rows = p.rows; behind = p.behind + 1 }) xs ≡ with_more limit p (x ∷ xs)
      by true e is = absurd (cc)
      by false e is = more-behind e (grind (arith, nat_tests))

-- ---- the page

pub with_more-nothing : (limit : ℕ) (p : Shown) → with_more limit p [] ≡ p
with_more-nothing limit p = by (nat_eq limit 0) refl
  where
    by : (b : Bool) → nat_eq limit 0 ≡ b → with_more limit p [] ≡ p
    by true e = rw e (ap (λ (rs : List Row). record { rows = rs; behind = p.behind }) (append-nil p.rows))
    by false e =
        rw e (ap₂ (λ (rs : List Row) (n : ℕ). record { rows = rs; behind = n }) (ap (λ (rs : List Row). p.rows ++ rs) (take-nil (limit - length p.rows)) ∙ append-nil p.rows) (omega arith))

each-take : (P : Row → Type 0) (n : ℕ) (rows : List Row) → Each P rows → Each P (take n rows)
each-take P zero rows h = tt
each-take P (suc n) [] h = tt
each-take P (suc n) (r ∷ rows) h = (h.0, each-take P n rows h.1)

pub each-shown : (P : Row → Type 0) (limit : ℕ) (rows : List Row) → Each P rows → Each P (with_more limit no_rows rows).rows
each-shown P limit rows h = by (nat_eq limit 0) refl
  where
    by : (b : Bool) → nat_eq limit 0 ≡ b → Each P (with_more limit no_rows rows).rows
    by true e = rw e h
    by false e = rw e (each-take P (limit - length no_rows.rows) rows h)

module _ (f : Row → Item) (number limit : ℕ) (rows : List Row) where
  pub page-items : map f (with_more limit no_rows rows).rows ≡ (page_of number limit (map f rows)).items
  page-items = by (nat_eq limit 0) refl
    where
      by : (b : Bool) → nat_eq limit 0 ≡ b → map f (with_more limit no_rows rows).rows ≡ (page_of number limit (map f rows)).items
      by true e = rw e refl
      by false e =
          let whole : limit - length no_rows.rows ≡ limit = omega arith in
          rw (e, whole) (sym (take-map f limit rows))

  pub page-behind : (with_more limit no_rows rows).behind ≡ (page_of number limit (map f rows)).remaining
  page-behind = by (nat_eq limit 0) refl
    where
      by : (b : Bool) → nat_eq limit 0 ≡ b → (with_more limit no_rows rows).behind ≡ (page_of number limit (map f rows)).remaining
      by true e = rw e refl
      by false e = rw e (omega (arith, length-map rows f))

-- ---- copies

pub copied_next : (f : Row → Item) (picks : List Pick) (i : ℕ) (p : Pick) (done new all : List Item) (x : Item) → i < length picks → p ≡ get_or picks i p → x ≡ f (pick_row p) → new ≡ done ++ x ∷ []
    → done ++ map f (rows_in (drop i picks)) ≡ all → new ++ map f (rows_in (drop (i + 1) picks)) ≡ all
copied_next f picks i p done new all x within is same e h =
    let later = map f (rows_in (drop (i + 1) picks)) in
    ap (λ (l : List Item). l ++ later) e ∙ append_assoc done (x ∷ []) later ∙ ap (λ (y : Item). done ++ y ∷ later) same
    ∙ ap (λ (ps : List Pick). done ++ map f (rows_in ps)) (sym (next_at picks i p within is)) ∙ h

pub each_next : (P : Row → Type 0) (picks : List Pick) (i : ℕ) (p : Pick) → i < length picks → p ≡ get_or picks i p → Each P (rows_in (drop i picks)) → P (pick_row p) × Each P (rows_in (drop (i + 1) picks))
each_next P picks i p within is h = subst (λ (ps : List Pick). Each P (rows_in ps)) (next_at picks i p within is) h

-- ---- rows from a place on

pub each-got : (P : Row → Type 0) (rows : List Row) (i : ℕ) (r : Row) → Each P rows → slice_get rows i ≡ Some r → P r
each-got P [] i r h e = absurd (cc)
each-got P (x ∷ rows) zero r h e = let same : x ≡ r = cc in subst P same h.0
each-got P (x ∷ rows) (suc i) r h e = each-got P rows i r h.1 e

pub one-more : (f : Row → Item) (rows : List Row) (from i : ℕ) (r : Row) (x : Item) (done new : List Item) → slice_get rows (from + i) ≡ Some r → x ≡ f r → new ≡ done ++ x ∷ [] → done ≡ map f (take i (drop from rows))
    → new ≡ map f (take (i + 1) (drop from rows))
one-more f rows from i r x done new got same e h =
    let inside = slice_get_within rows (from + i) r got in
    let here : get_or (drop from rows) i r ≡ r = get_or-drop from rows i r ∙ get_or_from_slice_get rows (from + i) r r got in
    e ∙ ap₂ (λ (l : List Item) (y : Item). l ++ y ∷ []) h (same ∙ ap f (sym here))
    ∙ sym (map-append f (take i (drop from rows)) (get_or (drop from rows) i r ∷ []))
    ∙ ap (map f) (sym (take_more (drop from rows) i r (omega (arith, inside, length-drop from rows))))

-- the first of some rows as a page
pub record IsPage (f : Row → Item) (number limit n : ℕ) (rows : List Row) : Type 0 where
  pub items : map f (take n rows) ≡ (page_of number limit (map f rows)).items
  pub remaining : length rows - n ≡ (page_of number limit (map f rows)).remaining

module _ (f : Row → Item) (number limit n : ℕ) (rows : List Row) where
  whole : n ≡ length rows → map f (take n rows) ≡ map f rows
  whole e = ap (map f) (take_all n rows (omega (arith, e)))

  paged_none : nat_eq limit 0 ≡ true → n ≡ length rows → IsPage f number limit n rows
  paged_none e w = record {
    items = rw e (whole w);
    remaining = rw e (omega (arith, w));
  }

  paged_few : nat_eq limit 0 ≡ false → length rows ≤ limit → n ≡ length rows → IsPage f number limit n rows
  paged_few e fits w =
      let counted = length-map rows f in
      record {
        items = rw e (whole w ∙ sym (take_all limit (map f rows) (omega (arith, fits, counted))));
        remaining = rw e (omega (arith, w, counted, fits));
      }

  paged_some : nat_eq limit 0 ≡ false → limit < length rows → n ≡ limit → IsPage f number limit n rows
  paged_some e below w =
      let counted = length-map rows f in
      record {
        items = rw e (ap (λ (m : ℕ). map f (take m rows)) w ∙ sym (take-map f limit rows));
        remaining = rw e (omega (arith, w, counted));
      }

  pub paged : (limit ≡ 0 → n ≡ length rows) → (length rows ≤ limit → n ≡ length rows) → (limit ≢ 0 → limit < length rows → n ≡ limit) → IsPage f number limit n rows
  paged none few some = by (nat_eq limit 0) refl (nat_lt limit (length rows)) refl
    where
      by : (b : Bool) → nat_eq limit 0 ≡ b → (c : Bool) → nat_lt limit (length rows) ≡ c → IsPage f number limit n rows
      by true e c g = let no_limit : limit ≡ 0 = grind (arith, nat_tests) in paged_none e (none no_limit)
      by false e true g =
          let limited : limit ≢ 0 = λ z. (let k : nat_eq limit 0 ≡ true = grind (arith, nat_tests) in cc) in
          let below : limit < length rows = grind (arith, nat_tests) in
          paged_some e below (some limited below)
      by false e false g =
          let fits : length rows ≤ limit = grind (arith, nat_tests) in
          paged_few e fits (few fits)
