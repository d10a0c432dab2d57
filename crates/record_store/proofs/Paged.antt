-- The records as they were at a number, from the rows of the index and of the window.
use Rattle.std.proofs.Common.{◌≡◌, ℕ, ◌≤◌, List, [], ◌∷◌, map, Bool, true, false, Option, subst, ap, sym, refl, ◌∙◌, arith, cond, filter, nat_lt}
use Rattle.std.proofs.lemmas.Bool.Decides.{nat_tests}
use Rattle.std.specs.Prelude.{◌&&◌, not, if◌then◌else◌, nat_le}
use Rattle.std.specs.List.{AllByRecursion as Each}
use Rattle.kube_meta.specs.Key.{KeyView}
use Rattle.kube_meta.specs.Page.{bound_after, in_namespace, listed}
use Rattle.kube_meta.specs.Plan.{passed}
use Rattle.kube_meta.specs.declared.limits.Limits.{Limits}
use Rattle.record_store.specs.ByKey.{put}
use Rattle.record_store.specs.Rows.{Rows, row_key}
use Rattle.record_store.specs.declared.row.Row.{Row}
use Rattle.record_store.specs.declared.past.Past.{Past}
use Rattle.record_store.specs.Pasts.{Pasts, rows_of}
use Rattle.record_region.specs.Places.{Places}
use Rattle.record_store.specs.View.{Item, Old, item_key, put_all, still, since, items_at}
use Rattle.record_store.specs.Inside.{AreKept, IsKept, IsSoundStore, item_of, old_of, store_view}
use Rattle.record_store.specs.inner.Picked.{merged, standing, stood, superseded}
use Rattle.record_store.proofs.Keyed.{each-put}
use Rattle.record_store.proofs.Mapped.{put-seen, each-seen}
use Rattle.record_store.proofs.Merged.{merged-nothing, put-merged, merged-seen, each-merged}

pub put_all-merged : (xs ys : List Item) → put_all xs ys ≡ merged item_key xs (put_all [] ys)
put_all-merged xs [] = sym (merged-nothing item_key xs)
put_all-merged xs (y ∷ ys) = ap (put item_key y) (put_all-merged xs ys) ∙ put-merged item_key y xs (put_all [] ys)

module _ {X Y : Type 0} (f : X → Y) (p : Y → Bool) where
  pub filter-seen : (xs : List X) → filter p (map f xs) ≡ map f (filter (λ x. p (f x)) xs)
  filter-seen [] = refl
  filter-seen (x ∷ xs) = by (p (f x)) (filter-seen xs)
    where
      by : (b : Bool) → filter p (map f xs) ≡ map f (filter (λ x. p (f x)) xs) → cond b (f x ∷ filter p (map f xs)) (filter p (map f xs)) ≡ map f (cond b (x ∷ filter (λ x. p (f x)) xs) (filter (λ x. p (f x)) xs))
      by true more = ap (λ (l : List Y). f x ∷ l) more
      by false more = more

abbrev gone : ℕ → Old → Bool
gone r o = nat_lt r o.by && nat_le o.item.rv r

superseded-seen : (places : Places) (r : ℕ) (ps : List Past) → put_all [] (since r (map (old_of places) ps)) ≡ map (item_of places) (superseded r ps)
superseded-seen places r [] = refl
superseded-seen places r (p ∷ ps) = by (stood r p) (superseded-seen places r ps)
  where
    by : (b : Bool) → put_all [] (since r (map (old_of places) ps)) ≡ map (item_of places) (superseded r ps)
        → put_all [] (map (λ o. o.item) (cond b (old_of places p ∷ filter (gone r) (map (old_of places) ps)) (filter (gone r) (map (old_of places) ps)))) ≡ map (item_of places) (if b then put row_key p.row (superseded r ps) else superseded r ps)
    by true more = ap (put item_key (item_of places p.row)) more ∙ sym (put-seen (item_of places) item_key p.row (superseded r ps))
    by false more = more

pub items_at-seen : (limits : Limits) (index : Rows) (window : Pasts) (places : Places) (last r : ℕ)
    → items_at r (store_view limits index window places last) ≡ map (item_of places) (merged row_key (standing r index.rows) (superseded r window.items))
items_at-seen limits index window places last r =
    let f = item_of places in
    put_all-merged (still r (map f index.rows)) (since r (map (old_of places) window.items))
    ∙ ap (λ (xs : List Item). merged item_key xs (put_all [] (since r (map (old_of places) window.items)))) (filter-seen f (λ x. nat_le x.rv r) index.rows)
    ∙ ap (merged item_key (map f (standing r index.rows))) (superseded-seen places r window.items)
    ∙ sym (merged-seen f item_key (standing r index.rows) (superseded r window.items))

-- ---- what holds of each

pub each-filter : {X : Type 0} (P : X → Type 0) (p : X → Bool) (xs : List X) → Each P xs → Each P (filter p xs)
each-filter P p [] h = tt
each-filter P p (x ∷ xs) h = by (p x) (each-filter P p xs h.1)
  where
    by : (b : Bool) → Each P (filter p xs) → Each P (cond b (x ∷ filter p xs) (filter p xs))
    by true more = (h.0, more)
    by false more = more

each-superseded : (P : Row → Type 0) (r : ℕ) (ps : List Past) → Each P (rows_of ps) → Each P (superseded r ps)
each-superseded P r [] h = tt
each-superseded P r (p ∷ ps) h = by (stood r p) (each-superseded P r ps h.1)
  where
    by : (b : Bool) → Each P (superseded r ps) → Each P (if b then put row_key p.row (superseded r ps) else superseded r ps)
    by true more = each-put row_key P p.row (superseded r ps) h.0 more
    by false more = more

pub each-at : (P : Row → Type 0) (r : ℕ) (rows : List Row) (ps : List Past) → Each P rows → Each P (rows_of ps) → Each P (merged row_key (standing r rows) (superseded r ps))
each-at P r rows ps h k = each-merged row_key P _ _ (each-filter P _ rows h) (each-superseded P r ps k)

-- ---- at the present

still-all : (r last : ℕ) (xs : List Item) → last ≤ r → Each (λ x. (1 ≤ x.rv) × (x.rv ≤ last)) xs → still r xs ≡ xs
still-all r last [] le h = refl
still-all r last (x ∷ xs) le h =
    let within = h.0.1 in
    let e : nat_le x.rv r ≡ true = let low : x.rv ≤ r = omega (arith, within, le) in grind (arith, nat_tests) in
    rw e (ap (λ (l : List Item). x ∷ l) (still-all r last xs le h.1))

since-none : (r last : ℕ) (os : List Old) → last ≤ r → Each (λ o. o.by ≤ last) os → since r os ≡ []
since-none r last [] le h = refl
since-none r last (o ∷ os) le h =
    let within = h.0 in
    let e : nat_lt r o.by ≡ false = let low : o.by ≤ r = omega (arith, within, le) in grind (arith, nat_tests) in
    rw e (since-none r last os le h.1)

pub present_seen : (limits : Limits) (index : Rows) (window : Pasts) (places : Places) (live last r : ℕ) → IsSoundStore limits index window places live last → last ≤ r
    → items_at r (store_view limits index window places last) ≡ map (item_of places) index.rows
present_seen limits index window places live last r sound le =
    let items = map (item_of places) index.rows in
    let olds = map (old_of places) window.items in
    ap (put_all (still r items)) (since-none r last olds le (each-seen (old_of places) (λ o. o.by ≤ last) window.items sound.past))
    ∙ still-all r last items le (each-seen (item_of places) (λ x. (1 ≤ x.rv) × (x.rv ≤ last)) index.rows sound.dated)

-- ---- what is picked

pub page_seen : (limits : Limits) (index : Rows) (window : Pasts) (places : Places) (last r : ℕ) (ns : Option (List ℕ)) (after : Option KeyView) (rows : List Row)
    → rows ≡ listed row_key ns after (merged row_key (standing r index.rows) (superseded r window.items))
    → map (item_of places) rows ≡ listed item_key ns after (items_at r (store_view limits index window places last))
page_seen limits index window places last r ns after rows e =
    let all = merged row_key (standing r index.rows) (superseded r window.items) in
    ap (map (item_of places)) e
    ∙ sym (filter-seen (item_of places) (λ x. in_namespace ns (item_key x) && not (passed (bound_after after) (item_key x))) all)
    ∙ ap (listed item_key ns after) (sym (items_at-seen limits index window places last r))

pub picks_kept : (places : Places) (index : Rows) (window : Pasts) (r : ℕ) (ns : Option (List ℕ)) (after : Option KeyView) (rows : List Row)
    → rows ≡ listed row_key ns after (merged row_key (standing r index.rows) (superseded r window.items))
    → AreKept places index.rows → AreKept places (rows_of window.items) → AreKept places rows
picks_kept places index window r ns after rows e h k =
    subst (AreKept places) (sym e) (each-filter (IsKept places) (λ x. in_namespace ns (row_key x) && not (passed (bound_after after) (row_key x))) _ (each-at (IsKept places) r index.rows window.items h k))
