-- The walk refuses nothing exactly where every value stands at its place.
use Rattle.std.proofs.Common.{◌≡◌, ℕ, suc, List, [], true, false, ◌&&◌, cond, Option, None, Ordering, Less, Equal, Greater, nat_cmp, refl, ap, sym, subst, ◌∙◌}
use Rattle.std.specs.Prelude.{is_some}
use Rattle.std.specs.Cmp.Lexicographic.{slice_cmp}
use Rattle.std.proofs.lemmas.Bool.{false≢true}
use Rattle.kj_value.specs.Json.{Json, null, boolean, whole, text, list, object, Items, no_items, item, Members, no_members, member}
use Rattle.kj_value.specs.Sound.{IsSoundJson, AreSoundItems, AreRising}
use Rattle.struct_schema.specs.Names.{value_at}
use Rattle.struct_schema.specs.Fault.{or_else}
use Rattle.schema_reading.specs.Visits.{is_below}
use Rattle.crd_reading.specs.Words.{spelled}
use Rattle.crd_reading.specs.Table.{rows, has_names, has_items, place_in}
use Rattle.crd_reading.specs.Allowed.{is_allowed, blame}
use Rattle.crd_reading.specs.Refusal.{refused_here, under_name, under_item}
use Rattle.crd_reading.specs.Walk.{missing_between, missing_behind, absent, refusal, items_refusal, fields_refusal}
use Rattle.crd_reading.specs.Accepted.{has_rows, stands, all_stand, each_stands}
use Rattle.crd_reading.specs.declared.places.Place.{Place}
use Rattle.crd_reading.specs.declared.places.Place.TheVariants.{VersionObject}
use Rattle.crd_reading.specs.declared.places.Row.{Row}
use Rattle.crd_reading.proofs.Nones.{both, joined, neither, none_of, held, passed, none_under, under_none, none_in_item, item_none, none_absent, absent_none, guarded, unguarded}
use Rattle.crd_reading.proofs.Rows.{In, There, between, not_between, not_behind, none_between, none_behind, rows_there, there_rows, turned, below, further, empty_first, empty_below, before_all, behind_first}

-- ---- nothing is refused

-- a row behind a name is there
there : (p : Place) (r : Row) → In r (rows p) → r.required ≡ true → (a : List ℕ) (ms : Members) → is_below a (spelled r.named) ≡ true → fields_refusal p a ms ≡ None → There ms r
there p r i q a no_members ab h =
    let miss = not_behind a (rows p) r i (none_absent (missing_behind a (rows p)) h) in
    absurd (false≢true (sym miss ∙ joined r.required (is_below a (spelled r.named)) q ab))
there p r i q a (member k j ms) ab h =
    let parts = neither (absent (missing_between a k (rows p))) (or_else (under_name k (refusal (place_in p k) j)) (fields_refusal p k ms)) h in
    let miss = not_between a k (rows p) r i (none_absent (missing_between a k (rows p)) parts.0) in
    let rest = neither (under_name k (refusal (place_in p k) j)) (fields_refusal p k ms) parts.1 in
    by_order (slice_cmp nat_cmp (spelled r.named) k) refl miss (λ kn. there p r i q k ms kn rest.1)
  where
    by_order : (o : Ordering) → slice_cmp nat_cmp (spelled r.named) k ≡ o → between a k r ≡ false → (is_below k (spelled r.named) ≡ true → There ms r) → There (member k j ms) r
    by_order Less e miss later =
        let nk : is_below (spelled r.named) k ≡ true = rw e refl in
        absurd (false≢true (sym miss ∙ joined r.required (is_below a (spelled r.named) && is_below (spelled r.named) k) q (joined (is_below a (spelled r.named)) (is_below (spelled r.named) k) ab nk)))
    by_order Equal e miss later = rw e refl
    by_order Greater e miss later = rw e (later (turned (spelled r.named) k e))

mutual
  pub stands_value : (p : Place) (j : Json) → refusal p j ≡ None → stands p j ≡ true
  stands_value p null h = (held (is_allowed p null) (refused_here (blame p)) None h).0
  stands_value p (boolean b) h = (held (is_allowed p (boolean b)) (refused_here (blame p)) None h).0
  stands_value p (whole z) h = (held (is_allowed p (whole z)) (refused_here (blame p)) None h).0
  stands_value p (text t) h = (held (is_allowed p (text t)) (refused_here (blame p)) None h).0
  stands_value p (list js) h =
      let u = held (is_allowed p (list js)) (refused_here (blame p)) (cond (has_items p) (items_refusal VersionObject 0 js) None) h in
      joined (is_allowed p (list js)) (cond (has_items p) (all_stand js) true) u.0 (guarded (has_items p) (items_refusal VersionObject 0 js) (all_stand js) u.1 (λ k. stands_items 0 js k))
  stands_value p (object ms) h =
      let u = held (is_allowed p (object ms)) (refused_here (blame p)) (cond (has_names p) (fields_refusal p [] ms) None) h in
      joined (is_allowed p (object ms)) (cond (has_names p) (has_rows (rows p) ms && each_stands p ms) true) u.0 (guarded (has_names p) (fields_refusal p [] ms) (has_rows (rows p) ms && each_stands p ms) u.1 (λ k. joined (has_rows (rows p) ms) (each_stands p ms) (rows_there ms (rows p) (λ r i q. there p r i q [] ms (empty_below r.named) k)) (stands_fields p [] ms k)))

  stands_items : (i : ℕ) (js : Items) → items_refusal VersionObject i js ≡ None → all_stand js ≡ true
  stands_items i no_items h = refl
  stands_items i (item j js) h =
      let u = neither (under_item i (refusal VersionObject j)) (items_refusal VersionObject (suc i) js) h in
      joined (stands VersionObject j) (all_stand js) (stands_value VersionObject j (none_in_item i (refusal VersionObject j) u.0)) (stands_items (suc i) js u.1)

  stands_fields : (p : Place) (a : List ℕ) (ms : Members) → fields_refusal p a ms ≡ None → each_stands p ms ≡ true
  stands_fields p a no_members h = refl
  stands_fields p a (member k j ms) h =
      let u = neither (absent (missing_between a k (rows p))) (or_else (under_name k (refusal (place_in p k) j)) (fields_refusal p k ms)) h in
      let v = neither (under_name k (refusal (place_in p k) j)) (fields_refusal p k ms) u.1 in
      joined (stands (place_in p k) j) (each_stands p ms) (stands_value (place_in p k) j (none_under k (refusal (place_in p k) j) v.0)) (stands_fields p k ms v.1)

-- ---- every value stands at its place

-- the first name has only names behind it that are behind another name, too
abbrev Leads : List ℕ → Members → Type 0
Leads a no_members = Unit {0}
Leads a (member k j ms) = (n : List ℕ) → is_below k n ≡ true → is_below a n ≡ true

empty_leads : (ms : Members) → Leads [] ms
empty_leads no_members = tt
empty_leads (member k j ms) = λ n h. empty_first k n h

next_leads : (k : List ℕ) (j : Json) (ms : Members) → AreRising (member k j ms) → Leads k ms
next_leads k j no_members s = tt
next_leads k j (member l i ms) s = λ n h. further k l n s.0 h

abbrev Has : Place → List ℕ → Members → Type 0
Has p a ms = (r : Row) → In r (rows p) → r.required ≡ true → is_below a (spelled r.named) ≡ true → There ms r

nothing_there : (o : Option Json) → o ≡ None → is_some o ≡ true → ⊥
nothing_there o e h = false≢true (sym (ap is_some e) ∙ h)

mutual
  pub unrefused_value : (p : Place) (j : Json) → IsSoundJson j → stands p j ≡ true → refusal p j ≡ None
  unrefused_value p null s h = passed (is_allowed p null) (refused_here (blame p)) None h refl
  unrefused_value p (boolean b) s h = passed (is_allowed p (boolean b)) (refused_here (blame p)) None h refl
  unrefused_value p (whole z) s h = passed (is_allowed p (whole z)) (refused_here (blame p)) None h refl
  unrefused_value p (text t) s h = passed (is_allowed p (text t)) (refused_here (blame p)) None h refl
  unrefused_value p (list js) s h =
      let u = both (is_allowed p (list js)) (cond (has_items p) (all_stand js) true) h in
      passed (is_allowed p (list js)) (refused_here (blame p)) (cond (has_items p) (items_refusal VersionObject 0 js) None) u.0 (unguarded (has_items p) (items_refusal VersionObject 0 js) (all_stand js) u.1 (λ k. unrefused_items 0 js s k))
  unrefused_value p (object ms) s h =
      let u = both (is_allowed p (object ms)) (cond (has_names p) (has_rows (rows p) ms && each_stands p ms) true) h in
      passed (is_allowed p (object ms)) (refused_here (blame p)) (cond (has_names p) (fields_refusal p [] ms) None) u.0 (unguarded (has_names p) (fields_refusal p [] ms) (has_rows (rows p) ms && each_stands p ms) u.1 (λ k. unrefused_fields p [] ms s (empty_leads ms) (λ r i q b. there_rows ms (rows p) (both (has_rows (rows p) ms) (each_stands p ms) k).0 r i q) (both (has_rows (rows p) ms) (each_stands p ms) k).1))

  unrefused_items : (i : ℕ) (js : Items) → AreSoundItems js → all_stand js ≡ true → items_refusal VersionObject i js ≡ None
  unrefused_items i no_items s h = refl
  unrefused_items i (item j js) s h =
      let u = both (stands VersionObject j) (all_stand js) h in
      none_of (under_item i (refusal VersionObject j)) (items_refusal VersionObject (suc i) js) (item_none i (refusal VersionObject j) (unrefused_value VersionObject j s.0 u.0)) (unrefused_items (suc i) js s.1 u.1)

  unrefused_fields : (p : Place) (a : List ℕ) (ms : Members) → AreRising ms → Leads a ms → Has p a ms → each_stands p ms ≡ true → fields_refusal p a ms ≡ None
  unrefused_fields p a no_members s lead has h =
      absent_none (missing_behind a (rows p)) (none_behind a (rows p) (λ r i b. let q = both r.required (is_below a (spelled r.named)) b in false≢true (has r i q.0 q.1)))
  unrefused_fields p a (member k j ms) s lead has h =
      let u = both (stands (place_in p k) j) (each_stands p ms) h in
      let gap : missing_between a k (rows p) ≡ None = none_between a k (rows p) (λ r i b. let q = both r.required (is_below a (spelled r.named) && is_below (spelled r.named) k) b in let t = both (is_below a (spelled r.named)) (is_below (spelled r.named) k) q.1 in nothing_there (value_at (spelled r.named) (member k j ms)) (before_all (spelled r.named) k j ms (below (spelled r.named) k t.1) s) (has r i q.0 t.0)) in
      none_of (absent (missing_between a k (rows p))) (or_else (under_name k (refusal (place_in p k) j)) (fields_refusal p k ms)) (absent_none (missing_between a k (rows p)) gap)
      (none_of (under_name k (refusal (place_in p k) j)) (fields_refusal p k ms) (under_none k (refusal (place_in p k) j) (unrefused_value (place_in p k) j s.1 u.0))
      (unrefused_fields p k ms s.2 (next_leads k j ms s) (λ r i q b. subst (λ (o : Option Json). is_some o ≡ true) (behind_first (spelled r.named) k j ms b) (has r i q (lead (spelled r.named) b))) u.1))
