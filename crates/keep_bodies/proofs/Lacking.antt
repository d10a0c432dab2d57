-- What is lacking and what is put where no value is left, and where nothing is filled.
use Rattle.std.proofs.Common.{◌≡◌, ℕ, ◌≤◌, List, [], ◌∷◌, map, drop, length, Bool, true, false, ◌||◌, Option, Some, None, option_map, Result, Ok, Err, IfOk, refl, ap, ap₂, sym, ◌∙◌}
use Rattle.std.proofs.lemmas.List.{drop_all}
use Rattle.kj_value.specs.Json.{Json, object, members_of}
use Rattle.kj_value.specs.Seen.{json}
use Rattle.kj_value.specs.declared.value.JVal.{JVal}
use Rattle.kj_value.specs.declared.value.JVal.TheVariants.{Obj}
use Rattle.kj_value.specs.Fields.{Pairs, field, with_field}
use Rattle.kj_value.specs.KindLaws.{pairs_members}
use Rattle.hub_cells.specs.Level as levels
use Rattle.hub_cells.specs.Level.{Name, Level, level, Inners, no_inner, inner}
use Rattle.hub_cells.specs.Seen.{cell}
use Rattle.hub_cells.specs.SeenFit.{inners_of}
use Rattle.hub_cells.specs.declared.cell.Cell.{Cell}
use Rattle.hub_cells.specs.declared.fitted.Inner.{Inner}
use Rattle.hub_fills.specs.Fills.{Fills, fills, Within, nothing_within, within}
use Rattle.hub_fills.specs.Depth.{has_value, has_fill, has_within}
use Rattle.hub_fills.specs.SeenFills.{within_of}
use Rattle.hub_fills.specs.declared.fills.Deeper.{Deeper}
use Rattle.keep_laws.specs.Body.{as_object, object_in}
use Rattle.keep_bodies.specs.inner.Filling.{fill_cells, put_object, fill_inners, is_absent, cells_lack, object_lacks, lacks, inners_lack}
use Rattle.keep_laws.proofs.Tests.{lies}

abbrev pub seen_values : List (Option JVal) → List (Option Json)
seen_values vs = map (option_map json) vs

-- ---- no value, or no object, more

no_cells_lack : (cs : List levels.Cell) (x : Pairs) → cells_lack cs [] x ≡ false
no_cells_lack [] x = refl
no_cells_lack (c ∷ cs) x = refl

no_inners_lack : (is : Inners) (x : Pairs) → inners_lack is nothing_within x ≡ false
no_inners_lack no_inner x = refl
no_inners_lack (inner a b r l is) x = refl

no_cells_fill : (cs : List levels.Cell) (x : Pairs) → fill_cells cs [] x ≡ x
no_cells_fill [] x = refl
no_cells_fill (c ∷ cs) x = refl

no_inners_fill : (is : Inners) (x : Pairs) → fill_inners is nothing_within x ≡ x
no_inners_fill no_inner x = refl
no_inners_fill (inner a b r l is) x = refl

pub cells_lack_all : (cs : List Cell) (vs : List (Option JVal)) (i : ℕ) (x : Pairs) → length vs ≤ i → cells_lack (map cell (drop i cs)) (seen_values (drop i vs)) x ≡ false
cells_lack_all cs vs i x p =
    ap (λ (us : List (Option JVal)). cells_lack (map cell (drop i cs)) (seen_values us) x) (drop_all i vs p) ∙ no_cells_lack (map cell (drop i cs)) x

pub inners_lack_all : (is : List Inner) (ds : List Deeper) (i : ℕ) (x : Pairs) → length ds ≤ i → inners_lack (inners_of (drop i is)) (within_of (drop i ds)) x ≡ false
inners_lack_all is ds i x p =
    ap (λ (us : List Deeper). inners_lack (inners_of (drop i is)) (within_of us) x) (drop_all i ds p) ∙ no_inners_lack (inners_of (drop i is)) x

pub cells_fill_all : (cs : List Cell) (vs : List (Option JVal)) (i : ℕ) (x : Pairs) → length vs ≤ i → fill_cells (map cell (drop i cs)) (seen_values (drop i vs)) x ≡ x
cells_fill_all cs vs i x p =
    ap (λ (us : List (Option JVal)). fill_cells (map cell (drop i cs)) (seen_values us) x) (drop_all i vs p) ∙ no_cells_fill (map cell (drop i cs)) x

pub inners_fill_all : (is : List Inner) (ds : List Deeper) (i : ℕ) (x : Pairs) → length ds ≤ i → fill_inners (inners_of (drop i is)) (within_of (drop i ds)) x ≡ x
inners_fill_all is ds i x p =
    ap (λ (us : List Deeper). fill_inners (inners_of (drop i is)) (within_of us) x) (drop_all i ds p) ∙ no_inners_fill (inners_of (drop i is)) x

-- ---- where nothing is filled nothing is lacking

neither : (a b : Bool) → (a || b) ≡ false → (a ≡ false) × (b ≡ false)
neither true b h = absurd (lies (sym h))
neither false b h = (refl, h)

none_absent : (qs : List levels.Place) (x : Pairs) → is_absent qs None x ≡ false
none_absent [] x = refl
none_absent (q ∷ []) x = refl
none_absent (q ∷ r ∷ qs) x = refl

no_value_lacks : (cs : List levels.Cell) (vs : List (Option Json)) (x : Pairs) → has_value vs ≡ false → cells_lack cs vs x ≡ false
no_value_lacks [] vs x h = refl
no_value_lacks (c ∷ cs) [] x h = refl
no_value_lacks (c ∷ cs) (None ∷ vs) x h = ap₂ (λ (a b : Bool). a || b) (none_absent c.hub x) (no_value_lacks cs vs x h)
no_value_lacks (c ∷ cs) (Some j ∷ vs) x h = absurd (lies (sym h))

no_object_lacks : (p : Pairs → Bool) → ((y : Pairs) → p y ≡ false) → (o : Option Pairs) → object_lacks p o ≡ false
no_object_lacks p h None = refl
no_object_lacks p h (Some y) = h y

mutual
  pub no_fill_lacks : (l : Level) (f : Fills) (x : Pairs) → has_fill f ≡ false → lacks l f x ≡ false
  no_fill_lacks (level cs is) (fills vs fs) x h =
      let q = neither (has_value vs) (has_within fs) h in
      ap₂ (λ (a b : Bool). a || b) (no_value_lacks cs vs x q.0) (no_within_lacks is fs x q.1)

  no_within_lacks : (is : Inners) (fs : Within) (x : Pairs) → has_within fs ≡ false → inners_lack is fs x ≡ false
  no_within_lacks no_inner fs x h = refl
  no_within_lacks (inner a b r l is) nothing_within x h = refl
  no_within_lacks (inner a b r l is) (within f fs) x h =
      let q = neither (has_fill f) (has_within fs) h in
      ap₂ (λ (s t : Bool). s || t) (no_object_lacks (lacks l f) (λ y. no_fill_lacks l f y q.0) (object_in (field b x))) (no_within_lacks is fs x q.1)

-- ---- the object that was read is put

seen_object : (v : JVal) (y : Pairs) → v ≡ Obj y → as_object (json v) ≡ Some y
seen_object v y e = ap (λ (u : JVal). as_object (json u)) e ∙ ap (λ (p : Pairs). Some p) (pairs_members y)

pub put_is : (n k : Name) (g : Pairs → Pairs) (v : JVal) (y full old new : Pairs) → v ≡ Obj y → k ≡ n → full ≡ g y → new ≡ with_field k (object (members_of full)) old → new ≡ put_object n g (as_object (json v)) old
put_is n k g v y full old new e q made h =
    h ∙ ap₂ (λ (m : Name) (p : Pairs). with_field m (object (members_of p)) old) q made ∙ ap (λ (o : Option Pairs). put_object n g o old) (sym (seen_object v y e))

pub same_ok : {E : Type 0} (r : Result Pairs E) (a b : Pairs) → a ≡ b → IfOk r (λ x. x ≡ a) → IfOk r (λ x. x ≡ b)
same_ok (Ok x) a b e h = h ∙ e
same_ok (Err x) a b e h = h
