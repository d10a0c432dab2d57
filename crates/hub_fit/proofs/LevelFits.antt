-- The level that rules mean fits both schemas where nothing of it is refused.
use Rattle.std.proofs.Common.{◌≡◌, ◌<◌, ℕ, List, [], ◌∷◌, Bool, true, false, ◌&&◌, ◌||◌, not, cond, Option, Some, None, refl, ap, sym, subst, ◌∙◌, arith}
use Rattle.std.specs.Prelude.{is_none, is_some, filter, fold}
use Rattle.std.specs.Bool.{beq}
use Rattle.std.specs.Cmp.{booleans_Decides}
use Rattle.std.proofs.lemmas.Bool.{false≢true}
use Rattle.kj_value.specs.Json.{Json}
use Rattle.struct_schema.specs.Shape.{Shape, own, properties, additional, Shapes, no_shapes, shape_at, MaybeShapes, no_map, some_map, MaybeShape, no_shape, some_shape}
use Rattle.struct_schema.specs.ShapeSame.{shape_same}
use Rattle.struct_schema.specs.Names.{is_name, shape_named, property}
use Rattle.struct_schema.specs.Filled.{is_object}
use Rattle.struct_schema.specs.Fault.{lesser}
use Rattle.struct_schema.specs.declared.kind.NodeKind.{NodeKind}
use Rattle.struct_schema.specs.declared.kind.NodeKind.TheVariants.{Object, Array, Text, Whole, Truth, IntOrText, Any}
use Rattle.struct_schema.specs.laws.SameLaws.{shape_same-Decides}
use Rattle.struct_schema.specs.Below.{below}
use Rattle.struct_schema.specs.laws.NameLaws.{own_name}
use Rattle.kj_value.specs.Same.{json_same}
use Rattle.kj_value.specs.laws.SameLaws.{json_same-Decides}
use Rattle.hub_cells.specs.Side.{Side, spoke, hub}
use Rattle.hub_cells.specs.Cell as cells
use Rattle.hub_cells.specs.Cross.{partner}
use Rattle.hub_cells.specs.Level.{Name, Cell, CellFits, CellsFit, Inners, InnersFit, NoneTwice, AreDistinct}
use Rattle.hub_cells.specs.Fit.{shape_on, has_name, is_required, IsClosedObject, IsPlaceOf, ArePlacesOf, CellsStand, IsCovered, Stands, InnersStand, IsFitted}
use Rattle.hub_rules.specs.Rule.{Rule, same, within, spoke_only, hub_only, split, table, scale, Rules, no_rules, rule, names_on}
use Rattle.hub_rules.specs.Sound.{AreSoundRules}
use Rattle.hub_rules.specs.Refusal.{node, is_there, node_at, or_any, default_at, is_free, absent, is_closed, has_properties, is_whole, is_whole_node, alike_below, alike_required, lacks_default, defaults_pair, is_pair, is_null, plain_text, all_valid, valid_blank, once, scale_fits, level_spot}
use Rattle.hub_fit.specs.Chosen.{place_at, places_at, cell_at, with_cell, free_cells, free_in, cells_before, cells_of, with_inner, inners_of, level_of, fit_of}
use Rattle.hub_fit.proofs.CellFits.{and_left, and_right, and_both, same_fits, spoke_only_fits, hub_only_fits, split_cell, split_fits, table_fits}
use Rattle.hub_fit.specs.inner.InnerFits.{InnerFits, AllInnerFit}
use Rattle.hub_fit.proofs.ScaleFits.{IsNumbers, scale_fits_cell}
use Rattle.std.specs.Ordering.{nat_cmp, is_lt}
use Rattle.std.specs.Cmp.Lexicographic.{slice_cmp}
use Rattle.std.specs.Str.{bytes_eq}
use Rattle.std.proofs.lemmas.Slice.Eq.{bytes_eq-Decides}
use Rattle.hub_cells.specs.Level.{cells_names, level_names}
use Rattle.hub_fit.proofs.Names.{Apart}
use Rattle.hub_fit.proofs.LevelNames.{all_names, has_all, distinct_all, free_names, free_names_are, has_free, distinct_names}
use Rattle.hub_fit.specs.inner.Differ.{AllDiffer}
use Rattle.hub_fit.proofs.Holds.{RuleHolds, AllHold, NamesHold, Single, rules_hold, names_hold, passed, passed_on}

not_true : (b : Bool) → not b ≡ true → b ≡ false
not_true true h = absurd (false≢true h)
not_true false h = refl

same_bool : (a b : Bool) → beq a b ≡ true → a ≡ b
same_bool a b h = (booleans_Decides a b).0 h

same_shape : (s t : Shape) → shape_same s t ≡ true → s ≡ t
same_shape s t h = (shape_same-Decides s t).0 h

no_value : (o : Option Json) → is_none o ≡ true → o ≡ None
no_value None h = refl
no_value (Some j) h = absurd (false≢true h)

-- ---- a closed object

is_of_object : (d : NodeKind) → is_object d ≡ true → d ≡ Object
is_of_object Object h = refl
is_of_object Array h = absurd (false≢true h)
is_of_object Text h = absurd (false≢true h)
is_of_object Whole h = absurd (false≢true h)
is_of_object Truth h = absurd (false≢true h)
is_of_object IntOrText h = absurd (false≢true h)
is_of_object Any h = absurd (false≢true h)

no_choices : (o : Option (List Json)) → is_none o ≡ true → o ≡ None
no_choices None h = refl
no_choices (Some js) h = absurd (false≢true h)

nowhere : (m : MaybeShape) → not (is_there m) ≡ true → m ≡ no_shape
nowhere no_shape h = refl
nowhere (some_shape s) h = absurd (false≢true h)

pub closed : (s : Shape) → is_closed s ≡ true → IsClosedObject s
closed s h =
    let a = is_object (own s).kind in
    let b = has_properties (properties s) in
    let c = not (is_there (additional s)) in
    let d = not (own s).preserve in
    let e = not (own s).nullable in
    let f = is_none (own s).choices in
    let h5 = and_left (a && b && c && d && e) f h in
    let h4 = and_left (a && b && c && d) e h5 in
    let h3 = and_left (a && b && c) d h4 in
    let h2 = and_left (a && b) c h3 in
    record {
      kind = is_of_object (own s).kind (and_left a b h2);
      preserve = not_true (own s).preserve (and_right (a && b && c) d h4);
      nullable = not_true (own s).nullable (and_right (a && b && c && d) e h5);
      choices = no_choices (own s).choices (and_right (a && b && c && d && e) f h);
      additional = nowhere (additional s) (and_right (a && b) c h3);
    }

-- ---- places

found : (m : MaybeShape) → is_there m ≡ true → m ≡ some_shape (or_any m)
found no_shape h = absurd (false≢true h)
found (some_shape t) h = refl

is_node : (k : Name) (s : Shape) (t : Shape) → node k s ≡ some_shape t → node_at k s ≡ t
is_node k s t e = ap or_any e

place_is : (s : Shape) (k : Name) → is_there (node k s) ≡ true → IsPlaceOf s (place_at s k)
place_is s k h = record { shape = found (node k s) h; required = refl }

pub places_are : (s : Shape) (ns : List Name) → absent s ns ≡ None → ArePlacesOf s (places_at s ns)
places_are s [] e = tt
places_are s (n ∷ ns) e =
    (place_is s n (passed (is_there (node n s)) (absent s ns) n e), places_are s ns (passed_on (is_there (node n s)) (absent s ns) n e))

first_there : (s : Shape) (n : Name) (ns : List Name) → absent s (n ∷ ns) ≡ None → node n s ≡ some_shape (node_at n s)
first_there s n ns e = found (node n s) (passed (is_there (node n s)) (absent s ns) n e)

-- ---- each cell fits

new_value : (d : Side) (j : Json) (ps : List (Json × Json)) → is_none (partner d j ps) ≡ true → cells.IsNew d j ps
new_value d j [] h = tt
new_value spoke j (p ∷ ps) h = by_test (json_same p.0 j) refl h (new_value spoke j ps)
  where
    by_test : (b : Bool) → json_same p.0 j ≡ b → is_none (cond b (Some p.1) (partner spoke j ps)) ≡ true → (is_none (partner spoke j ps) ≡ true → cells.IsNew spoke j ps) → cells.IsNew spoke j (p ∷ ps)
    by_test true q g later = absurd (false≢true g)
    by_test false q g later = (λ e. false≢true (sym q ∙ (json_same-Decides p.0 j).1 e), later g)
new_value hub j (p ∷ ps) h = by_test (json_same p.1 j) refl h (new_value hub j ps)
  where
    by_test : (b : Bool) → json_same p.1 j ≡ b → is_none (cond b (Some p.0) (partner hub j ps)) ≡ true → (is_none (partner hub j ps) ≡ true → cells.IsNew hub j ps) → cells.IsNew hub j (p ∷ ps)
    by_test true q g later = absurd (false≢true g)
    by_test false q g later = (λ e. false≢true (sym q ∙ (json_same-Decides p.1 j).1 e), later g)

lists_once : (d : Side) (ps : List (Json × Json)) → once d ps ≡ true → cells.ListsOnce d ps
lists_once d [] h = tt
lists_once d (p ∷ ps) h =
    (new_value d (cells.value_on d p) ps (and_left (is_none (partner d (cells.value_on d p) ps)) (once d ps) h), lists_once d ps (and_right (is_none (partner d (cells.value_on d p) ps)) (once d ps) h))

-- a table that has a default on a side has blanks that aren't null
blanks_there : (R : Json → Json → Bool) (o p : Option Json) (a b : Bool) → defaults_pair R o p ≡ true → (is_none o || (a && b)) ≡ true → ((is_some o || false) || (is_some p || false)) ≡ true → (a ≡ true) × (b ≡ true)
blanks_there R None None a b h k g = absurd (false≢true g)
blanks_there R None (Some j) a b h k g = absurd (false≢true h)
blanks_there R (Some i) p a b h k g = (and_left a b k, and_right a b k)

-- and then on both
both_there : (R : Json → Json → Bool) (o p : Option Json) → defaults_pair R o p ≡ true → (is_some o || false) ≡ true → (is_some p || false) ≡ true
both_there R None p h g = absurd (false≢true g)
both_there R (Some i) None h g = absurd (false≢true h)
both_there R (Some i) (Some j) h g = refl

here_there : (k : Name) (t : Shape) (ss : Shapes) → is_there (shape_named k (shape_at k t ss)) ≡ true
here_there k t ss = ap (λ (b : Bool). is_there (cond b (some_shape t) (shape_named k ss))) (own_name k)

later_there : (l k : Name) (t : Shape) (ss : Shapes) → is_there (shape_named l ss) ≡ true → is_there (shape_named l (shape_at k t ss)) ≡ true
later_there l k t ss p = by_test (is_name l k)
  where
    by_test : (b : Bool) → is_there (cond b (some_shape t) (shape_named l ss)) ≡ true
    by_test true = refl
    by_test false = p

-- by equations, from the cells of one form
split_as : (n : ℕ) (a b c : Name) (t u v : Shape) (p q r : Bool) → t ≡ plain_text → u ≡ plain_text → v ≡ plain_text → p ≡ false → q ≡ false → r ≡ false → CellFits (record { spoke = record { name = a; shape = t; required = p } ∷ []; hub = record { name = b; shape = u; required = q } ∷ record { name = c; shape = v; required = r } ∷ []; kind = cells.split; depth = n })
split_as n a b c t u v p q r e f g i j k =
    let cell_is : split_cell n a b c ≡ record { spoke = record { name = a; shape = t; required = p } ∷ []; hub = record { name = b; shape = u; required = q } ∷ record { name = c; shape = v; required = r } ∷ []; kind = cells.split; depth = n } = cc (e, f, g, i, j, k) in
    subst CellFits cell_is (split_fits n a b c)

same_ok : (n : ℕ) (s h : Shape) (a b : Name) → (alike_below (node_at a s) (node_at b h) && alike_required a b s h) ≡ true → CellFits (cell_at n s h (a ∷ []) (b ∷ []) cells.same)
same_ok n s h a b e =
    same_fits n a b (node_at a s) (node_at b h) (is_required a s) (is_required b h) (same_shape (below (node_at a s)) (below (node_at b h)) (and_left (alike_below (node_at a s) (node_at b h)) (alike_required a b s h) e)) (same_bool (is_required a s) (is_required b h) (and_right (alike_below (node_at a s) (node_at b h)) (alike_required a b s h) e))

split_ok : (n : ℕ) (s h : Shape) (a b c : Name) → RuleHolds s h (split a b c) → CellFits (cell_at n s h (a ∷ []) (b ∷ c ∷ []) cells.split)
split_ok n s h a b c f =
    let x = shape_same (node_at a s) plain_text in
    let y = shape_same (node_at b h) plain_text in
    let z = shape_same (node_at c h) plain_text in
    let first : node_at a s ≡ plain_text = same_shape (node_at a s) plain_text (and_left x y (and_left (x && y) z f.range)) in
    let second : node_at b h ≡ plain_text = same_shape (node_at b h) plain_text (and_right x y (and_left (x && y) z f.range)) in
    let third : node_at c h ≡ plain_text = same_shape (node_at c h) plain_text (and_right (x && y) z f.range) in
    let p = not (is_required a s) in
    let q = not (is_required b h) in
    let r = not (is_required c h) in
    let first_free : is_required a s ≡ false = not_true (is_required a s) (and_left p q (and_left (p && q) r f.required)) in
    let second_free : is_required b h ≡ false = not_true (is_required b h) (and_right p q (and_left (p && q) r f.required)) in
    let third_free : is_required c h ≡ false = not_true (is_required c h) (and_right (p && q) r f.required) in
    split_as n a b c (node_at a s) (node_at b h) (node_at c h) (is_required a s) (is_required b h) (is_required c h) first second third first_free second_free third_free

table_ok : (n : ℕ) (s h : Shape) (a b : Name) (ps : List (Json × Json)) (x y : Json) → RuleHolds s h (table a b ps x y) → CellFits (cell_at n s h (a ∷ []) (b ∷ []) (cells.table ps x y))
table_ok n s h a b ps x y f =
    let v = all_valid (node_at a s) (node_at b h) ps in
    let bx = valid_blank (node_at a s) x in
    let by = valid_blank (node_at b h) y in
    let ox = once spoke ps in
    let oy = once hub ps in
    let h4 = and_left (v && bx && by && ox) oy f.range in
    let h3 = and_left (v && bx && by) ox h4 in
    let h2 = and_left (v && bx) by h3 in
    let alike = alike_required a b s h in
    let rx = not (is_required a s) || not (is_null x) in
    let ry = not (is_required b h) || not (is_null y) in
    let req = and_left (alike && rx) ry f.required in
    let dp = defaults_pair (is_pair ps) (default_at a s) (default_at b h) in
    let db = lacks_default a s || (not (is_null x) && not (is_null y)) in
    table_fits n (place_at s a) (place_at h b) ps x y (record {
      alike = same_bool (is_required a s) (is_required b h) (and_left alike rx req);
      scalars = f.sound;
      valid = and_left v bx h2;
      spoke_blank = and_right v bx h2;
      hub_blank = and_right (v && bx) by h3;
      once = (lists_once spoke ps (and_right (v && bx && by) ox h4), lists_once hub ps (and_right (v && bx && by && ox) oy f.range));
      spoke_required = and_right alike rx req;
      hub_required = and_right (alike && rx) ry f.required;
      both = both_there (is_pair ps) (default_at a s) (default_at b h) (and_left dp db f.default);
      blanks = blanks_there (is_pair ps) (default_at a s) (default_at b h) (not (is_null x)) (not (is_null y)) (and_left dp db f.default) (and_right dp db f.default);
    })

numbers : (t : Shape) → is_whole_node t ≡ true → is_none (own t).choices ≡ true → IsNumbers t
numbers t h c = record {
  kind = and_left (is_whole (own t).kind) (not (own t).nullable) h;
  nullable = not_true (own t).nullable (and_right (is_whole (own t).kind) (not (own t).nullable) h);
  choices = c;
}

scale_ok : (n : ℕ) (s h : Shape) (a b : Name) (k : ℕ) → RuleHolds s h (scale a b k) → CellFits (cell_at n s h (a ∷ []) (b ∷ []) (cells.scale k))
scale_ok n s h a b k f =
    let x = is_none (own (node_at a s)).choices in
    let y = is_none (own (node_at b h)).choices in
    let z = scale_fits k (own (node_at a s)) (own (node_at b h)) in
    let two = and_left (x && y) z f.range in
    let p = is_whole_node (node_at a s) in
    let q = is_whole_node (node_at b h) in
    let factor : 0 < k = omega (arith, f.sound.0) in
    scale_fits_cell n (place_at s a) (place_at h b) k (record {
      factor = factor;
      alike = same_bool (is_required a s) (is_required b h) f.required;
      spoke = numbers (node_at a s) (and_left p q f.schema) (and_left x y two);
      hub = numbers (node_at b h) (and_right p q f.schema) (and_right x y two);
      fits = and_right (x && y) z f.range;
    })

cell_ok : (n : ℕ) (s h : Shape) (r : Rule) (cs : List Cell) → RuleHolds s h r → CellsFit cs → CellsFit (with_cell n s h r cs)
cell_ok n s h (same a b) cs f rest = (same_ok n s h a b f.schema, rest)
cell_ok n s h (within a b ts) cs f rest = rest
cell_ok n s h (spoke_only a) cs f rest = (spoke_only_fits n a (node_at a s) (is_required a s) f.required f.default, rest)
cell_ok n s h (hub_only b) cs f rest = (hub_only_fits n b (node_at b h) (is_required b h) f.required f.default, rest)
cell_ok n s h (split a b c) cs f rest = (split_ok n s h a b c f, rest)
cell_ok n s h (table a b ps x y) cs f rest = (table_ok n s h a b ps x y f, rest)
cell_ok n s h (scale a b k) cs f rest = (scale_ok n s h a b k f, rest)

cells_ok : (n : ℕ) (s h : Shape) (rs : Rules) (cs : List Cell) → AllHold s h rs → CellsFit cs → CellsFit (cells_before n s h rs cs)
cells_ok n s h no_rules cs f rest = rest
cells_ok n s h (rule r rs) cs f rest = cell_ok n s h r (cells_before n s h rs cs) f.0 (cells_ok n s h rs cs f.1 rest)

-- of the names that no rule names, ss being what is left of the spoke's
free_ok : (n : ℕ) (s h : Shape) (ns : List Name) (ss : Shapes) → ((k : Name) → is_there (shape_named k ss) ≡ true → has_name k ns ≡ false → CellFits (cell_at n s h (k ∷ []) (k ∷ []) cells.same)) → CellsFit (free_cells n s h ns ss)
free_ok n s h ns no_shapes f = tt
free_ok n s h ns (shape_at k t ss) f =
    by_test (has_name k ns) refl (free_ok n s h ns ss (λ l p q. f l (later_there l k t ss p) q))
  where
    by_test : (b : Bool) → has_name k ns ≡ b → CellsFit (free_cells n s h ns ss) → CellsFit (cond b (free_cells n s h ns ss) (cell_at n s h (k ∷ []) (k ∷ []) cells.same ∷ free_cells n s h ns ss))
    by_test true e rest = rest
    by_test false e rest = (f k (here_there k t ss) e, rest)

free_in_ok : (n : ℕ) (s h : Shape) (ns : List Name) (m : MaybeShapes) → ((k : Name) → is_there (property k m) ≡ true → has_name k ns ≡ false → CellFits (cell_at n s h (k ∷ []) (k ∷ []) cells.same)) → CellsFit (free_in n s h ns m)
free_in_ok n s h ns no_map f = tt
free_in_ok n s h ns (some_map ss) f = free_ok n s h ns ss f

false_or : (a b : Bool) → (a || b) ≡ true → a ≡ false → b ≡ true
false_or true b h e = absurd (false≢true (sym e))
false_or false b h e = h

free_cell_ok : (n : ℕ) (s h : Shape) (rs : Rules) → NamesHold s h rs → (k : Name) → is_there (node k s) ≡ true → has_name k (names_on spoke rs) ≡ false → CellFits (cell_at n s h (k ∷ []) (k ∷ []) cells.same)
free_cell_ok n s h rs f k p e =
    same_ok n s h k k (false_or (has_name k (names_on spoke rs)) (alike_below (node_at k s) (node_at k h) && alike_required k k s h) (f.alike k (node_at k s) (found (node k s) p)) e)

pub level_cells_fit : (n : ℕ) (s h : Shape) (rs : Rules) → AllHold s h rs → NamesHold s h rs → CellsFit (cells_of n s h rs)
level_cells_fit n s h rs a f =
    cells_ok n s h rs (free_in n s h (names_on spoke rs) (properties s)) a (free_in_ok n s h (names_on spoke rs) (properties s) (free_cell_ok n s h rs f))

-- ---- what stands inside

inner_ok : (n : ℕ) (s h : Shape) (r : Rule) (is : Inners) → InnerFits n s h r → InnersFit is → InnersFit (with_inner n s h r is)
inner_ok n s h (same a b) is f rest = rest
inner_ok n s h (within a b ts) is f rest = (f.fits, rest)
inner_ok n s h (spoke_only a) is f rest = rest
inner_ok n s h (hub_only b) is f rest = rest
inner_ok n s h (split a b c) is f rest = rest
inner_ok n s h (table a b ps x y) is f rest = rest
inner_ok n s h (scale a b k) is f rest = rest

inners_ok : (n : ℕ) (s h : Shape) (rs : Rules) → AllInnerFit n s h rs → InnersFit (inners_of n s h rs)
inners_ok n s h no_rules f = tt
inners_ok n s h (rule r rs) f = inner_ok n s h r (inners_of n s h rs) f.0 (inners_ok n s h rs f.1)

inner_once : (d : Side) (n : ℕ) (s h : Shape) (r : Rule) (is : Inners) → InnerFits n s h r → NoneTwice d is → NoneTwice d (with_inner n s h r is)
inner_once d n s h (same a b) is f rest = rest
inner_once d n s h (within a b ts) is f rest = (f.no_name_twice d, rest)
inner_once d n s h (spoke_only a) is f rest = rest
inner_once d n s h (hub_only b) is f rest = rest
inner_once d n s h (split a b c) is f rest = rest
inner_once d n s h (table a b ps x y) is f rest = rest
inner_once d n s h (scale a b k) is f rest = rest

inners_once : (d : Side) (n : ℕ) (s h : Shape) (rs : Rules) → AllInnerFit n s h rs → NoneTwice d (inners_of n s h rs)
inners_once d n s h no_rules f = tt
inners_once d n s h (rule r rs) f = inner_once d n s h r (inners_of n s h rs) f.0 (inners_once d n s h rs f.1)

-- ---- cells and objects stand for the schemas

abbrev on_side : Side → Shape → Shape → Shape
on_side spoke s h = s
on_side hub s h = h

cell_stands : (d : Side) (n : ℕ) (s h : Shape) (r : Rule) (cs : List Cell) → RuleHolds s h r → CellsStand d n (on_side d s h) cs → CellsStand d n (on_side d s h) (with_cell n s h r cs)
cell_stands spoke n s h (same a b) cs f rest = (refl, places_are s (a ∷ []) f.spoke_there, rest)
cell_stands hub n s h (same a b) cs f rest = (refl, places_are h (b ∷ []) f.hub_there, rest)
cell_stands d n s h (within a b ts) cs f rest = rest
cell_stands spoke n s h (spoke_only a) cs f rest = (refl, places_are s (a ∷ []) f.spoke_there, rest)
cell_stands hub n s h (spoke_only a) cs f rest = (refl, tt, rest)
cell_stands spoke n s h (hub_only b) cs f rest = (refl, tt, rest)
cell_stands hub n s h (hub_only b) cs f rest = (refl, places_are h (b ∷ []) f.hub_there, rest)
cell_stands spoke n s h (split a b c) cs f rest = (refl, places_are s (a ∷ []) f.spoke_there, rest)
cell_stands hub n s h (split a b c) cs f rest = (refl, places_are h (b ∷ c ∷ []) f.hub_there, rest)
cell_stands spoke n s h (table a b ps x y) cs f rest = (refl, places_are s (a ∷ []) f.spoke_there, rest)
cell_stands hub n s h (table a b ps x y) cs f rest = (refl, places_are h (b ∷ []) f.hub_there, rest)
cell_stands spoke n s h (scale a b k) cs f rest = (refl, places_are s (a ∷ []) f.spoke_there, rest)
cell_stands hub n s h (scale a b k) cs f rest = (refl, places_are h (b ∷ []) f.hub_there, rest)

cells_stand : (d : Side) (n : ℕ) (s h : Shape) (rs : Rules) (cs : List Cell) → AllHold s h rs → CellsStand d n (on_side d s h) cs → CellsStand d n (on_side d s h) (cells_before n s h rs cs)
cells_stand d n s h no_rules cs f rest = rest
cells_stand d n s h (rule r rs) cs f rest =
    cell_stands d n s h r (cells_before n s h rs cs) f.0 (cells_stand d n s h rs cs f.1 rest)

free_stand : (d : Side) (n : ℕ) (s h : Shape) (ns : List Name) (ss : Shapes) → ((k : Name) → is_there (shape_named k ss) ≡ true → has_name k ns ≡ false → (is_there (node k s) ≡ true) × (is_there (node k h) ≡ true)) → CellsStand d n (on_side d s h) (free_cells n s h ns ss)
free_stand d n s h ns no_shapes f = tt
free_stand d n s h ns (shape_at k t ss) f =
    by_test d (has_name k ns) refl (free_stand d n s h ns ss (λ l p q. f l (later_there l k t ss p) q))
  where
    by_test : (d : Side) (b : Bool) → has_name k ns ≡ b → CellsStand d n (on_side d s h) (free_cells n s h ns ss) → CellsStand d n (on_side d s h) (cond b (free_cells n s h ns ss) (cell_at n s h (k ∷ []) (k ∷ []) cells.same ∷ free_cells n s h ns ss))
    by_test d true e rest = rest
    by_test spoke false e rest = (refl, (place_is s k (f k (here_there k t ss) e).0, tt), rest)
    by_test hub false e rest = (refl, (place_is h k (f k (here_there k t ss) e).1, tt), rest)

free_in_stand : (d : Side) (n : ℕ) (s h : Shape) (ns : List Name) (m : MaybeShapes) → ((k : Name) → is_there (property k m) ≡ true → has_name k ns ≡ false → (is_there (node k s) ≡ true) × (is_there (node k h) ≡ true)) → CellsStand d n (on_side d s h) (free_in n s h ns m)
free_in_stand d n s h ns no_map f = tt
free_in_stand d n s h ns (some_map ss) f = free_stand d n s h ns ss f

-- a free name of the spoke's is one of the hub's
free_both : (s h : Shape) (rs : Rules) → NamesHold s h rs → (k : Name) → is_there (node k s) ≡ true → has_name k (names_on spoke rs) ≡ false → is_free hub h rs k ≡ true
free_both s h rs f k p e =
    false_or (has_name k (names_on spoke rs)) (is_free hub h rs k) (f.spoke_paired k (node_at k s) (found (node k s) p)) e

inner_stands : (d : Side) (n : ℕ) (s h : Shape) (r : Rule) (is : Inners) → RuleHolds s h r → InnerFits n s h r → InnersStand d n (on_side d s h) is → InnersStand d n (on_side d s h) (with_inner n s h r is)
inner_stands d n s h (same a b) is f g rest = rest
inner_stands spoke n s h (within a b ts) is f g rest =
    ((node_at a s, first_there s a [] f.spoke_there, no_value (default_at a s) (and_left (lacks_default a s) (lacks_default b h) f.default), refl, g.stands spoke), rest)
inner_stands hub n s h (within a b ts) is f g rest =
    ((node_at b h, first_there h b [] f.hub_there, no_value (default_at b h) (and_right (lacks_default a s) (lacks_default b h) f.default), same_bool (is_required a s) (is_required b h) (and_right (is_closed (node_at a s) && is_closed (node_at b h)) (alike_required a b s h) f.schema), g.stands hub), rest)
inner_stands d n s h (spoke_only a) is f g rest = rest
inner_stands d n s h (hub_only b) is f g rest = rest
inner_stands d n s h (split a b c) is f g rest = rest
inner_stands d n s h (table a b ps x y) is f g rest = rest
inner_stands d n s h (scale a b k) is f g rest = rest

inners_stand : (d : Side) (n : ℕ) (s h : Shape) (rs : Rules) → AllHold s h rs → AllInnerFit n s h rs → InnersStand d n (on_side d s h) (inners_of n s h rs)
inners_stand d n s h no_rules f g = tt
inners_stand d n s h (rule r rs) f g = inner_stands d n s h r (inners_of n s h rs) f.0 g.0 (inners_stand d n s h rs f.1 g.1)

-- ---- every name is one of the level's

or_by : (a b : Bool) → (a ≡ false → b ≡ true) → (a || b) ≡ true
or_by true b f = refl
or_by false b f = f refl

none_lesser : (acc : Option Name) (n : Name) → is_none (lesser acc n) ≡ false
none_lesser None n = refl
none_lesser (Some m) n = by_test (is_lt (slice_cmp nat_cmp n m))
  where
    by_test : (b : Bool) → is_none (cond b (Some n) (Some m)) ≡ false
    by_test true = refl
    by_test false = refl

-- no name is lost: each one that is required is there
never_none : (P : Name → Bool) (acc : Option Name) (ns : List Name) → is_none acc ≡ false → fold lesser acc (filter P ns) ≡ None → ⊥
never_none P None [] h e = false≢true (sym h)
never_none P (Some m) [] h e = absurd (cc)
never_none P acc (n ∷ ns) h e = by_test (P n) e (never_none P acc ns h) (never_none P (lesser acc n) ns (none_lesser acc n))
  where
    by_test : (b : Bool) → fold lesser acc (cond b (n ∷ filter P ns) (filter P ns)) ≡ None → (fold lesser acc (filter P ns) ≡ None → ⊥) → (fold lesser (lesser acc n) (filter P ns) ≡ None → ⊥) → ⊥
    by_test true q f g = g q
    by_test false q f g = f q

kept_there : (s : Shape) (ns : List Name) → fold lesser None (filter (λ k. not (is_there (node k s))) ns) ≡ None → (k : Name) → has_name k ns ≡ true → is_there (node k s) ≡ true
kept_there s [] e k h = absurd (false≢true h)
kept_there s (n ∷ ns) e k h = by_test (is_there (node n s)) refl e (λ q g. kept_there s ns q k g)
  where
    by_name : (b : Bool) → bytes_eq k n ≡ b → (b || has_name k ns) ≡ true → is_there (node n s) ≡ true → (has_name k ns ≡ true → is_there (node k s) ≡ true) → is_there (node k s) ≡ true
    by_name true q g f later = subst (λ (z : Name). is_there (node z s) ≡ true) (sym ((bytes_eq-Decides k n).0 q)) f
    by_name false q g f later = later g

    by_test : (b : Bool) → is_there (node n s) ≡ b → fold lesser None (cond (not b) (n ∷ filter (λ k. not (is_there (node k s))) ns) (filter (λ k. not (is_there (node k s))) ns)) ≡ None → (fold lesser None (filter (λ k. not (is_there (node k s))) ns) ≡ None → has_name k ns ≡ true → is_there (node k s) ≡ true) → is_there (node k s) ≡ true
    by_test true q g later = by_name (bytes_eq k n) refl h q (later g)
    by_test false q g later = absurd (never_none (λ k. not (is_there (node k s))) (Some n) ns refl g)

there_of : (k : Name) (s t : Shape) → node k s ≡ some_shape t → is_there (node k s) ≡ true
there_of k s t e = ap is_there e

-- a name of the side's schema is in the level's
in_level : (d : Side) (n : ℕ) (s h : Shape) (rs : Rules) (k : Name) → (has_name k (names_on d rs) ≡ false → (is_there (node k s) && not (has_name k (names_on spoke rs))) ≡ true) → has_name k (level_names d (level_of n s h rs)) ≡ true
in_level d n s h rs k f =
    has_all d n s h rs (free_in n s h (names_on spoke rs) (properties s)) k
    ∙ ap (λ (ns : List Name). has_name k (names_on d rs) || has_name k ns) (free_names_are d n s h (names_on spoke rs) (properties s))
    ∙ ap (λ (b : Bool). has_name k (names_on d rs) || b) (has_free k (names_on spoke rs) (properties s))
    ∙ or_by (has_name k (names_on d rs)) (is_there (node k s) && not (has_name k (names_on spoke rs))) f

not_false : (b : Bool) → b ≡ false → not b ≡ true
not_false b e = ap not e

spoke_name : (s h : Shape) (rs : Rules) (k : Name) → is_there (node k s) ≡ true → has_name k (names_on spoke rs) ≡ false → (is_there (node k s) && not (has_name k (names_on spoke rs))) ≡ true
spoke_name s h rs k p e = and_both (is_there (node k s)) (not (has_name k (names_on spoke rs))) p (not_false (has_name k (names_on spoke rs)) e)

hub_name : (s h : Shape) (rs : Rules) → NamesHold s h rs → (k : Name) → is_there (node k h) ≡ true → has_name k (names_on hub rs) ≡ false → (is_there (node k s) && not (has_name k (names_on spoke rs))) ≡ true
hub_name s h rs f k p e =
    false_or (has_name k (names_on hub rs)) (is_free spoke s rs k) (f.hub_paired k (node_at k h) (found (node k h) p)) e

covered : (d : Side) (n : ℕ) (s h : Shape) (rs : Rules) → NamesHold s h rs → IsCovered d (on_side d s h) (level_of n s h rs)
covered spoke n s h rs f = record {
  properties = λ k t e. in_level spoke n s h rs k (spoke_name s h rs k (there_of k s t e));
  required = λ k e. in_level spoke n s h rs k (spoke_name s h rs k (kept_there s (own s).required f.spoke_lost k e));
}
covered hub n s h rs f = record {
  properties = λ k t e. in_level hub n s h rs k (hub_name s h rs f k (there_of k h t e));
  required = λ k e. in_level hub n s h rs k (hub_name s h rs f k (kept_there h (own h).required f.hub_lost k e));
}

-- ---- all of it

free_there : (s h : Shape) (rs : Rules) → NamesHold s h rs → (k : Name) → is_there (node k s) ≡ true → has_name k (names_on spoke rs) ≡ false → (is_there (node k s) ≡ true) × (is_there (node k h) ≡ true)
free_there s h rs f k p e =
    (p, and_left (is_there (node k h)) (not (has_name k (names_on hub rs))) (free_both s h rs f k p e))

stands : (d : Side) (n : ℕ) (s h : Shape) (rs : Rules) → is_closed s ≡ true → is_closed h ≡ true → AllHold s h rs → NamesHold s h rs → AllInnerFit n s h rs → Stands d n (on_side d s h) (level_of n s h rs)
stands spoke n s h rs p q a f g =
    (closed s p, covered spoke n s h rs f, cells_stand spoke n s h rs (free_in n s h (names_on spoke rs) (properties s)) a (free_in_stand spoke n s h (names_on spoke rs) (properties s) (free_there s h rs f)), inners_stand spoke n s h rs a g)
stands hub n s h rs p q a f g =
    (closed h q, covered hub n s h rs f, cells_stand hub n s h rs (free_in n s h (names_on spoke rs) (properties s)) a (free_in_stand hub n s h (names_on spoke rs) (properties s) (free_there s h rs f)), inners_stand hub n s h rs a g)

stands_on : (d : Side) (n : ℕ) (s h : Shape) (rs : Rules) → is_closed s ≡ true → is_closed h ≡ true → AllHold s h rs → NamesHold s h rs → AllInnerFit n s h rs → Stands d n (shape_on d (fit_of n s h rs)) (level_of n s h rs)
stands_on spoke n s h rs p q a f g = stands spoke n s h rs p q a f g
stands_on hub n s h rs p q a f g = stands hub n s h rs p q a f g

-- free names aren't a rule's, on either side
apart_free : (d : Side) (s h : Shape) (rs : Rules) → NamesHold s h rs → Apart (names_on d rs) (free_names (names_on spoke rs) (properties s))
apart_free d s h rs f k e = has_free k (names_on spoke rs) (properties s) ∙ by_side d e (is_there (node k s)) refl (has_name k (names_on spoke rs)) refl
  where
    by_side : (d : Side) → has_name k (names_on d rs) ≡ true → (b : Bool) → is_there (node k s) ≡ b → (c : Bool) → has_name k (names_on spoke rs) ≡ c → (b && not c) ≡ false
    by_side d g false p c q = refl
    by_side d g true p true q = refl
    by_side spoke g true p false q = absurd (false≢true (sym q ∙ g))
    by_side hub g true p false q =
        absurd (false≢true (sym (not_true (has_name k (names_on hub rs)) (and_right (is_there (node k h)) (not (has_name k (names_on hub rs))) (free_both s h rs f k p q))) ∙ g))

single_on : (d : Side) (s h : Shape) (rs : Rules) → NamesHold s h rs → Single d rs
single_on spoke s h rs f = f.single.0
single_on hub s h rs f = f.single.1

once_each : (d : Side) (n : ℕ) (s h : Shape) (rs : Rules) → AllDiffer (properties s) → NamesHold s h rs → AreDistinct (all_names d n s h rs (free_in n s h (names_on spoke rs) (properties s)))
once_each d n s h rs v f =
    let cs = free_in n s h (names_on spoke rs) (properties s) in
    let are : cells_names d cs [] ≡ free_names (names_on spoke rs) (properties s) = free_names_are d n s h (names_on spoke rs) (properties s) in
    distinct_all d n s h rs cs (single_on d s h rs f) (subst AreDistinct (sym are) (distinct_names (names_on spoke rs) (properties s) v)) (subst (Apart (names_on d rs)) (sym are) (apart_free d s h rs f))

pub level_fits : (n : ℕ) (s h : Shape) (rs : Rules) → AllDiffer (properties s) → AreSoundRules rs → is_closed s ≡ true → is_closed h ≡ true → level_spot s h rs ≡ None → AllInnerFit n s h rs → IsFitted (fit_of n s h rs)
level_fits n s h rs v sound p q e g =
    let a = rules_hold s h rs sound e in
    let f = names_hold s h rs e in
    record {
      fits = (level_cells_fit n s h rs a f, inners_ok n s h rs g);
      no_name_twice = λ d. (once_each d n s h rs v f, inners_once d n s h rs g);
      stands = λ d. stands_on d n s h rs p q a f g;
    }
