-- The names of the level that rules mean: those of the rules, and those that no rule names, each once.
use Rattle.std.proofs.Common.{◌≡◌, ℕ, List, [], ◌∷◌, ◌++◌, Bool, true, false, ◌&&◌, ◌||◌, not, cond, refl, ap, sym, subst, ◌∙◌, append_assoc}
use Rattle.std.specs.Str.{bytes_eq}
use Rattle.std.proofs.lemmas.Slice.Eq.{bytes_eq-Decides}
use Rattle.std.proofs.lemmas.Map.Text.{is_eq-slice_cmp}
use Rattle.struct_schema.specs.Shape.{Shape, Shapes, no_shapes, shape_at, MaybeShapes, no_map, some_map, MaybeShape, some_shape}
use Rattle.struct_schema.specs.Names.{is_name, shape_named, property}
use Rattle.hub_cells.specs.Side.{Side, spoke, hub}
use Rattle.hub_cells.specs.Cell as cells
use Rattle.hub_cells.specs.Level.{Name, Cell, Inners, names, named, cells_names, inner_names, AreDistinct}
use Rattle.hub_cells.specs.Fit.{has_name}
use Rattle.hub_rules.specs.Rule.{Rule, same, within, spoke_only, hub_only, split, table, scale, Rules, no_rules, rule, rule_names, names_on}
use Rattle.hub_rules.specs.Refusal.{is_there}
use Rattle.hub_fit.specs.inner.Differ.{NamesDiffer, AllDiffer}
use Rattle.hub_fit.specs.Chosen.{cell_at, with_cell, free_cells, free_in, cells_before, with_inner, inners_of}
use Rattle.hub_fit.proofs.Names.{Apart, has_append, has_middle, or_assoc, or_none, or_second, fresh, distinct_append, distinct_middle}
use Rattle.hub_fit.proofs.Holds.{Single}

-- ---- a rule's names stand in its cell, or as its inner object's

abbrev cell_part : Side → Rule → List Name
cell_part d (same a b) = rule_names d (same a b)
cell_part d (within a b ts) = []
cell_part d (spoke_only a) = rule_names d (spoke_only a)
cell_part d (hub_only b) = rule_names d (hub_only b)
cell_part d (split a b c) = rule_names d (split a b c)
cell_part d (table a b ps x y) = rule_names d (table a b ps x y)
cell_part d (scale a b k) = rule_names d (scale a b k)

abbrev inner_part : Side → Rule → List Name
inner_part d (same a b) = []
inner_part d (within a b ts) = named d a b ∷ []
inner_part d (spoke_only a) = []
inner_part d (hub_only b) = []
inner_part d (split a b c) = []
inner_part d (table a b ps x y) = []
inner_part d (scale a b k) = []

-- one of the two is empty
data Part (d : Side) (r : Rule) : Type 0 where
  in_cell : cell_part d r ≡ rule_names d r → inner_part d r ≡ [] → Part d r
  in_inner : cell_part d r ≡ [] → inner_part d r ≡ rule_names d r → Part d r

part : (d : Side) (r : Rule) → Part d r
part d (same a b) = in_cell refl refl
part spoke (within a b ts) = in_inner refl refl
part hub (within a b ts) = in_inner refl refl
part d (spoke_only a) = in_cell refl refl
part d (hub_only b) = in_cell refl refl
part d (split a b c) = in_cell refl refl
part d (table a b ps x y) = in_cell refl refl
part d (scale a b k) = in_cell refl refl

cells_with : (d : Side) (n : ℕ) (s h : Shape) (r : Rule) (cs : List Cell) (ns : List Name) → cells_names d (with_cell n s h r cs) ns ≡ cell_part d r ++ cells_names d cs ns
cells_with spoke n s h (same a b) cs ns = refl
cells_with hub n s h (same a b) cs ns = refl
cells_with d n s h (within a b ts) cs ns = refl
cells_with spoke n s h (spoke_only a) cs ns = refl
cells_with hub n s h (spoke_only a) cs ns = refl
cells_with spoke n s h (hub_only b) cs ns = refl
cells_with hub n s h (hub_only b) cs ns = refl
cells_with spoke n s h (split a b c) cs ns = refl
cells_with hub n s h (split a b c) cs ns = refl
cells_with spoke n s h (table a b ps x y) cs ns = refl
cells_with hub n s h (table a b ps x y) cs ns = refl
cells_with spoke n s h (scale a b k) cs ns = refl
cells_with hub n s h (scale a b k) cs ns = refl

inners_with : (d : Side) (n : ℕ) (s h : Shape) (r : Rule) (is : Inners) → inner_names d (with_inner n s h r is) ≡ inner_part d r ++ inner_names d is
inners_with d n s h (same a b) is = refl
inners_with d n s h (within a b ts) is = refl
inners_with d n s h (spoke_only a) is = refl
inners_with d n s h (hub_only b) is = refl
inners_with d n s h (split a b c) is = refl
inners_with d n s h (table a b ps x y) is = refl
inners_with d n s h (scale a b k) is = refl

cells_apart : (d : Side) (cs : List Cell) (ns : List Name) → cells_names d cs ns ≡ cells_names d cs [] ++ ns
cells_apart d [] ns = refl
cells_apart d (c ∷ cs) ns =
    ap (λ (ms : List Name). names d c ++ ms) (cells_apart d cs ns) ∙ sym (append_assoc (names d c) (cells_names d cs []) ns)

-- all names of the level on the side, cs being the cells after those of the rules
abbrev pub all_names : Side → ℕ → Shape → Shape → Rules → List Cell → List Name
all_names d n s h rs cs = cells_names d (cells_before n s h rs cs) (inner_names d (inners_of n s h rs))

-- with one rule more: its names go to the front, or between the cells' and the objects'
front : (d : Side) (n : ℕ) (s h : Shape) (r : Rule) (rs : Rules) (cs : List Cell) → cell_part d r ≡ rule_names d r → inner_part d r ≡ [] → all_names d n s h (rule r rs) cs ≡ rule_names d r ++ all_names d n s h rs cs
front d n s h r rs cs e f =
    cells_with d n s h r (cells_before n s h rs cs) (inner_names d (with_inner n s h r (inners_of n s h rs)))
    ∙ ap (λ (xs : List Name). xs ++ cells_names d (cells_before n s h rs cs) (inner_names d (with_inner n s h r (inners_of n s h rs)))) e
    ∙ ap (λ (ns : List Name). rule_names d r ++ cells_names d (cells_before n s h rs cs) ns) (inners_with d n s h r (inners_of n s h rs) ∙ ap (λ (xs : List Name). xs ++ inner_names d (inners_of n s h rs)) f)

middle : (d : Side) (n : ℕ) (s h : Shape) (r : Rule) (rs : Rules) (cs : List Cell) → cell_part d r ≡ [] → inner_part d r ≡ rule_names d r → all_names d n s h (rule r rs) cs ≡ cells_names d (cells_before n s h rs cs) [] ++ (rule_names d r ++ inner_names d (inners_of n s h rs))
middle d n s h r rs cs e f =
    cells_with d n s h r (cells_before n s h rs cs) (inner_names d (with_inner n s h r (inners_of n s h rs)))
    ∙ ap (λ (xs : List Name). xs ++ cells_names d (cells_before n s h rs cs) (inner_names d (with_inner n s h r (inners_of n s h rs)))) e
    ∙ cells_apart d (cells_before n s h rs cs) (inner_names d (with_inner n s h r (inners_of n s h rs)))
    ∙ ap (λ (ns : List Name). cells_names d (cells_before n s h rs cs) [] ++ ns) (inners_with d n s h r (inners_of n s h rs) ∙ ap (λ (xs : List Name). xs ++ inner_names d (inners_of n s h rs)) f)

pub has_all : (d : Side) (n : ℕ) (s h : Shape) (rs : Rules) (cs : List Cell) (k : Name) → has_name k (all_names d n s h rs cs) ≡ (has_name k (names_on d rs) || has_name k (cells_names d cs []))
has_all d n s h no_rules cs k = refl
has_all d n s h (rule r rs) cs k = by_part (part d r) (has_all d n s h rs cs k)
  where
    step : has_name k (all_names d n s h rs cs) ≡ (has_name k (names_on d rs) || has_name k (cells_names d cs [])) → (has_name k (rule_names d r) || has_name k (all_names d n s h rs cs)) ≡ (has_name k (names_on d (rule r rs)) || has_name k (cells_names d cs []))
    step e =
        ap (λ (b : Bool). has_name k (rule_names d r) || b) e ∙ or_assoc (has_name k (rule_names d r)) (has_name k (names_on d rs)) (has_name k (cells_names d cs []))
        ∙ ap (λ (b : Bool). b || has_name k (cells_names d cs [])) (sym (has_append k (rule_names d r) (names_on d rs)))

    by_part : Part d r → has_name k (all_names d n s h rs cs) ≡ (has_name k (names_on d rs) || has_name k (cells_names d cs [])) → has_name k (all_names d n s h (rule r rs) cs) ≡ (has_name k (names_on d (rule r rs)) || has_name k (cells_names d cs []))
    by_part (in_cell e f) q =
        ap (has_name k) (front d n s h r rs cs e f) ∙ has_append k (rule_names d r) (all_names d n s h rs cs) ∙ step q
    by_part (in_inner e f) q =
        ap (has_name k) (middle d n s h r rs cs e f) ∙ has_middle k (cells_names d (cells_before n s h rs cs) []) (rule_names d r) (inner_names d (inners_of n s h rs))
        ∙ ap (λ (ns : List Name). has_name k (rule_names d r) || has_name k ns) (sym (cells_apart d (cells_before n s h rs cs) (inner_names d (inners_of n s h rs)))) ∙ step q

pub distinct_all : (d : Side) (n : ℕ) (s h : Shape) (rs : Rules) (cs : List Cell) → Single d rs → AreDistinct (cells_names d cs []) → Apart (names_on d rs) (cells_names d cs []) → AreDistinct (all_names d n s h rs cs)
distinct_all d n s h no_rules cs p q a = q
distinct_all d n s h (rule r rs) cs p q a = by_part (part d r) (distinct_all d n s h rs cs p.2 q (λ k e. a k (has_append k (rule_names d r) (names_on d rs) ∙ or_second (has_name k (rule_names d r)) (has_name k (names_on d rs)) e)))
  where
    clear : Apart (rule_names d r) (all_names d n s h rs cs)
    clear k e =
        has_all d n s h rs cs k ∙ or_none (has_name k (names_on d rs)) (has_name k (cells_names d cs [])) (p.1 k e) (a k (has_append k (rule_names d r) (names_on d rs) ∙ ap (λ (b : Bool). b || has_name k (names_on d rs)) e))

    by_part : Part d r → AreDistinct (all_names d n s h rs cs) → AreDistinct (all_names d n s h (rule r rs) cs)
    by_part (in_cell e f) t =
        subst AreDistinct (sym (front d n s h r rs cs e f)) (distinct_append (rule_names d r) (all_names d n s h rs cs) p.0 t clear)
    by_part (in_inner e f) t =
        let own = cells_names d (cells_before n s h rs cs) [] in
        let others = inner_names d (inners_of n s h rs) in
        let split_up : all_names d n s h rs cs ≡ own ++ others = cells_apart d (cells_before n s h rs cs) others in
        subst AreDistinct (sym (middle d n s h r rs cs e f)) (distinct_middle own (rule_names d r) others (subst AreDistinct split_up t) p.0 (subst (Apart (rule_names d r)) split_up clear))

-- ---- the names that no rule names

abbrev pub free_list : List Name → Shapes → List Name
free_list ns no_shapes = []
free_list ns (shape_at k t ss) = cond (has_name k ns) (free_list ns ss) (k ∷ free_list ns ss)

abbrev pub free_names : List Name → MaybeShapes → List Name
free_names ns no_map = []
free_names ns (some_map ss) = free_list ns ss

free_is : (d : Side) (n : ℕ) (s h : Shape) (ns : List Name) (ss : Shapes) → cells_names d (free_cells n s h ns ss) [] ≡ free_list ns ss
free_is d n s h ns no_shapes = refl
free_is d n s h ns (shape_at k t ss) = by_test d (has_name k ns) (free_is d n s h ns ss)
  where
    by_test : (d : Side) (b : Bool) → cells_names d (free_cells n s h ns ss) [] ≡ free_list ns ss → cells_names d (cond b (free_cells n s h ns ss) (cell_at n s h (k ∷ []) (k ∷ []) cells.same ∷ free_cells n s h ns ss)) [] ≡ cond b (free_list ns ss) (k ∷ free_list ns ss)
    by_test d true e = e
    by_test spoke false e = ap (λ (ms : List Name). k ∷ ms) e
    by_test hub false e = ap (λ (ms : List Name). k ∷ ms) e

pub free_names_are : (d : Side) (n : ℕ) (s h : Shape) (ns : List Name) (m : MaybeShapes) → cells_names d (free_in n s h ns m) [] ≡ free_names ns m
free_names_are d n s h ns no_map = refl
free_names_are d n s h ns (some_map ss) = free_is d n s h ns ss

false_and : (b : Bool) → (b && false) ≡ false
false_and true = refl
false_and false = refl

has_free_list : (k : Name) (ns : List Name) (ss : Shapes) → has_name k (free_list ns ss) ≡ (is_there (shape_named k ss) && not (has_name k ns))
has_free_list k ns no_shapes = refl
has_free_list k ns (shape_at l t ss) = by_name (is_name k l) (is_eq-slice_cmp k l) (has_free_list k ns ss)
  where
    by_name : (b : Bool) → b ≡ bytes_eq k l → has_name k (free_list ns ss) ≡ (is_there (shape_named k ss) && not (has_name k ns)) → has_name k (cond (has_name l ns) (free_list ns ss) (l ∷ free_list ns ss)) ≡ (is_there (cond b (some_shape t) (shape_named k ss)) && not (has_name k ns))
    by_name true e q = here (has_name l ns) refl
      where
        same : k ≡ l
        same = (bytes_eq-Decides k l).0 (sym e)

        here : (c : Bool) → has_name l ns ≡ c → has_name k (cond c (free_list ns ss) (l ∷ free_list ns ss)) ≡ not (has_name k ns)
        here true f =
            let g : has_name k ns ≡ true = subst (λ (z : Name). has_name z ns ≡ true) (sym same) f in
            q ∙ ap (λ (b : Bool). is_there (shape_named k ss) && not b) g ∙ false_and (is_there (shape_named k ss)) ∙ ap not (sym g)
        here false f =
            let g : has_name k ns ≡ false = subst (λ (z : Name). has_name z ns ≡ false) (sym same) f in
            ap (λ (b : Bool). b || has_name k (free_list ns ss)) (sym e) ∙ ap not (sym g)
    by_name false e q = there (has_name l ns)
      where
        there : (c : Bool) → has_name k (cond c (free_list ns ss) (l ∷ free_list ns ss)) ≡ (is_there (shape_named k ss) && not (has_name k ns))
        there true = q
        there false = ap (λ (b : Bool). b || has_name k (free_list ns ss)) (sym e) ∙ q

pub has_free : (k : Name) (ns : List Name) (m : MaybeShapes) → has_name k (free_names ns m) ≡ (is_there (property k m) && not (has_name k ns))
has_free k ns no_map = refl
has_free k ns (some_map ss) = has_free_list k ns ss

distinct_free : (ns : List Name) (ss : Shapes) → NamesDiffer ss → AreDistinct (free_list ns ss)
distinct_free ns no_shapes p = tt
distinct_free ns (shape_at k t ss) p = by_test (has_name k ns) (distinct_free ns ss p.1)
  where
    by_test : (b : Bool) → AreDistinct (free_list ns ss) → AreDistinct (cond b (free_list ns ss) (k ∷ free_list ns ss))
    by_test true q = q
    by_test false q =
        (fresh k (free_list ns ss) (has_free_list k ns ss ∙ ap (λ (m : MaybeShape). is_there m && not (has_name k ns)) p.0), q)

pub distinct_names : (ns : List Name) (m : MaybeShapes) → AllDiffer m → AreDistinct (free_names ns m)
distinct_names ns no_map p = tt
distinct_names ns (some_map ss) p = distinct_free ns ss p
