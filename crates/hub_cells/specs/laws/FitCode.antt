-- How the logic stores a fitted level: as a tree of numbers, one for each.
use Rattle.std.specs.Prelude.{◌≡◌, ℕ, List, [], Bool, cond, ◌==◌, refl}
use Rattle.std.proofs.Common.{ap}
use Rattle.std.specs.Coded.{Coded, code_by, coded_ℕ, coded_bool, coded_list, coded×}
use base.Stored.{Gv, gnil, gcons}
use Rattle.kj_value.specs.Json.{Json, null}
use Rattle.kj_value.specs.laws.JsonCode.{json_code}
use Rattle.struct_schema.specs.Shape.{Shape}
use Rattle.struct_schema.specs.laws.ShapeCode.{shape_code}
use Rattle.hub_cells.specs.Cell.{Kind, same, spoke_only, hub_only, split, table, scale}
use Rattle.hub_cells.specs.Level.{Name, Place, Cell, Level, level, Inners, no_inner, inner}
use Rattle.hub_cells.specs.Fit.{Fit}

-- ---- a kind by its number and what it holds

abbrev Numbered : Type 0
Numbered = ℕ × (List (Json × Json) × (Json × (Json × ℕ)))

abbrev to_number : Kind → Numbered
to_number same = (0, ([], (null, (null, 0))))
to_number spoke_only = (1, ([], (null, (null, 0))))
to_number hub_only = (2, ([], (null, (null, 0))))
to_number split = (3, ([], (null, (null, 0))))
to_number (table ps x y) = (4, (ps, (x, (y, 0))))
to_number (scale k) = (5, ([], (null, (null, k))))

abbrev of_number : Numbered → Kind
of_number t =
    cond (t.0 == 0) same (cond (t.0 == 1) spoke_only (cond (t.0 == 2) hub_only (cond (t.0 == 3) split (cond (t.0 == 4) (table t.1.0 t.1.1.0 t.1.1.1.0) (scale t.1.1.1.1)))))

pub of_number-to_number : (k : Kind) → of_number (to_number k) ≡ k
of_number-to_number same = refl
of_number-to_number spoke_only = refl
of_number-to_number hub_only = refl
of_number-to_number split = refl
of_number-to_number (table ps x y) = refl
of_number-to_number (scale k) = refl

abbrev pub kind_code : Coded Kind
kind_code =
    code_by Numbered (coded× coded_ℕ (coded× (coded_list (coded× json_code json_code)) (coded× json_code (coded× json_code coded_ℕ)))) to_number of_number of_number-to_number

-- ---- a cell

abbrev pub name_code : Coded Name
name_code = coded_list coded_ℕ

abbrev pub place_code : Coded Place
place_code =
    code_by (Name × (Shape × Bool)) (coded× name_code (coded× shape_code coded_bool)) (λ p. (p.name, (p.shape, p.required))) (λ t. record { name = t.0; shape = t.1.0; required = t.1.1 }) (λ _. refl)

abbrev pub cell_code : Coded Cell
cell_code =
    code_by (List Place × (List Place × (Kind × ℕ))) (coded× (coded_list place_code) (coded× (coded_list place_code) (coded× kind_code coded_ℕ))) (λ c. (c.spoke, (c.hub, (c.kind, c.depth)))) (λ t. record { spoke = t.0; hub = t.1.0; kind = t.1.1.0; depth = t.1.1.1 }) (λ _. refl)

abbrev cells_code : Coded (List Cell)
cells_code = coded_list cell_code

abbrev Head : Type 0
Head = Name × (Name × Bool)

abbrev head_code : Coded Head
head_code = coded× name_code (coded× name_code coded_bool)

-- ---- a level

abbrev mutual
  pub level_tree : Level → Gv
  level_tree (level cs is) = gcons (cells_code.code cs) (inners_tree is)

  pub inners_tree : Inners → Gv
  inners_tree no_inner = gnil
  inners_tree (inner a b r l is) = gcons (head_code.code (a, (b, r))) (gcons (level_tree l) (inners_tree is))

left : (a b c d : Gv) → gcons a b ≡ gcons c d → a ≡ c
left a b c d e = cc

right : (a b c d : Gv) → gcons a b ≡ gcons c d → b ≡ d
right a b c d e = cc

mutual
  pub level_inj : (l m : Level) → level_tree l ≡ level_tree m → l ≡ m
  level_inj (level cs is) (level ds js) e =
      let cells_are : cs ≡ ds = cells_code.inj cs ds (left (cells_code.code cs) (inners_tree is) (cells_code.code ds) (inners_tree js) e) in
      let inners_are : is ≡ js = inners_inj is js (right (cells_code.code cs) (inners_tree is) (cells_code.code ds) (inners_tree js) e) in
      cc (cells_are, inners_are)

  pub inners_inj : (is js : Inners) → inners_tree is ≡ inners_tree js → is ≡ js
  inners_inj no_inner no_inner e = refl
  inners_inj no_inner (inner a b r l js) e = absurd (cc)
  inners_inj (inner a b r l is) no_inner e = absurd (cc)
  inners_inj (inner a b r l is) (inner c d s m js) e =
      let head = head_code.code (a, (b, r)) in
      let head2 = head_code.code (c, (d, s)) in
      let e1 = right head (gcons (level_tree l) (inners_tree is)) head2 (gcons (level_tree m) (inners_tree js)) e in
      let heads_are = head_code.inj (a, (b, r)) (c, (d, s)) (left head (gcons (level_tree l) (inners_tree is)) head2 (gcons (level_tree m) (inners_tree js)) e) in
      let level_is : l ≡ m = level_inj l m (left (level_tree l) (inners_tree is) (level_tree m) (inners_tree js) e1) in
      let rest_is : is ≡ js = inners_inj is js (right (level_tree l) (inners_tree is) (level_tree m) (inners_tree js) e1) in
      let a_is : a ≡ c = ap (λ (h : Head). h.0) heads_are in
      let b_is : b ≡ d = ap (λ (h : Head). h.1.0) heads_are in
      let r_is : r ≡ s = ap (λ (h : Head). h.1.1) heads_are in
      cc (a_is, b_is, r_is, level_is, rest_is)

abbrev pub level_code : Coded Level
level_code = record { code = level_tree; inj = level_inj }

abbrev pub fit_code : Coded Fit
fit_code =
    code_by (Shape × (Shape × (ℕ × Level))) (coded× shape_code (coded× shape_code (coded× coded_ℕ level_code))) (λ f. (f.spoke, (f.hub, (f.depth, f.level)))) (λ t. record { spoke = t.0; hub = t.1.0; depth = t.1.1.0; level = t.1.1.1 }) (λ _. refl)
