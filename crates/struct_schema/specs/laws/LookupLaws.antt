-- The schema at a name, in a list of pairs and in what is written out of it, and how many items there are.
use Rattle.std.proofs.Common.{◌≡◌, ℕ, suc, List, [], ◌∷◌, length, Bool, true, false, cond, Some, refl, ap, sym}
use Rattle.kj_value.specs.Json.{Json, items_of}
use Rattle.kj_value.specs.Fields.{field}
use Rattle.struct_schema.specs.Shape.{Shape, shapes_of, maybe_of}
use Rattle.struct_schema.specs.Names.{is_name, shape_named}
use Rattle.struct_schema.specs.Keywords.{item_count}

pub shape_named-field : (k : List ℕ) (es : List (List ℕ × Shape)) → maybe_of (field k es) ≡ shape_named k (shapes_of es)
shape_named-field k [] = refl
shape_named-field k (e ∷ es) = by_test (is_name k e.0) (shape_named-field k es)
  where
    by_test : (b : Bool) → maybe_of (field k es) ≡ shape_named k (shapes_of es) → maybe_of (cond b (Some e.1) (field k es)) ≡ cond b (maybe_of (Some e.1)) (shape_named k (shapes_of es))
    by_test true h = refl
    by_test false h = h

pub item_count-items_of : (js : List Json) → item_count (items_of js) ≡ length js
item_count-items_of [] = refl
item_count-items_of (j ∷ js) = ap suc (item_count-items_of js)

-- two tests that hold together are one
pub one_test : (a b : Bool) → (a ≡ true → b ≡ true) → (b ≡ true → a ≡ true) → a ≡ b
one_test true true h k = refl
one_test true false h k = sym (h refl)
one_test false true h k = k refl
one_test false false h k = refl
