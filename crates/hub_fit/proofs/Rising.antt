-- Names that rise differ.
use Rattle.std.proofs.Common.{◌≡◌, ℕ, List, [], ◌∷◌, ap, sym, refl, ◌∙◌}
use Rattle.std.specs.Ordering.{is_eq}
use Rattle.std.proofs.lemmas.Bool.{false≢true}
use Rattle.kj_value.specs.Fields.{AreInOrder}
use Rattle.struct_schema.specs.Shape.{Shape, shapes_of, MaybeShape, no_shape, some_shape}
use Rattle.struct_schema.specs.Names.{shape_named}
use Rattle.struct_schema.specs.laws.NameLaws.{own_name, below_shape}
use Rattle.hub_fit.specs.inner.Differ.{NamesDiffer}

pub differ : (es : List (List ℕ × Shape)) → AreInOrder es → NamesDiffer (shapes_of es)
differ [] h = tt
differ (e ∷ es) h = (by_shape (shape_named e.0 (shapes_of es)) refl, differ es h.1)
  where
    by_shape : (m : MaybeShape) → shape_named e.0 (shapes_of es) ≡ m → m ≡ no_shape
    by_shape no_shape q = refl
    by_shape (some_shape t) q = absurd (false≢true (sym (ap is_eq (below_shape e.0 es e.0 t h.0 h.1 q)) ∙ own_name e.0))
