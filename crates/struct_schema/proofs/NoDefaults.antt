-- Where no schema of a map has a default, no name needs one.
use Rattle.std.proofs.Common.{◌≡◌, ℕ, List, [], ◌∷◌, ◌++◌, map, Bool, true, false, ◌&&◌, Option, Some, None, refl, subst, ap, sym, ◌∙◌}
use Rattle.std.proofs.lemmas.List.{map-append}
use Rattle.std.specs.Prelude.{is_some, is_none, ◌||◌}
use Rattle.kj_value.specs.Fields.{AreInOrder}
use Rattle.kj_value.specs.Json.{Json, Members}
use Rattle.struct_schema.specs.Shape.{Shape, own, shapes_of}
use Rattle.struct_schema.specs.Names.{value_at}
use Rattle.struct_schema.specs.Stays.{each_default}
use Rattle.struct_schema.specs.ShapeOf.{own_of, named_shape}
use Rattle.struct_schema.specs.Defaults.{have_default}
use Rattle.struct_schema.specs.declared.schema.SchemaField.{SchemaField}

without : (a b : Bool) (o : Option Json) → (is_some o || b) ≡ false → (b ≡ false → a ≡ true) → (c : Bool) → ((c || is_none o) && a) ≡ true
without a b None h k true = k h
without a b None h k false = k h
without a b (Some j) h k c = absurd (cc)

pub none_needed : (es : List (List ℕ × Shape)) (ms : Members) → have_default es ≡ false → each_default (shapes_of es) ms ≡ true
none_needed [] ms h = refl
none_needed (e ∷ es) ms h =
    without (each_default (shapes_of es) ms) (have_default es) (own e.1).default_value h (λ k. none_needed es ms k) (is_some (value_at e.0 ms))

or_false : (b : Bool) → (b || false) ≡ b
or_false true = refl
or_false false = refl

grouped : (a b c : Bool) → (a || (b || c)) ≡ (a || b || c)
grouped true b c = refl
grouped false b c = refl

-- one more schema at the end
pub default_push : (fs : List SchemaField) (f : SchemaField) → have_default (map named_shape (fs ++ f ∷ [])) ≡ (have_default (map named_shape fs) || is_some (own_of f.schema).default_value)
default_push [] f = or_false (is_some (own_of f.schema).default_value)
default_push (g ∷ fs) f =
    ap (λ (b : Bool). is_some (own_of g.schema).default_value || b) (default_push fs f) ∙ grouped (is_some (own_of g.schema).default_value) (have_default (map named_shape fs)) (is_some (own_of f.schema).default_value)

pub order_push : (fs : List SchemaField) (f : SchemaField) (es : List (List ℕ × Shape)) → map named_shape fs ≡ es → AreInOrder (es ++ named_shape f ∷ []) → AreInOrder (map named_shape (fs ++ f ∷ []))
order_push fs f es seen h =
    subst (λ (ds : List (List ℕ × Shape)). AreInOrder ds) (ap (λ (ds : List (List ℕ × Shape)). ds ++ named_shape f ∷ []) (sym seen) ∙ sym (map-append named_shape fs (f ∷ []))) h
