use Rattle.std.proofs.Common.{◌≡◌, Some, map, sym, ap, ◌∙◌, arith}
use Rattle.kj_value.specs.Fields.{field}
use Rattle.kj_value.specs.laws.Place.{place_hit, place_miss}
use Rattle.struct_schema.specs.ShapeOf.{shape_of, named_shape}
use Rattle.struct_schema.specs.declared.schema.SchemaField.{SchemaField}
use Rattle.struct_schema.proofs.Found.{hit, miss, order_names}
use Rattle.struct_schema.proofs.schema.SchemaMap.get.Goals as goal

pub find-requires : goal.find-requires
find-requires c = rw c.as_slice.ensures.value (order_names named_shape _ c.self.invariant.0)

pub index-requires : goal.index-requires
index-requires c =
    let h = hit named_shape _ _ _ _ c.as_slice.ensures.value (place_hit _ _ c.in-Some.ensures) in
    omega (arith, h.within, c.self.inside.fields.ok.0)

pub returns-in-Some : goal.returns-in-Some
returns-in-Some c =
    let h = hit named_shape _ _ _ _ c.as_slice.ensures.value (place_hit _ _ c.in-Some.ensures) in
    let e : field c.args.name.now (map named_shape c.self.inside.fields.items) ≡ Some (shape_of c.index.result.now.schema) =
    h.value c.index.result.now ∙ ap (λ (f : SchemaField). Some (shape_of f.schema)) (sym c.index.ensures) in
    sym e ∙ ap (field c.args.name.now) c.self.view_is

pub returns-in-None : goal.returns-in-None
returns-in-None c =
    let h = miss named_shape _ _ _ _ c.as_slice.ensures.value (place_miss _ c.in-None.ensures).1 in
    sym (h.value (order_names named_shape _ c.self.invariant.0)) ∙ ap (field c.args.name.now) c.self.view_is
