use Rattle.std.proofs.Common.{Option, subst, ap, ◌∙◌}
use Rattle.kj_value.specs.Json.{items_of}
use Rattle.struct_schema.specs.Shape.{Shape, maybe_of}
use Rattle.struct_schema.specs.ShapeOf.{shape_of}
use Rattle.struct_schema.specs.Fault.{Fault, items_fault}
use Rattle.struct_schema.specs.Told.{StopsCheck}
use Rattle.struct_schema.proofs.Walk.{no_items_fault, stopped_items, stopped_fields}
use Rattle.struct_schema.proofs.checking.+first_fault.Goals as goal

pub fields_fault-returns-in-Err : goal.fields_fault-returns-in-Err
fields_fault-returns-in-Err t c =
    subst (λ (o : Option Fault). StopsCheck o c.under_name.result) c.loop-f.invariant (stopped_fields (shape_of c.args.s.now) (shape_of c.in-Some.node.now) c.as_slice-f-items.result.now c.loop-f.f-index c.f-item.result c.as_str.result.now c.as_str-in-Err.result.now c.in-Err.stop c.under_name.result c.loop-f-test.true c.f-item.is c.in-Some.ensures c.as_str.ensures c.as_str-in-Err.ensures c.in-Err.ensures c.under_name.ensures)

pub items_fault-returns-in-Err : goal.items_fault-returns-in-Err
items_fault-returns-in-Err t c =
    subst (λ (o : Option Fault). StopsCheck o c.under_item.result) c.loop-i.invariant (stopped_items (shape_of c.args.s.now) c.args.items.now c.loop-i.i c.index-items-i.result c.in-Err.stop c.under_item.result c.loop-i-test.true c.index-items-i.is c.in-Err.ensures c.under_item.ensures)

pub list_fault-returns-in-None : goal.list_fault-returns-in-None
list_fault-returns-in-None t c =
    ap (λ (m : Option Shape). items_fault (maybe_of m) 0 (items_of c.args.items.now)) c.in-None.is ∙ no_items_fault 0 (items_of c.args.items.now)
