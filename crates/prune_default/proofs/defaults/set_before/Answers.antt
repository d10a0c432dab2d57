use Rattle.std.proofs.Common.{arith, List, map, length, ap, sym, ◌∙◌, add-one}
use Rattle.std.proofs.lemmas.List.{drop_all, take_rest}
use Rattle.kj_value.specs.Json.{members_of}
use Rattle.struct_schema.specs.Shape.{shapes_of}
use Rattle.struct_schema.specs.ShapeOf.{named_shape}
use Rattle.struct_schema.specs.Names.{value_at}
use Rattle.struct_schema.specs.declared.schema.SchemaField.{SchemaField}
use Rattle.prune_default.specs.inner.Missing.{first_default, or_value}
use Rattle.prune_default.proofs.Missing.{missing_turn}
use Rattle.prune_default.proofs.defaults.set_before.Goals as goal

pub loop-i-preserved : goal.loop-i-preserved
loop-i-preserved c = (
  λ n. rw (add-one c.loop-i.i) (missing_turn n c.args.properties.now c.loop-i.i c.index-properties-i-in-loop-i.result _ _ c.loop-i-test.true c.index-properties-i-in-loop-i.is (c.in_ok-set_missing.ensures.set n) ∙ c.loop-i.invariant.0 n),
  omega (arith, c.in_ok-set_missing.ensures.within, c.loop-i.invariant.1),
)

pub returns-then-ge-clause-set : goal.returns-then-ge-clause-set
returns-then-ge-clause-set c = λ n.
    ap (λ (ps : List SchemaField). or_value (value_at n (members_of c.loop-i.filled)) (first_default n (shapes_of (map named_shape ps)))) (take_rest c.args.properties.now c.loop-i.i) ∙ c.loop-i.invariant.0 n

pub returns-clause-set : goal.returns-clause-set
returns-clause-set c = λ n.
    let ps = c.args.properties.now in
    ap (λ (qs : List SchemaField). or_value (value_at n (members_of c.loop-i.filled)) (first_default n (shapes_of (map named_shape qs)))) (take_rest ps (length ps) ∙ drop_all (length ps) ps (omega arith) ∙ sym (drop_all c.loop-i.i ps c.loop-i-test.false)) ∙ c.loop-i.invariant.0 n

pub returns-then-ge-clause-within : goal.returns-then-ge-clause-within
returns-then-ge-clause-within c = c.loop-i.invariant.1

pub returns-clause-within : goal.returns-clause-within
returns-clause-within c = c.loop-i.invariant.1
