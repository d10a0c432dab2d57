use Rattle.std.proofs.Common.{List, map, ap, sym, ◌∙◌, add-one, arith}
use Rattle.std.proofs.lemmas.List.{drop_all}
use Rattle.kj_value.specs.Json.{members_of}
use Rattle.struct_schema.specs.Shape.{shapes_of}
use Rattle.struct_schema.specs.ShapeOf.{named_shape}
use Rattle.struct_schema.specs.Names.{value_at}
use Rattle.struct_schema.specs.declared.schema.SchemaField.{SchemaField}
use Rattle.prune_default.specs.inner.Missing.{first_default, or_value}
use Rattle.prune_default.proofs.Missing.{or_none, missing_turn}
use Rattle.prune_default.proofs.defaults.set_all.Goals as goal

pub loop-p-preserved : goal.loop-p-preserved
loop-p-preserved c = (
  λ n. rw (add-one c.loop-p.p-index) (missing_turn n c.args.properties.now c.loop-p.p-index c.p-item.result _ _ c.loop-p-test.true c.p-item.is (c.in_ok-set_missing.ensures.set n) ∙ c.loop-p.invariant.0 n),
  omega (arith, c.in_ok-set_missing.ensures.within, c.loop-p.invariant.1),
)

pub returns-clause-set : goal.returns-clause-set
returns-clause-set c = λ n.
    sym (or_none _) ∙ ap (λ (ps : List SchemaField). or_value (value_at n (members_of c.loop-p.filled)) (first_default n (shapes_of (map named_shape ps)))) (sym (drop_all c.loop-p.p-index c.args.properties.now c.loop-p-test.false)) ∙ c.loop-p.invariant.0 n
