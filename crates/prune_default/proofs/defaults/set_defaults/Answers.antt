use Rattle.std.proofs.Common.{ap, sym, ◌∙◌}
use Rattle.std.proofs.lemmas.Result.{IfOk-weaker}
use Rattle.kj_value.specs.Json.{members_of}
use Rattle.struct_schema.specs.Names.{value_at}
use Rattle.prune_default.specs.inner.Missing.{or_value}
use Rattle.prune_default.proofs.Missing.{property_default, map_default, none_missing}
use Rattle.prune_default.proofs.defaults.set_defaults.Goals as goal

pub returns-then-needs_none-clause-set : goal.returns-then-needs_none-clause-set
returns-then-needs_none-clause-set c = λ n.
    none_missing n c.in-Some.properties (members_of c.args.fields) (sym c.if-needs_none.ensures.none)
    ∙ ap (or_value (value_at n (members_of c.args.fields))) (map_default n c.in-Some.properties _ c.if-needs_none.ensures.order c.in-Some.is)

pub returns-else-needs_none-clause-set : goal.returns-else-needs_none-clause-set
returns-else-needs_none-clause-set c =
    let s = c.as_slice in
    IfOk-weaker c.merge.result _ _ (λ ns h n. h n ∙ ap (or_value (value_at n (members_of c.args.fields))) (property_default n s.result.now c.in-Some.properties _ s.ensures.value s.ensures.order c.in-Some.is)) c.merge.ensures.set
