use Rattle.std.proofs.Common.{◌∙◌, [], map, codes, sym, refl, inr}
use Rattle.http_routes.specs.Queries.{common_rules, limit_rule, limit_rules}
use Rattle.http_routes.specs.Views.{lent, pair_texts, verdict_of}
use Rattle.http_routes.proofs.Values.{refused_none, refused_here, refused_later, refused_front, refused_append, list_bad}
use Rattle.http_routes.proofs.query.list_query.Goals as goal

pub returns-in-Some : goal.returns-in-Some
returns-in-Some c = list_bad verdict_of (lent c.args.namespace) (map pair_texts c.args.pairs.now) c.in-Some.key.now c.bad_query.result (refused_front common_rules limit_rules (map pair_texts c.args.pairs.now) c.in-Some.key.now (sym c.in-Some.ensures)) c.bad_query.ensures

pub returns-in_default-limit_in : goal.returns-in_default-limit_in
returns-in_default-limit_in c =
    let fact = rw (c.as_bytes.ensures.value, c.value.ensures) at c.in_default-limit_in.ensures in
    list_bad verdict_of (lent c.args.namespace) (map pair_texts c.args.pairs.now) (codes "limit") c.bad_query-in_default-limit_in.result (refused_append common_rules limit_rules (map pair_texts c.args.pairs.now) (sym c.in_default.ensures) ∙ refused_here limit_rule [] (map pair_texts c.args.pairs.now) fact) c.bad_query-in_default-limit_in.ensures

pub returns-in-Some-2 : goal.returns-in-Some-2
returns-in-Some-2 c =
    let fact = rw (c.as_bytes.ensures.value, c.value.ensures) at c.in-Some-limit_in.ensures in
    (refused_append common_rules limit_rules (map pair_texts c.args.pairs.now) (sym c.in_default.ensures) ∙ refused_later limit_rule [] (map pair_texts c.args.pairs.now) fact.0 ∙ refused_none (map pair_texts c.args.pairs.now), fact.1, rw (c.in-Some-2.is, c.value-2.ensures) at c.in_ok-from.ensures)

pub returns-in-None : goal.returns-in-None
returns-in-None c =
    let fact = rw (c.as_bytes.ensures.value, c.value.ensures) at c.in-Some-limit_in.ensures in
    inr (refused_append common_rules limit_rules (map pair_texts c.args.pairs.now) (sym c.in_default.ensures) ∙ refused_later limit_rule [] (map pair_texts c.args.pairs.now) fact.0 ∙ refused_none (map pair_texts c.args.pairs.now), rw (c.in-None.is, c.value-2.ensures) at c.in_ok-from.ensures, refl)
