use Rattle.std.proofs.Common.{◌∙◌, sym, arith}
use Rattle.http_routes.specs.Views.{pair_texts}
use Rattle.http_routes.proofs.Values.{at_key, past_key, no_key}
use Rattle.http_routes.proofs.query.value.Goals as goal

pub returns-then-is_key : goal.returns-then-is_key
returns-then-is_key c =
    let same = rw c.as_str.ensures.value at c.if-is_key.ensures in
    c.as_str-then-is_key.ensures.value ∙ sym (c.loop-pair.invariant ∙ at_key pair_texts c.args.key.now c.args.pairs.now c.loop-pair.pair-index c.pair-item.result c.loop-pair-test.true c.pair-item.is same)

pub loop-pair-preserved : goal.loop-pair-preserved
loop-pair-preserved c =
    let other = rw c.as_str.ensures.value at c.if-is_key.ensures in
    c.loop-pair.invariant ∙ past_key pair_texts c.args.key.now c.args.pairs.now c.loop-pair.pair-index c.pair-item.result c.loop-pair-test.true c.pair-item.is other

pub returns : goal.returns
returns c = sym (c.loop-pair.invariant ∙ no_key pair_texts c.args.key.now c.args.pairs.now c.loop-pair.pair-index (omega arith))
