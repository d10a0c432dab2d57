use Rattle.std.proofs.Common.{option_map}
use Rattle.wire_client.specs.Keys.{texts_key}
use Rattle.far_migrate.proofs.Orders.{falls, rises}
use Rattle.far_migrate.proofs.ordering.rise_behind.Goals as goal

pub returns-then-not-is_behind : goal.returns-then-not-is_behind
returns-then-not-is_behind c =
    falls c.args.objects.now c.loop-i.i c.index-objects-i.result (option_map texts_key c.args.last) (option_map texts_key c.loop-i.before) (texts_key c.key_texts-key.result) c.is_behind.result
    c.loop-i-test.true c.index-objects-i.is c.loop-i.invariant c.key_texts-key.ensures c.is_behind.ensures c.if-not-is_behind.true

pub loop-i-preserved : goal.loop-i-preserved
loop-i-preserved c =
    rises c.args.objects.now c.loop-i.i c.index-objects-i.result (option_map texts_key c.args.last) (option_map texts_key c.loop-i.before) (texts_key c.key_texts-key.result) c.is_behind.result
    c.loop-i-test.true c.index-objects-i.is c.loop-i.invariant c.key_texts-key.ensures c.is_behind.ensures c.if-not-is_behind.false
