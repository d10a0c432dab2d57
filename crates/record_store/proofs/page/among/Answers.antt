use Rattle.std.proofs.Common.{arith}
use Rattle.std.specs.Prelude.{option_copied}
use Rattle.record_store.proofs.Steps.{kept_at, kept_all}
use Rattle.record_store.proofs.page.among.Goals as goal

pub loop-pick-preserved : goal.loop-pick-preserved
loop-pick-preserved c =
    kept_at (option_copied c.args.ns) (option_copied c.args.after) _ _ _ c.args.picks.now c.loop-pick.pick-index c.pick-item.result c.loop-pick-test.true c.pick-item.is c.in_ok-keep_asked.ensures c.loop-pick.invariant

pub returns : goal.returns
returns c = kept_all (option_copied c.args.ns) (option_copied c.args.after) _ _ c.args.picks.now c.loop-pick.pick-index (omega arith) c.loop-pick.invariant
