use Rattle.std.proofs.Common.{◌+◌, ◌-◌, ◌/◌, sym, arith}
use Rattle.record_store.specs.Rows.{row_key}
use Rattle.record_store.proofs.Stretched.{all-before, all-behind}
use Rattle.record_store.proofs.index.Index.edge.Goals as goal

pub loop-low-preserved-in-true : goal.loop-low-preserved-in-true
loop-low-preserved-in-true c =
    let rows = c.self.inside.rows.rows in
    record {
      order = omega arith;
      within = c.loop-low.invariant.within;
      below = all-before c.args.with_them c.args.ns.now row_key rows c.self.invariant (c.loop-low.low + (c.loop-low.high - c.loop-low.low) / 2) c.at.result.now c.at.ensures (sym c.in-true.ensures);
      above = c.loop-low.invariant.above;
    }

pub loop-low-preserved : goal.loop-low-preserved
loop-low-preserved c =
    let rows = c.self.inside.rows.rows in
    record {
      order = omega arith;
      within = omega (arith, c.loop-low.invariant.within);
      below = c.loop-low.invariant.below;
      above = all-behind c.args.with_them c.args.ns.now row_key rows c.self.invariant (c.loop-low.low + (c.loop-low.high - c.loop-low.low) / 2) c.at.result.now c.at.ensures (sym c.in-false.ensures);
    }
