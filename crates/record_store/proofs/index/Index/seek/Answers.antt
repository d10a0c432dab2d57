use Rattle.std.proofs.Common.{◌+◌, ◌-◌, ◌/◌, ◌≤◌, map, sym, ap, ◌∙◌, arith}
use Rattle.kube_meta.specs.Key.{KeyView}
use Rattle.record_store.specs.ByKey.{place as place_of}
use Rattle.record_store.specs.Rows.{Rows, row_key}
use Rattle.record_store.proofs.Search.{at_miss, here, higher, lower}
use Rattle.record_store.proofs.index.Index.seek.Goals as goal

pub loop-low-preserved-in-Less : goal.loop-low-preserved-in-Less
loop-low-preserved-in-Less c =
    let rows = c.self.inside.rows.rows in
    let k : KeyView = record { ns = c.args.ns.now; name = c.args.name.now } in
    record {
      order = omega arith;
      within = c.loop-low.invariant.within;
      below = lower row_key k rows (c.loop-low.low + (c.loop-low.high - c.loop-low.low) / 2) c.at.result.now c.self.invariant c.at.ensures (sym c.in-Less.ensures);
      above = c.loop-low.invariant.above;
    }

pub returns-in-Equal-clause-place : goal.returns-in-Equal-clause-place
returns-in-Equal-clause-place c =
    let rows = c.self.inside.rows.rows in
    let k : KeyView = record { ns = c.args.ns.now; name = c.args.name.now } in
    here row_key k rows (c.loop-low.low + (c.loop-low.high - c.loop-low.low) / 2) c.at.result.now c.self.invariant c.at.ensures (sym c.in-Equal.ensures)
    ∙ ap (λ (v : Rows). place_of (record { ns = c.args.ns.now; name = c.args.name.now }) (map row_key v.rows)) c.self.view_is

pub loop-low-preserved : goal.loop-low-preserved
loop-low-preserved c =
    let rows = c.self.inside.rows.rows in
    let k : KeyView = record { ns = c.args.ns.now; name = c.args.name.now } in
    record {
      order = omega arith;
      within = omega (arith, c.loop-low.invariant.within);
      below = c.loop-low.invariant.below;
      above = higher row_key k rows (c.loop-low.low + (c.loop-low.high - c.loop-low.low) / 2) c.at.result.now c.self.invariant c.at.ensures (sym c.in-Greater.ensures);
    }

pub returns-clause-place : goal.returns-clause-place
returns-clause-place c =
    let rows = c.self.inside.rows.rows in
    let k : KeyView = record { ns = c.args.ns.now; name = c.args.name.now } in
    let met : c.loop-low.high ≤ c.loop-low.low = omega arith in
    at_miss row_key k rows c.loop-low.low (omega arith) c.loop-low.invariant.below (λ j d p q. c.loop-low.invariant.above j d (omega (arith, p, met)) q)
    ∙ ap (λ (v : Rows). place_of (record { ns = c.args.ns.now; name = c.args.name.now }) (map row_key v.rows)) c.self.view_is
