use Rattle.std.proofs.Common.{◌≡◌, ◌<◌, Some, inr, sym, subst, ◌∙◌, arith}
use Rattle.api_calls.specs.Item.{items}
use Rattle.call_texts.specs.Told.{decided}
use Rattle.shared_api.specs.Base.{server_of}
use Rattle.write_texts.specs.Replacing.{GoesOver, RepliesToReplace}
use Rattle.shared_api.proofs.Replaces.{settled-join}
use Rattle.shared_api.proofs.Results.{rested-base, rested-join}
use Rattle.shared_api.proofs.replace.enter.Goals as goal

pub attempt-requires-clause-base : goal.attempt-requires-clause-base
attempt-requires-clause-base g c =
    let base = c.requires.base in
    let goes = c.requires.goes in
    let there = subst (λ (x : g.row.V.Denot). GoesOver (g.V.Versions.meaning x) goes.0 c.args.key.now (items c.args.pass.now.seat.me.0.seen) c.args.change.now c.args.first) base.2 goes.1 in (
      base.0,
      rested-base (server_of g.V.Versions.meaning base.0) c.args.pass.now.seat.me.0 c.loop.pass.seat.me.0 (c.loop.invariant.known base.0 goes.0 base.1 there).0 ∙ base.1,
      base.2,
      base.3,
    )

pub attempt-requires-clause-goes : goal.attempt-requires-clause-goes
attempt-requires-clause-goes g c =
    let base = c.requires.base in
    let goes = c.requires.goes in
    let there = subst (λ (x : g.row.V.Denot). GoesOver (g.V.Versions.meaning x) goes.0 c.args.key.now (items c.args.pass.now.seat.me.0.seen) c.args.change.now c.args.first) base.2 goes.1 in (
      goes.0,
      subst (λ (x : g.row.V.Denot). GoesOver (g.V.Versions.meaning x) goes.0 c.args.key.now (items c.loop.pass.seat.me.0.seen) c.args.change.now c.loop.storage) (sym base.2)
          (c.loop.invariant.known base.0 goes.0 base.1 there).1,
    )

pub attempt-requires-clause-shape : goal.attempt-requires-clause-shape
attempt-requires-clause-shape g c = c.loop.invariant.shape

pub returns-in-Told-clause-came : goal.returns-in-Told-clause-came
returns-in-Told-clause-came g c b q is goes =
    let s = server_of g.V.Versions.meaning b in
    let v = c.args.pass.now.seat.me.0 in
    let w = c.loop.pass.seat.me.0 in
    let z = c.attempt.new.pass.seat.me.0 in
    let known = c.loop.invariant.known b q is goes in
    let there : w.base ≡ Some b = rested-base s v w known.0 ∙ is in
    let risen = c.loop.invariant.rises in
    settled-join s (g.V.Tool.Tool.faults c.args.tool.now < g.V.Tool.Tool.faults c.attempt.new.tool) (g.V.Tool.Tool.faults c.loop.tool < g.V.Tool.Tool.faults c.attempt.new.tool) v w z
    (RepliesToReplace s q c.args.key.now) (decided c.in-Told.came) (λ more. omega (arith, risen, more)) known.0 (c.in-Told.ensures.tries b q there known.1)

pub loop-preserved : goal.loop-preserved
loop-preserved g c = record {
  own = c.attempt.ensures.own ∙ c.loop.invariant.own;
  rest = c.attempt.ensures.rest;
  rises = (let before = c.loop.invariant.rises in let more = c.attempt.ensures.rises in omega (arith, before, more));
  known = λ b q is goes. (
      let s = server_of g.V.Versions.meaning b in
      let v = c.args.pass.now.seat.me.0 in
      let w = c.loop.pass.seat.me.0 in
      let known = c.loop.invariant.known b q is goes in
      let there : w.base ≡ Some b = rested-base s v w known.0 ∙ is in
      let tries = c.in-Moved.ensures.tries b q there known.1 in
      (rested-join s v w c.attempt.new.pass.seat.me.0 known.0 (inr tries.0), tries.1)
      );
  shape = tt;
  next = tt;
  finite = tt;
}
