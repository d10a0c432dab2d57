use Rattle.std.proofs.Common.{◌≡◌, ◌<◌, Some, ◌∙◌, arith}
use Rattle.kube_meta.specs.View.{object_of}
use Rattle.call_texts.specs.Told.{decided}
use Rattle.shared_api.specs.Base.{server_of}
use Rattle.shared_api.specs.inner.WriteTurns.{Created}
use Rattle.shared_api.proofs.Results.{rested-base, rested-join, results-join}
use Rattle.shared_api.proofs.create.enter.Goals as goal

pub try_new-requires-clause-base : goal.try_new-requires-clause-base
try_new-requires-clause-base g c =
    let base = c.requires.base in (
      base.0,
      rested-base (server_of g.V.Versions.meaning base.0) c.args.pass.now.seat.me.0 c.loop.pass.seat.me.0 (c.loop.invariant.rested base.0 base.1).0 ∙ base.1,
      base.2,
      base.3,
    )

pub try_new-requires-clause-shape : goal.try_new-requires-clause-shape
try_new-requires-clause-shape g c = c.loop.invariant.shape

pub returns-in-Told-clause-came : goal.returns-in-Told-clause-came
returns-in-Told-clause-came g c b is =
    let s = server_of g.V.Versions.meaning b in
    let v = c.args.pass.now.seat.me.0 in
    let w = c.loop.pass.seat.me.0 in
    let z = c.try_new.new.pass.seat.me.0 in
    let rested = c.loop.invariant.rested b is in
    let there : w.base ≡ Some b = rested-base s v w rested.0 ∙ is in
    let risen = c.loop.invariant.rises in
    results-join s (g.V.Tool.Tool.faults c.args.tool.now < g.V.Tool.Tool.faults c.try_new.new.tool) (g.V.Tool.Tool.faults c.loop.tool < g.V.Tool.Tool.faults c.try_new.new.tool) v w z
    (Created s c.args.new.now.v (object_of c.args.new.now.hub) c.args.new.now.weight) (decided c.in-Told.came) (λ more. omega (arith, risen, more)) rested.0 (c.in-Told.ensures.tries b there)

pub loop-preserved : goal.loop-preserved
loop-preserved g c = record {
  own = c.try_new.ensures.own ∙ c.loop.invariant.own;
  rest = c.try_new.ensures.rest;
  rises = (let before = c.loop.invariant.rises in let more = c.try_new.ensures.rises in omega (arith, before, more));
  rested = λ b is. (
      let s = server_of g.V.Versions.meaning b in
      let v = c.args.pass.now.seat.me.0 in
      let w = c.loop.pass.seat.me.0 in
      let rested = c.loop.invariant.rested b is in
      let there : w.base ≡ Some b = rested-base s v w rested.0 ∙ is in
      let tries = c.in-Moved.ensures.tries b there in
      (rested-join s v w c.try_new.new.pass.seat.me.0 rested.0 tries.0, tries.1)
      );
  shape = tt;
  next = tt;
  finite = tt;
}
