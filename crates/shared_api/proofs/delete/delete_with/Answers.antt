use Rattle.std.proofs.Common.{◌≡◌, ◌<◌, Some, ◌∙◌, arith}
use Rattle.call_texts.specs.Told.{decided}
use Rattle.shared_api.specs.Base.{server_of}
use Rattle.write_texts.specs.Leavings.{Deleted}
use Rattle.shared_api.proofs.DeleteEnds.{ends-join, stays-join}
use Rattle.shared_api.proofs.Results.{rested-base}
use Rattle.shared_api.proofs.delete.delete_with.Goals as goal

pub try_delete-requires-clause-base : goal.try_delete-requires-clause-base
try_delete-requires-clause-base g c =
    let base = c.requires.base in (
      base.0,
      rested-base (server_of g.V.Versions.meaning base.0) c.args.pass.now.seat.me.0 c.loop.pass.seat.me.0 (c.loop.invariant.rested base.0 base.1) ∙ base.1,
      base.2,
      base.3,
    )

pub returns-in-Told-clause-came : goal.returns-in-Told-clause-came
returns-in-Told-clause-came g c b is =
    let s = server_of g.V.Versions.meaning b in
    let v = c.args.pass.now.seat.me.0 in
    let w = c.loop.pass.seat.me.0 in
    let z = c.try_delete.new.pass.seat.me.0 in
    let rested = c.loop.invariant.rested b is in
    let there : w.base ≡ Some b = rested-base s v w rested ∙ is in
    let risen = c.loop.invariant.rises in
    ends-join s (g.V.Tool.Tool.faults c.args.tool.now < g.V.Tool.Tool.faults c.try_delete.new.tool) (g.V.Tool.Tool.faults c.loop.tool < g.V.Tool.Tool.faults c.try_delete.new.tool) v w z c.args.key.now
    (Deleted (g.V.Versions.meaning b.versions) b.boot c.args.v c.args.key.now c.args.stamp.text) (decided c.in-Told.came) (λ more. omega (arith, risen, more)) rested (c.in-Told.ensures.tries b there)

pub loop-preserved : goal.loop-preserved
loop-preserved g c = record {
  own = c.try_delete.ensures.own ∙ c.loop.invariant.own;
  rest = c.try_delete.ensures.rest;
  rises = (let before = c.loop.invariant.rises in let more = c.try_delete.ensures.rises in omega (arith, before, more));
  rested = λ b is. (
      let s = server_of g.V.Versions.meaning b in
      let v = c.args.pass.now.seat.me.0 in
      let w = c.loop.pass.seat.me.0 in
      let rested = c.loop.invariant.rested b is in
      let there : w.base ≡ Some b = rested-base s v w rested ∙ is in
      stays-join s v w c.try_delete.new.pass.seat.me.0 rested (c.in-Again.ensures.tries b there)
      );
  next = tt;
  finite = tt;
}
