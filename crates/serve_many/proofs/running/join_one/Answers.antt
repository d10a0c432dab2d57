use Rattle.std.proofs.Common.{rules}
use Rattle.shared_api.specs.Passes.{IsOf}
use Rattle.serve_many.proofs.running.join_one.Goals as goal

pub give_back-requires-clause-of : goal.give_back-requires-clause-of
give_back-requires-clause-of g c =
    let own : IsOf g.V.Versions.meaning c.args.api.now c.join-outcome.result.pass = (c.join-outcome.ensures c.args.api.now c.requires.of.1).0 in
    let both : IsOf g.V.Versions.meaning c.args.api.now c.args.pass.now × IsOf g.V.Versions.meaning c.args.api.now c.join-outcome.result.pass = (c.requires.of.0, own) in
    search rules

pub returns-clause-joined : goal.returns-clause-joined
returns-clause-joined g c = (
  c.join-outcome.result.pass,
  g.A.Ears.ending c.join-outcome.result.ended,
  (c.join-outcome.ensures c.args.api.now c.requires.of.1).1,
  c.give_back.ensures.met,
  c.give_back.ensures.returned,
)
