use Rattle.serve_many.proofs.crew.dismiss_one.Goals as goal

pub meet-requires : goal.meet-requires
meet-requires g c = record { of = (c.requires.of.0, (c.join-back.ensures.0 c.args.api.now c.requires.of.1).0) }

pub returns-clause-joined : goal.returns-clause-joined
returns-clause-joined g c = (c.join-back.result.pass, (c.join-back.ensures.0 c.args.api.now c.requires.of.1).1, c.meet.ensures.met)
