use Rattle.serve_many.proofs.running.give_back.Goals as goal

pub returns-clause-met : goal.returns-clause-met
returns-clause-met g c = c.meet.ensures.met

pub returns-clause-returned : goal.returns-clause-returned
returns-clause-returned g c = c.back.ensures.returned
