use Rattle.link_converter.proofs.taking.taken_of.Goals as goal

pub returns-in-Err-WrongCount-clause-taken : goal.returns-in-Err-WrongCount-clause-taken
returns-in-Err-WrongCount-clause-taken c = tt
