use Rattle.std.proofs.Common.{inl}
use Rattle.link_converter.proofs.taking.taken.Goals as goal

pub returns-in-None-clause-left : goal.returns-in-None-clause-left
returns-in-None-clause-left c = inl (rw c.in-None.is at c.in_ok-body.ensures)
