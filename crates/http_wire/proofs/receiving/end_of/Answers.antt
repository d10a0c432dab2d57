use Rattle.std.proofs.Common.{refl, arith, inl}
use Rattle.http_wire.specs.Received.{IsPartOfResponse}
use Rattle.http_wire.proofs.receiving.end_of.Goals as goal

pub returns-in_default-clause-end : goal.returns-in_default-clause-end
unfolding IsPartOfResponse
returns-in_default-clause-end c = (refl, omega arith, inl (c.requires.short, c.requires.open), refl)
