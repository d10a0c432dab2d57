use Rattle.std.proofs.Common.{inl}
use Rattle.shared_api.proofs.replace.commit.Goals as goal

pub release-requires-clause-goes : goal.release-requires-clause-goes
release-requires-clause-goes g c = (c.requires.goes.0, c.args.storage, c.requires.goes.1)

pub returns-then-ends-clause-came : goal.returns-then-ends-clause-came
returns-then-ends-clause-came g c b q is goes = inl (c.release.ensures.came b q c.args.storage is goes)
