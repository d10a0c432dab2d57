use Rattle.hook_versions.proofs.turning.rejected.Goals as goal

pub returns-then-reject-clause-refused : goal.returns-then-reject-clause-refused
returns-then-reject-clause-refused g c = tt
