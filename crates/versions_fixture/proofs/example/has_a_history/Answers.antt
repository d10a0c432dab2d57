use Rattle.versions_fixture.proofs.Lawful.{lawful}
use Rattle.versions_fixture.proofs.example.has_a_history.Goals as goal

pub returns : goal.returns
returns c = lawful
