use Rattle.std.proofs.Common.{refl}
use Rattle.versions_fixture.proofs.Whole.{parts, whole}
use Rattle.versions_fixture.proofs.example.has_an_object.Goals as goal

pub returns-clause-whole : goal.returns-clause-whole
returns-clause-whole c = whole

pub returns-clause-hub : goal.returns-clause-hub
returns-clause-hub c = record { parts = parts; hub = refl; form = refl }

pub returns-clause-stored : goal.returns-clause-stored
returns-clause-stored c = record { parts = parts; hub = refl; form = refl }
