use Rattle.std.proofs.Common.{lit≤}
use Rattle.versions_fixture.proofs.Pieces.{only_version}
use Rattle.versions_fixture.proofs.settings.only.Goals as goal

pub returns-clause-legal : goal.returns-clause-legal
returns-clause-legal c = record { len = lit≤ tt; versions = only_version c.args.version c.requires }
