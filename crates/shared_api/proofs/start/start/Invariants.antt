use Rattle.api_calls.specs.Item.{entry, StartMigration}
use Rattle.shared_api.proofs.start.start.Given as goal

abbrev pub ghosts-finish : goal.ghosts-finish
ghosts-finish g a = record { item = entry (StartMigration a.about.now.bytes) }
