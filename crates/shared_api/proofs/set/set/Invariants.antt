use Rattle.api_calls.specs.Item.{entry, SetVersions}
use Rattle.shared_api.proofs.set.set.Given as goal

abbrev pub ghosts-finish : goal.ghosts-finish
ghosts-finish g a = record { item = entry (SetVersions a.about.now) }
