use Rattle.api_calls.specs.Item.{entry, Trim}
use Rattle.api_calls.specs.Versions.{versions_of}
use Rattle.shared_api.proofs.trim.trim.Given as goal

abbrev pub ghosts-finish : goal.ghosts-finish
ghosts-finish g a = record { item = entry (Trim (versions_of a.about.now)) }
