use Rattle.api_calls.specs.Item.{entry, Delete}
use Rattle.shared_api.proofs.removing.remove.Given as goal

abbrev pub ghosts-finish : goal.ghosts-finish
ghosts-finish g a = record { item = entry (Delete a.about.now.value) }
