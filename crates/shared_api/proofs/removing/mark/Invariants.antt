use Rattle.api_calls.specs.Item.{entry, Mark}
use Rattle.shared_api.proofs.removing.mark.Given as goal

abbrev pub ghosts-finish : goal.ghosts-finish
ghosts-finish g a = record { item = entry (Mark a.about.now.0.value a.about.now.1.value a.about.now.2.value.text) }
