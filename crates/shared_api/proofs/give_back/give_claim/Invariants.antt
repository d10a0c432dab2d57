use Rattle.api_calls.specs.Item.{note, GiveBack}
use Rattle.shared_api.specs.inner.Working.{number_of}
use Rattle.shared_api.proofs.give_back.give_claim.Given as goal

abbrev pub ghosts-finish : goal.ghosts-finish
ghosts-finish g a = record { item = note (GiveBack (number_of a.about.now)) }
