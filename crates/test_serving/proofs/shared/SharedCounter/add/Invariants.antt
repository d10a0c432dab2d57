use Rattle.test_serving.specs.Counts.{adding}
use Rattle.test_serving.proofs.shared.SharedCounter.add.Given as goal

abbrev pub ghosts-enter : goal.ghosts-enter
ghosts-enter g a = record { item = adding a.x }
