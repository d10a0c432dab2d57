use Rattle.crd_meaning.specs.Meant.{no_settings}
use Rattle.crd_meaning.proofs.Verdicts.{decides, decides_each}
use Rattle.crd_meaning.proofs.laws.deciding.Goals as goal

pub returns : goal.returns
returns c = record { once = λ d l. decides c.known.ensures no_settings d l; each = λ d l. decides_each c.known.ensures no_settings d l }
