use Rattle.crd_meaning.specs.Meant.{no_settings}
use Rattle.crd_meaning.proofs.Verdicts.{hub_one}
use Rattle.crd_meaning.proofs.Left.{readable}
use Rattle.crd_meaning.proofs.laws.one_hub.Goals as goal

pub returns : goal.returns
returns c = record {
  one = λ d l. hub_one c.known.ensures no_settings d l;
  read = readable;
}
