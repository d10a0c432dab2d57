use Rattle.hub_cells.specs.Side.{other}
use Rattle.body_laws.specs.Over.{crossed}
use Rattle.body_laws.proofs.Back.{over_back}
use Rattle.body_laws.proofs.bodies.over_and_back.Goals as goal

pub returns : goal.returns
returns c = record {
  back = λ d l x f p. over_back d l x.fields x.kept f p;
  edited = λ d l shown x f p. over_back d l x (crossed (other d) l shown).kept f p;
  forged = over_back;
}
