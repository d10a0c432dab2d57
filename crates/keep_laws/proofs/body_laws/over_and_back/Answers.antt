use Rattle.keep_laws.proofs.Back.{other_whole, object_back_again}
use Rattle.keep_laws.proofs.body_laws.over_and_back.Goals as goal

pub returns : goal.returns
returns c = record {
  whole = other_whole;
  back = object_back_again;
}
