use Rattle.keep_laws.proofs.Dead.{converted_whole, back_settled}
use Rattle.keep_laws.proofs.Left.{converted_left}
use Rattle.keep_laws.proofs.body_laws.converting.Goals as goal

pub returns : goal.returns
returns c = record {
  whole = converted_whole;
  back = back_settled;
  left = converted_left;
}
