use Rattle.keep_laws.proofs.Dead.{settled_whole, whole_settled}
use Rattle.keep_laws.proofs.InWords.{settled_fields}
use Rattle.keep_laws.proofs.Left.{settled_left}
use Rattle.keep_laws.proofs.body_laws.settling.Goals as goal

pub returns : goal.returns
returns c = record {
  whole = settled_whole;
  fields = settled_fields;
  left = settled_left;
  stays = whole_settled;
}
