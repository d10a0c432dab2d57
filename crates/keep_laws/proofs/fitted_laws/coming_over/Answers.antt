use Rattle.keep_laws.proofs.Fitted.{over_body, over_whole, settled_is_whole}
use Rattle.keep_laws.proofs.fitted_laws.coming_over.Goals as goal

pub returns : goal.returns
returns c = record {
  converted = over_body;
  over = over_whole;
  settled = settled_is_whole;
}
