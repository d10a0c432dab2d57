use Rattle.keep_laws.proofs.Fitted.{body_known, body_allowed, body_set, body_back}
use Rattle.keep_laws.proofs.fitted_laws.body_in_words.Goals as goal

pub returns : goal.returns
returns c = record {
  known = body_known;
  allowed = body_allowed;
  set = body_set;
  back = body_back;
}
