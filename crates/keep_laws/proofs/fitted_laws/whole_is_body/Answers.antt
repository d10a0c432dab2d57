use Rattle.keep_laws.proofs.Fitted.{whole_body}
use Rattle.keep_laws.proofs.fitted_laws.whole_is_body.Goals as goal

pub returns : goal.returns
returns c = whole_body
