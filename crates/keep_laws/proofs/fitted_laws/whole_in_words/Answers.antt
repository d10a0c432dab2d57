use Rattle.keep_laws.proofs.Settled.{whole_settled}
use Rattle.keep_laws.proofs.fitted_laws.whole_in_words.Goals as goal

pub returns : goal.returns
returns c = λ d l x r w. whole_settled d l x r w
