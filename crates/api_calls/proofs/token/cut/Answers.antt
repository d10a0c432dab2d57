use Rattle.api_calls.proofs.Tokens.{cut_at_space}
use Rattle.api_calls.proofs.token.cut.Goals as goal

pub returns : goal.returns
returns c = cut_at_space _ _ c.split_once.ensures.cases
