use Rattle.api_calls.proofs.Tokens.{tokens_one}
use Rattle.api_calls.proofs.token.one_token.Goals as goal

pub returns : goal.returns
returns c = tokens_one
