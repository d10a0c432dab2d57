use Rattle.std.proofs.Common.{ap, ◌∙◌, List, ℕ}
use Rattle.base64.specs.Engines.{url_safe_no_pad}
use Rattle.base64.specs.GeneralPurpose.{encode_of}
use Rattle.api_calls.specs.Token.{token_text}
use Rattle.api_calls.proofs.Tokens.{refuses_text}
use Rattle.api_calls.proofs.token.read_token.Goals as goal

pub returns-in-Ok-clause-ok : goal.returns-in-Ok-clause-ok
unfolding token_text
returns-in-Ok-clause-ok c =
    let read = rw c.as_str.ensures at c.in-Ok.ensures.ok in
    (read.0, ap (λ (b : List ℕ). encode_of url_safe_no_pad b) read.1 ∙ c.in_ok-line.ensures.spelled)

pub returns-clause-err : goal.returns-clause-err
returns-clause-err c =
    refuses_text _ _ _ c.in_ok-line.ensures.read (rw c.as_str.ensures at c.in-Err.ensures.err)
