use Rattle.std.proofs.Common.{refl}
use Rattle.base64.specs.Engines.{url_safe_no_pad}
use Rattle.api_calls.specs.Token.{token_line, token_text}
use Rattle.api_calls.proofs.Tokens.{no_text, no_bytes, ascii-line}
use Rattle.api_calls.proofs.token.decoded.Goals as goal

pub returns-in-None-clause-err : goal.returns-in-None-clause-err
unfolding token_text
returns-in-None-clause-err c = λ r k t same.
    no_text url_safe_no_pad _ _ (token_line r k) refl (rw c.as_bytes.ensures.value at c.in-Ok.ensures.ok) c.in-None.ensures (ascii-line r k t) same

pub returns-in-Err-DecodeError-clause-err : goal.returns-in-Err-DecodeError-clause-err
unfolding token_text
returns-in-Err-DecodeError-clause-err c = λ r k t same.
    let failed = rw c.in-Err-DecodeError.field-0-is at c.in-Err-DecodeError.ensures.err in
    no_bytes url_safe_no_pad _ (token_line r k) _ refl (rw c.as_bytes.ensures.value at failed) (ascii-line r k t) same
