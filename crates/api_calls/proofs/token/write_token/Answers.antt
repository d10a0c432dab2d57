use Rattle.std.proofs.Common.{refl}
use Rattle.api_calls.specs.Token.{token_text}
use Rattle.api_calls.proofs.token.write_token.Goals as goal

pub returns : goal.returns
unfolding token_text
returns c = rw (c.of_string.ensures, c.in_ok-text.ensures.text, c.as_bytes.ensures.value, c.as_str.ensures, c.in_ok-line.ensures) refl
