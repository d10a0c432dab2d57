use Rattle.std.proofs.Common.{refl}
use Rattle.api_calls.specs.Status.{message_of}
use Rattle.api_calls.proofs.message.bad_request.Goals as goal

pub returns : goal.returns
unfolding message_of
returns c = rw (c.in_ok-three.ensures, c.word.ensures, c.as_str.ensures, c.in_ok-parameter.ensures) refl
