use Rattle.std.proofs.Common.{refl}
use Rattle.std.specs.Fmt.{digits}
use Rattle.api_calls.specs.Status.{status}
use Rattle.http_front.specs.Faults.{failure_text}
use Rattle.http_front.proofs.fault.refusal_of.Goals as goal

pub returns-in-BadHead-clause-text : goal.returns-in-BadHead-clause-text
unfolding failure_text status digits
returns-in-BadHead-clause-text c = rw c.in-BadHead.is refl

pub returns-in-LengthRequired-clause-text : goal.returns-in-LengthRequired-clause-text
unfolding failure_text status digits
returns-in-LengthRequired-clause-text c = rw c.in-LengthRequired.is refl

pub returns-in-BodyTooLong-clause-text : goal.returns-in-BodyTooLong-clause-text
unfolding failure_text status digits
returns-in-BodyTooLong-clause-text c = rw c.in-BodyTooLong.is refl

pub returns-in-HeadTooLong-clause-text : goal.returns-in-HeadTooLong-clause-text
unfolding failure_text status digits
returns-in-HeadTooLong-clause-text c = rw c.in-HeadTooLong.is refl
