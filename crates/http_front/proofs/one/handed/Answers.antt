use Rattle.http_front.proofs.Ending.{blames_none, handed_so}
use Rattle.http_front.proofs.Talking.{handed_on}
use Rattle.http_front.proofs.one.handed.Goals as goal

pub returns-in-Ok-clause-wrote : goal.returns-in-Ok-clause-wrote
returns-in-Ok-clause-wrote g c = rw c.step_of.ensures (handed_so c.args.closing _ _ _ c.in-Ok.ensures.sent)

pub returns-in-Ok-clause-flushed : goal.returns-in-Ok-clause-flushed
returns-in-Ok-clause-flushed g c = rw c.step_of.ensures (handed_on c.args.closing _ _ c.in-Ok.ensures.flushed)

pub returns-in-Ok-clause-blame : goal.returns-in-Ok-clause-blame
returns-in-Ok-clause-blame g c = rw c.step_of.ensures (blames_none c.args.closing _ _)
