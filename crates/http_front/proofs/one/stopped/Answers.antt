use Rattle.http_front.proofs.Ending.{blames_written, head_fault, stopped_refused}
use Rattle.http_front.proofs.one.stopped.Goals as goal

pub refused-requires : goal.refused-requires
refused-requires g c = head_fault c.args.fault c.in_default.not-Closed c.in_default.not-Torn c.in_default.not-ReadFault

pub returns-in_default-clause-stops : goal.returns-in_default-clause-stops
returns-in_default-clause-stops g c =
    stopped_refused c.args.fault _ _ c.refused.result (head_fault c.args.fault c.in_default.not-Closed c.in_default.not-Torn c.in_default.not-ReadFault) c.refused.ensures.wrote

pub returns-in_default-clause-blame : goal.returns-in_default-clause-blame
returns-in_default-clause-blame g c = blames_written c.refused.result _ _ c.refused.ensures.blame
