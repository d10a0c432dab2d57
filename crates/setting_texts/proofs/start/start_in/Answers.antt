use Rattle.api_calls.specs.Refusal.{refusal_of}
use Rattle.setting_texts.proofs.Starting.{came-unstarted}
use Rattle.setting_texts.proofs.start.start_in.Goals as goal

pub returns-in-Err-clause-refused : goal.returns-in-Err-clause-refused
returns-in-Err-clause-refused g c =
    came-unstarted (g.V.Versions.meaning c.args.lent.now.versions.now) c.args.bytes.now c.in-Err.fault (refusal_of c.not_started.result.refusal) c.in-Err.ensures.refused c.not_started.ensures
