use Rattle.http_wire.proofs.StatusLemmas.{judged_all}
use Rattle.http_wire.proofs.response_head.judge_status.Goals as goal

pub returns : goal.returns
returns c = judged_all _ _ _ c.min.ensures c.judge_window.ensures
