use Rattle.http_wire.proofs.StatusLemmas.{found_refused}
use Rattle.http_wire.proofs.response_head.judge_fields.Goals as goal

pub returns-in-Err : goal.returns-in-Err
returns-in-Err c = (
  found_refused c.args.bytes.now c.args.headers.now c.args.found c.in-Err.fault c.requires.head c.requires.within c.requires.short c.requires.few
      c.in-Err.ensures.value,
  c.in-Err.ensures.fault,
)
