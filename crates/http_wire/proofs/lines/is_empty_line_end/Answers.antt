use Rattle.http_wire.proofs.LineLemmas.{empty_last, no_false}
use Rattle.http_wire.proofs.lines.is_empty_line_end.Goals as goal

pub returns-then-bytes-at-ne10 : goal.returns-then-bytes-at-ne10
returns-then-bytes-at-ne10 c = (
  λ no. absurd (no_false no),
  λ found. absurd (c.if-bytes-at-ne10.true (empty_last c.args.bytes.now c.args.at c.requires found)),
)
