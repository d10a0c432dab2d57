use Rattle.http_wire.proofs.LineLemmas.{empty_crlf_crlf, empty_lf_lf, empty_lf_crlf, empty_else}
use Rattle.std.proofs.Common.{refl}
use Rattle.http_wire.proofs.lines.ends_in_empty_line.Goals as goal

pub returns-then-ends_in : goal.returns-then-ends_in
returns-then-ends_in c = (λ yes. empty_crlf_crlf _ (c.if-ends_in.ensures.0 refl), λ found. refl)

pub returns-then-ends_in-2 : goal.returns-then-ends_in-2
returns-then-ends_in-2 c = (λ yes. empty_lf_lf _ (c.if-ends_in-2.ensures.0 refl), λ found. refl)

pub returns-then-ends_in-3 : goal.returns-then-ends_in-3
returns-then-ends_in-3 c = (λ yes. empty_lf_crlf _ (c.if-ends_in-3.ensures.0 refl), λ found. refl)

pub returns : goal.returns
returns c = empty_else _ _ c.if-ends_in.ensures.1 c.if-ends_in-2.ensures.1 c.if-ends_in-3.ensures.1 c.ends_in-4.ensures
