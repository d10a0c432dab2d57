use Rattle.std.proofs.Common.{ap}
use Rattle.shared_api.specs.declared.cell.CoreBase.{CoreBase}
use Rattle.kubeconv_cmd.proofs.ServeEnding.{service_as}
use Rattle.kubeconv_cmd.proofs.serve_line.serve_by.Goals as goal

pub serve_opened-requires-clause-limits : goal.serve_opened-requires-clause-limits
serve_opened-requires-clause-limits g c κs within = ap (λ (b : CoreBase g.row.V.Denot). b.limits) c.in-Ok-open.ensures.base

pub returns-clause-came : goal.returns-clause-came
returns-clause-came g c = service_as g.V.Tool.Tool.faults _ g.V.Versions.meaning _ _ _ _ _ _ c.in-Ok-open.ensures.base c.serve_opened.ensures.came
