use Rattle.std.proofs.Common.{sym, ◌∙◌, ap}
use Rattle.kube_meta.specs.Plan.{Bound}
use Rattle.migrate_core.specs.Bounds.{bound_of}
use Rattle.migrate_core.specs.Rows.{first_behind}
use Rattle.migrate_core.proofs.Spans.{first_behind-end}
use Rattle.migrate_core.proofs.records.first_behind.Goals as goal

pub returns-in-End-clause-next : goal.returns-in-End-clause-next
returns-in-End-clause-next g c =
    sym (first_behind-end (g.R.Records.rows c.args.records.now))
    ∙ ap (λ (b : Bound). first_behind b (g.R.Records.rows c.args.records.now)) (sym (ap bound_of c.in-End.is) ∙ c.bound.view_is)
