use Rattle.std.proofs.Common.{ℕ, List, Option, ap, ◌∙◌, arith, Bor}
use Rattle.std.specs.Prelude.{option_copied}
use Rattle.kube_meta.specs.Page.{listed}
use Rattle.record_store.specs.Rows.{row_key}
use Rattle.record_store.proofs.Stretched.{stretch-of}
use Rattle.record_store.proofs.index.Index.stretch.Goals as goal

pub returns-in-Some-clause-rows : goal.returns-in-Some-clause-rows
returns-in-Some-clause-rows c =
    ap (λ (o : Option (Bor (List ℕ))). listed row_key (option_copied o) (option_copied c.args.after) c.args.self.now.rows) c.in-Some.is
    ∙ stretch-of row_key (option_copied c.args.after) c.args.self.now.rows c.first_behind-behind.result c.first_behind-behind.ensures.rows c.first_behind-behind.ensures.within c.in-Some.ns.now c.edge.result c.edge-in-Some.result
    c.edge.ensures.before c.edge.ensures.behind c.edge-in-Some.ensures.before c.edge-in-Some.ensures.behind c.max-from.result c.max.result (omega (arith, c.max-from.ensures)) (omega (arith, c.max.ensures))
