use Rattle.std.proofs.Common.{ap, rules}
use Rattle.std.specs.Arc.{arc_value}
use Rattle.record_store.specs.View.{StoreView}
use Rattle.api_core.proofs.Opened.{opened}
use Rattle.api_core.proofs.present.Core.open.Goals as goal

pub invariant_of-result : goal.invariant_of-result
invariant_of-result g c =
    opened (g.V.Versions.meaning (arc_value c.args.versions)).count c.in_ok-store.store.last c.opening-flags.result (g.V.Versions.meaning (arc_value c.args.versions)).opening
    (ap (λ (s : StoreView). s.last) c.in_ok-store.ensures) (search rules) (g.met.V.Versions.opens (arc_value c.args.versions))
