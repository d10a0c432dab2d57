use Rattle.std.proofs.Common.{subst}
use Rattle.std.proofs.lemmas.Option.{slice_get_within}
use Rattle.kube_meta.specs.View.{object_of}
use Rattle.keep_laws.specs.Spokes.{Spoke}
use Rattle.keep_laws.specs.WholeHub.{IsSettledAt}
use Rattle.keep_laws.proofs.Adding.{one_at}
use Rattle.spoke_keep.proofs.hub.back_to_hub.Goals as goal

pub at-requires : goal.at-requires
at-requires c = slice_get_within c.args.all.now.items c.args.v c.requires.0 c.requires.1

pub back-requires-clause-settled : goal.back-requires-clause-settled
back-requires-clause-settled c =
    let same = one_at c.args.all.now.items c.args.v c.requires.0 c.at.result.now c.requires.1 c.at.ensures in
    subst (λ (s : Spoke). IsSettledAt c.args.all.now s (object_of c.args.x)) same c.requires.2
