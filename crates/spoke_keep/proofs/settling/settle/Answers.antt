use Rattle.std.proofs.Common.{ℕ, Option, Some, subst}
use Rattle.kube_meta.specs.View.{object_of}
use Rattle.keep_laws.specs.Place.{StandsAt}
use Rattle.spoke_keep.proofs.settling.settle.Goals as goal

pub settle_spoke-requires-clause-body : goal.settle_spoke-requires-clause-body
settle_spoke-requires-clause-body c =
    let stands : StandsAt c.args.all.now (Some c.in-Some.v) (object_of c.args.x) = subst (λ (o : Option ℕ). StandsAt c.args.all.now o (object_of c.args.x)) c.in-Some.is c.requires in
    (stands.1 c.at.result.now c.at.ensures).1
