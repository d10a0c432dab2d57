use Rattle.std.proofs.Common.{sym, subst}
use Rattle.keep_laws.specs.Keys.{of_spoke}
use Rattle.keep_laws.proofs.Keys.{KindSays, kind_says}
use Rattle.keep_laws.proofs.SpokesFitted.{hub_body_at}
use Rattle.spoke_keep.proofs.carrying.fate_of.Goals as goal

pub spoke_fate-requires : goal.spoke_fate-requires
spoke_fate-requires c =
    let all = c.args.all.now in
    let says : KindSays all c.args.name.now (of_spoke c.in-OfSpoke.s.now) = subst (KindSays all c.args.name.now) (sym c.in-OfSpoke.ensures) (kind_says all c.args.name.now) in
    hub_body_at all.items says.1.0 c.in-OfSpoke.s.now c.args.body.now c.requires says.1.1
