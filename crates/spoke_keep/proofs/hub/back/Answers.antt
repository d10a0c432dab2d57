use Rattle.std.proofs.Common.{refl, sym, subst}
use Rattle.kube_meta.specs.View.{object_of}
use Rattle.keep_laws.specs.Over.{GoesOver}
use Rattle.spoke_keep.proofs.hub.back.Goals as goal

pub shape_back-requires-clause-settled : goal.shape_back-requires-clause-settled
shape_back-requires-clause-settled c = (object_of c.args.x, refl, sym c.replace-annotations.ensures.value, c.requires.settled)

pub returns-in-Ok : goal.returns-in-Ok
returns-in-Ok c =
    subst (GoesOver c.args.all.now c.args.s.now (object_of c.args.x)) (sym c.reshaped.ensures) (c.in-Ok.ensures (object_of c.args.x) refl (sym c.replace-annotations.ensures.value))
