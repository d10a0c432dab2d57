use Rattle.std.proofs.Common.{Some, refl, sym, subst}
use Rattle.kube_meta.specs.View.{object_of}
use Rattle.keep_laws.specs.Over.{GoesOver}
use Rattle.spoke_keep.proofs.Steps.{fault_of}
use Rattle.spoke_keep.proofs.hub.over.Goals as goal

pub returns-in-Err-clause-err : goal.returns-in-Err-clause-err
returns-in-Err-clause-err c =
    fault_of c.args.all.now (Some c.args.s.now.name) c.replace-annotations.result c.args.x.meta.annotations _ c.replace-annotations.ensures.value c.in-Err.ensures.err

pub returns-in-Ok-clause-over : goal.returns-in-Ok-clause-over
returns-in-Ok-clause-over c =
    subst (GoesOver c.args.all.now c.args.s.now (object_of c.args.x)) (sym c.reshaped.ensures) (c.in-Ok.ensures.over (object_of c.args.x) refl (sym c.replace-annotations.ensures.value))
