use Rattle.kube_meta.specs.View.{ObjectView, object_of}
use Rattle.struct_schema.specs.Shape.{Shape}
use Rattle.struct_schema.specs.ShapeOf.{shape_of}
use Rattle.crd_admission.specs.Steps.{BreaksRule, IsToldOf}
use Rattle.crd_admission.proofs.Ready.{told_broken}
use Rattle.crd_admission.proofs.Refusing.{refused_more}
use Rattle.crd_admission.proofs.filling.filled.Goals as goal

pub returns-in-Err-clause-refused : goal.returns-in-Err-clause-refused
returns-in-Err-clause-refused c =
    let s : Shape = shape_of c.args.s.now in
    let x : ObjectView = object_of c.args.o in
    refused_more (IsToldOf x.meta.name c.in-Err.fault) (BreaksRule s x) c.broken.result (told_broken s x c.in-Err.fault c.in-Err.ensures.broken) c.broken.ensures
