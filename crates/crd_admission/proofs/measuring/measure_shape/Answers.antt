use Rattle.std.proofs.Common.{arith}
use Rattle.kube_meta.specs.View.{object_of}
use Rattle.kube_meta.specs.Shapes.{shaped}
use Rattle.crd_admission.proofs.Documents.{length-document}
use Rattle.crd_admission.proofs.measuring.measure_shape.Goals as goal

pub returns-in-Some : goal.returns-in-Some
returns-in-Some c =
    let same = length-document (shaped c.args.p.now (object_of c.args.h.now)) c.len.ensures.sound in
    omega (arith, same, c.in-Some.ensures)

pub returns-in-None : goal.returns-in-None
returns-in-None c =
    let same = length-document (shaped c.args.p.now (object_of c.args.h.now)) c.len.ensures.sound in
    omega (arith, same, c.in-None.ensures)
