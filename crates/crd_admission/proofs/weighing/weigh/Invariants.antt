use Rattle.kube_meta.specs.View.{object_of}
use Rattle.crd_admission.specs.inner.Weighing.{AreWeighed, IsKept}
use Rattle.crd_admission.proofs.weighing.weigh.Given as goal

abbrev pub invariant-loop-v : goal.invariant-loop-v
invariant-loop-v l = AreWeighed l.set (object_of l.h) l.v l.most × IsKept l.set l.storage (object_of l.h) l.stored
