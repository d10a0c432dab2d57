use Rattle.kube_meta.specs.View.{object_of}
use Rattle.object_reading.specs.Parts.{parts_in}
use Rattle.crd_admission.proofs.Numerals.{has_number}
use Rattle.crd_admission.proofs.taking.taken.Goals as goal

pub placed-requires-clause-number : goal.placed-requires-clause-number
placed-requires-clause-number c =
    has_number (object_of c.in_ok-o.o) (parts_in c.args.fields) c.in_ok-o.ensures.object c.in_ok-o.ensures.rules
