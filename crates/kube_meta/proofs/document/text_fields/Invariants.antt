use Rattle.std.proofs.Common.{◌≡◌, ◌++◌, map}
use Rattle.std.specs.Vec.Iter.{into_iter_items}
use Rattle.kj_value.specs.Texts.{text_pair}
use Rattle.kube_meta.specs.View.{Texts}
use Rattle.kube_meta.specs.Document.{text_fields}
use Rattle.kube_meta.proofs.document.text_fields.Given as goal

abbrev pub invariant-loop-t : goal.invariant-loop-t
invariant-loop-t l =
    (done : Texts) × (l.fn.texts ≡ done ++ map text_pair (into_iter_items l.t-iterator)) × (l.fields ≡ text_fields done)
