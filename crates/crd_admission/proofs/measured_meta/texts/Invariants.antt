use Rattle.std.proofs.Common.{◌≡◌, ◌+◌, length, drop, map}
use Rattle.kj_value.specs.Texts.{text_pair}
use Rattle.kube_meta.specs.Document.{text_fields}
use Rattle.kj_value.specs.Json.{members_of}
use Rattle.kj_value.specs.Text.{more_members}
use Rattle.crd_admission.proofs.measured_meta.texts.Given as goal

abbrev pub invariant-loop-t : goal.invariant-loop-t
invariant-loop-t l =
    length (more_members (members_of (text_fields (map text_pair (drop l.t-index l.t-items))))) + l.initial.rest ≡ l.rest + length (more_members (members_of (text_fields (map text_pair l.t-items))))
