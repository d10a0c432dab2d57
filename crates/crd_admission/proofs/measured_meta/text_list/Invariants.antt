use Rattle.std.proofs.Common.{◌≡◌, ◌+◌, length, drop, map}
use Rattle.kj_value.specs.Json.{text, items_of}
use Rattle.kj_value.specs.Texts.{bytes_of}
use Rattle.kj_value.specs.Text.{more_items}
use Rattle.crd_admission.proofs.measured_meta.text_list.Given as goal

abbrev pub invariant-loop-t : goal.invariant-loop-t
invariant-loop-t l =
    length (more_items (items_of (map text (map bytes_of (drop l.t-index l.t-items))))) + l.initial.rest ≡ l.rest + length (more_items (items_of (map text (map bytes_of l.t-items))))
