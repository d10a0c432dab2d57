use Rattle.std.proofs.Common.{◌≡◌, ℕ, List, ◌++◌, map}
use Rattle.std.specs.Vec.Iter.{into_iter_items}
use Rattle.kj_value.specs.Json.{text}
use Rattle.kj_value.specs.Texts.{bytes_of}
use Rattle.kube_meta.proofs.document.text_items.Given as goal

abbrev pub invariant-loop-t : goal.invariant-loop-t
invariant-loop-t l =
    (done : List (List ℕ)) × (l.fn.texts ≡ done ++ map bytes_of (into_iter_items l.t-iterator)) × (l.items ≡ map text done)
