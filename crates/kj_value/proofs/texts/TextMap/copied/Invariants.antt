use Rattle.std.proofs.Common.{◌≡◌, take, map}
use Rattle.kj_value.specs.Texts.{text_pair}
use Rattle.kj_value.proofs.texts.TextMap.copied.Given as goal

abbrev pub invariant-loop-t : goal.invariant-loop-t
invariant-loop-t l = map text_pair l.copies.items ≡ map text_pair (take l.t-index l.t-items)
