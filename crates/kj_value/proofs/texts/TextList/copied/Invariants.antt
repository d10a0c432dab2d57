use Rattle.std.proofs.Common.{◌≡◌, take, map}
use Rattle.kj_value.specs.Texts.{bytes_of}
use Rattle.kj_value.proofs.texts.TextList.copied.Given as goal

abbrev pub invariant-loop-t : goal.invariant-loop-t
invariant-loop-t l = l.copies ≡ map bytes_of (take l.t-index l.t-items)
