use Rattle.std.proofs.Common.{◌≡◌, drop, map}
use Rattle.kj_value.specs.Texts.{text_pair}
use Rattle.hook_versions.specs.inner.Sameness.{texts_same}
use Rattle.hook_versions.proofs.sameness.alike.Given as goal

abbrev pub invariant-loop-i : goal.invariant-loop-i
invariant-loop-i l = texts_same (map text_pair (drop l.i l.xs)) (map text_pair (drop l.i l.ys)) ≡ texts_same (map text_pair l.xs) (map text_pair l.ys)
