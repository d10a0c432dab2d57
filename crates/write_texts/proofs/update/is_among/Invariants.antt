use Rattle.std.proofs.Common.{◌≡◌, drop, map}
use Rattle.std.specs.List.{list_any}
use Rattle.std.specs.Str.{bytes_eq}
use Rattle.kj_value.specs.Texts.{bytes_of}
use Rattle.write_texts.proofs.update.is_among.Given as goal

abbrev pub invariant-loop-t : goal.invariant-loop-t
invariant-loop-t l = list_any (bytes_eq l.text) (map bytes_of (drop l.t-index l.texts)) ≡ list_any (bytes_eq l.text) (map bytes_of l.texts)
