use Rattle.std.proofs.Common.{◌≡◌, drop, map}
use Rattle.std.specs.List.{list_all, list_any}
use Rattle.std.specs.Str.{bytes_eq}
use Rattle.kj_value.specs.Texts.{bytes_of}
use Rattle.write_texts.proofs.update.are_among.Given as goal

abbrev pub invariant-loop-text : goal.invariant-loop-text
invariant-loop-text l =
    list_all (λ f. list_any (bytes_eq f) (map bytes_of l.others)) (map bytes_of (drop l.text-index l.texts))
    ≡ list_all (λ f. list_any (bytes_eq f) (map bytes_of l.others)) (map bytes_of l.texts)
