use Rattle.std.proofs.Common.{◌≡◌, ◌++◌, drop}
use Rattle.std.specs.Prelude.{string_bytes}
use Rattle.crd_settings.specs.Shown.{unmarked}
use Rattle.crd_settings.specs.Pieces.{parts_text}
use Rattle.crd_settings.proofs.pieces.longest_parts.Given as goal

abbrev pub invariant-loop-part : goal.invariant-loop-part
invariant-loop-part l = string_bytes l.text ++ parts_text unmarked (drop l.part-index l.parts) ≡ parts_text unmarked l.parts
