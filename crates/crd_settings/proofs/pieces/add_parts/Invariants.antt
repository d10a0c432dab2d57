use Rattle.std.proofs.Common.{◌≡◌, ◌+◌, ◌++◌, drop, length}
use Rattle.crd_settings.specs.Flags.{mark_of}
use Rattle.crd_settings.specs.Pieces.{parts_text}
use Rattle.crd_settings.proofs.pieces.add_parts.Given as goal

abbrev pub invariant-loop-part : goal.invariant-loop-part
invariant-loop-part l = record {
  text : l.out.bytes ++ parts_text (mark_of l.flags) (drop l.part-index l.parts) ≡ l.fn.out.bytes ++ parts_text (mark_of l.flags) l.parts;
  room : l.out.room + length (parts_text (mark_of l.flags) l.parts) ≡ l.fn.out.room + length (parts_text (mark_of l.flags) (drop l.part-index l.parts));
}
