use Rattle.std.proofs.Common.{◌≡◌, [], map}
use Rattle.std.specs.Vec.Iter.{into_iter_items}
use Rattle.kj_value.specs.Pair.{pair_of}
use Rattle.object_reading.specs.Parts.{all_added}
use Rattle.object_reading.proofs.parts.texts_in.Given as goal

-- what is left makes the whole
abbrev pub invariant-loop-field : goal.invariant-loop-field
invariant-loop-field l = all_added l.texts (map pair_of (into_iter_items l.field-iterator)) ≡ all_added [] l.fn.fields
