use Rattle.std.proofs.Common.{◌≡◌, ◌≤◌, ◌-◌, ◌++◌, length, take, drop, map}
use Rattle.kj_value.specs.Pair.{pair_of}
use Rattle.document_text.specs.FieldLaws.{before, after}
use Rattle.document_text.proofs.writing.parted.Given as goal

abbrev pub invariant-loop-i : goal.invariant-loop-i
invariant-loop-i l = record {
  within : l.i ≤ length l.fields;
  before : before l.name (map pair_of l.fields) ≡ map pair_of (take l.i l.fields) ++ before l.name (map pair_of (drop l.i l.fields));
  after : after l.name (map pair_of l.fields) ≡ after l.name (map pair_of (drop l.i l.fields));
}

abbrev pub decreases-loop-i : goal.decreases-loop-i
decreases-loop-i l = length l.fields - l.i
