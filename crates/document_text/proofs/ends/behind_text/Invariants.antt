use Rattle.std.proofs.Common.{◌≡◌, ◌-◌, ◌≤◌, ℕ, Bool, drop, length}
use Rattle.document_text.specs.inner.Ending.{in_text}
use Rattle.document_text.proofs.ends.behind_text.Given as goal

-- what is left is read as the text is from the place on
abbrev pub invariant-loop-i : goal.invariant-loop-i
invariant-loop-i l = record {
  later : l.from ≤ l.i;
  within : l.i ≤ length l.bytes;
  same : (commas : Bool) (level : ℕ) → in_text commas level (drop l.from l.bytes) ≡ in_text commas level (drop l.i l.bytes);
}

abbrev pub decreases-loop-i : goal.decreases-loop-i
decreases-loop-i l = length l.bytes - l.i
