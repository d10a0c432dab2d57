use Rattle.std.proofs.Common.{◌≡◌, ◌-◌, ◌≤◌, drop, length}
use Rattle.document_text.specs.inner.Ending.{ending}
use Rattle.document_text.proofs.ends.ending.Given as goal

-- what is left is read as the whole is from its front
abbrev pub invariant-loop-i : goal.invariant-loop-i
invariant-loop-i l = record {
  same : ending l.commas 0 l.bytes ≡ ending l.commas l.level (drop l.i l.bytes);
  few : l.level ≤ l.i;
  within : l.i ≤ length l.bytes;
}

abbrev pub decreases-loop-i : goal.decreases-loop-i
decreases-loop-i l = length l.bytes - l.i
