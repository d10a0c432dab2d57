use Rattle.std.proofs.Common.{◌≡◌, ◌≤◌, length, take}
use Rattle.api_calls.specs.Versions.{versions_of}
use Rattle.api_core.specs.inner.TrimLaws.{unkept}
use Rattle.api_core.proofs.stored_versions.unkept_of.Given as goal

abbrev pub invariant-loop-v : goal.invariant-loop-v
invariant-loop-v l = record {
  versions : versions_of l.made ≡ unkept l.keep (take l.v-index l.list);
  few : l.made.len ≤ l.v-index;
  count : l.made.len ≡ length (unkept l.keep (take l.v-index l.list));
}
