use Rattle.std.proofs.Common.{◌≡◌, ◌≤◌, filter, take}
use Rattle.api_calls.specs.State.{has}
use Rattle.api_calls.specs.Versions.{versions_of}
use Rattle.api_core.proofs.stored_versions.kept_of.Given as goal

abbrev pub invariant-loop-v : goal.invariant-loop-v
invariant-loop-v l = record {
  versions : versions_of l.made ≡ filter (has l.keep) (take l.v-index l.list);
  few : l.made.len ≤ l.v-index;
}
