use Rattle.std.proofs.Common.{◌≡◌, drop}
use Rattle.api_calls.specs.Settings.{first_unknown}
use Rattle.api_core.proofs.stored_versions.first_outside.Given as goal

abbrev pub invariant-loop-v : goal.invariant-loop-v
invariant-loop-v l = first_unknown l.list (drop l.v-index l.keep) ≡ first_unknown l.list l.keep
