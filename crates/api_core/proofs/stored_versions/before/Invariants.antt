use Rattle.std.proofs.Common.{◌≡◌, ◌++◌, take, drop}
use Rattle.api_core.specs.inner.TrimLaws.{until}
use Rattle.api_core.proofs.stored_versions.before.Given as goal

abbrev pub invariant-loop-i : goal.invariant-loop-i
invariant-loop-i l = take l.i l.list ++ until l.v (drop l.i l.list) ≡ until l.v l.list
