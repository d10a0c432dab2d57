use Rattle.std.proofs.Common.{◌≡◌, drop}
use Rattle.schema_reading.specs.Words.{spelled}
use Rattle.schema_reading.proofs.words.spelled.Given as goal

abbrev pub invariant-loop-keyword : goal.invariant-loop-keyword
invariant-loop-keyword l =
    spelled (drop l.keyword-index l.among) l.name ≡ spelled l.among l.name
