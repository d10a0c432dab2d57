-- For private clauses: where a drill stands.
use Rattle.std.specs.Prelude.{List}
use Rattle.api_calls.specs.Item.{Item}
use Rattle.drill_steps.specs.declared.worker.Progress.{Progress}
use Rattle.drill_steps.specs.Steps.{Point}

abbrev pub point_of : Progress → List Item → Point
point_of d log = record { drawing = d.drawing; switches = d.switches; claim = d.worker.claim; tally = record { log = log; counts = d.counts } }
