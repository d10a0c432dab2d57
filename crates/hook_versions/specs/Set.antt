-- A definition without rules.
use Rattle.std.specs.Prelude.{ℕ, []}
use Rattle.crd_reading.specs.View.{DefinitionView}
use Rattle.crd_meaning.specs.Definition.{Definition}

abbrev pub without_rules : DefinitionView → ℕ → Definition
without_rules view hub = record { view = view; hub = hub; spokes = record { group = []; hub = []; items = [] } }
