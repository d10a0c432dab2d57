-- What the program's values are to the logic.
use Rattle.std.specs.Prelude.{ℕ, List}
use Rattle.hub_rules.specs.Rule.{Rule}
use Rattle.rule_reading.specs.declared.set.SpokeRules.{SpokeRules}

abbrev pub spoke_pair : SpokeRules → List ℕ × List Rule
spoke_pair s = (s.name.bytes, s.rules)
