use Rattle.std.proofs.Common.{◌≡◌, map, drop}
use Rattle.hub_rules.specs.Rule.{rules_of, names_on}
use Rattle.hub_rules.specs.Seen.{rule}
use Rattle.hub_cells.specs.Seen.{side}
use Rattle.hub_cells.specs.Fit.{has_name}
use Rattle.hub_rules.proofs.names.is_ruled.Given as goal

abbrev pub invariant-loop-line : goal.invariant-loop-line
invariant-loop-line l =
    has_name l.name (names_on (side l.on) (rules_of (map rule l.lines))) ≡ has_name l.name (names_on (side l.on) (rules_of (map rule (drop l.line-index l.lines))))
