use Rattle.std.proofs.Common.{◌≡◌, map, drop}
use Rattle.hub_rules.specs.Rule.{rules_of}
use Rattle.hub_rules.specs.Seen.{rule}
use Rattle.hub_rules.specs.Refusal.{twice}
use Rattle.hub_rules.proofs.names.twice.Given as goal

abbrev pub invariant-loop-i : goal.invariant-loop-i
invariant-loop-i l =
    twice (rules_of (map rule l.lines)) ≡ twice (rules_of (map rule (drop l.i l.lines)))
