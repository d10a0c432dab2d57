-- What a rule holds is less deep than the list that it stands in.
use Rattle.std.specs.Prelude.{◌≤◌, max, List, [], ◌∷◌, map}
use Rattle.std.proofs.Common.{arith}
use denote.Param.Weighed.{most}
use Rattle.hub_rules.specs.Rule.{rule_depth, inner_depth, rules_of}
use Rattle.hub_rules.specs.Seen.{rule}
use Rattle.hub_rules.specs.declared.rules.Line.{Line}
use Rattle.hub_rules.specs.declared.rules.Line.TheVariants.{Same, Object, SpokeOnly, HubOnly, Split, Table, Scale}
use Rattle.hub_rules.specs.declared.rules.Rules.TheDeep.{deep-Line}

deep-rule : (r : Line) → deep-Line r ≤ rule_depth (rule r)
deep-rule (Same a b) = omega arith
deep-rule (Object a b rs) = omega arith
deep-rule (SpokeOnly a) = omega arith
deep-rule (HubOnly b) = omega arith
deep-rule (Split a b c) = omega arith
deep-rule (Table a b ps x y) = omega arith
deep-rule (Scale a b k) = omega arith

pub most-rules : (rs : List Line) → max (most deep-Line rs) 0 ≤ inner_depth (rules_of (map rule rs))
most-rules [] = omega arith
most-rules (r ∷ rs) = omega (arith, deep-rule r, most-rules rs)
