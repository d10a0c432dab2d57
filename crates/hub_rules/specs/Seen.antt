-- The rule that a line of the program is: rules inside it are already seen as a list of rules.
use Rattle.kj_value.specs.Seen.{json}
use Rattle.hub_rules.specs.Rule as rules
use Rattle.hub_rules.specs.declared.rules.Line.{Line}
use Rattle.hub_rules.specs.declared.rules.Line.TheVariants.{Same, Object, SpokeOnly, HubOnly, Split, Table, Scale}

abbrev pub rule : Line → rules.Rule
rule (Same spoke hub) = rules.same spoke.bytes hub.bytes
rule (Object spoke hub rs) = rules.within spoke.bytes hub.bytes (rules.rules_of rs)
rule (SpokeOnly name) = rules.spoke_only name.bytes
rule (HubOnly name) = rules.hub_only name.bytes
rule (Split spoke first second) = rules.split spoke.bytes first.bytes second.bytes
rule (Table spoke hub pairs x y) = rules.table spoke.bytes hub.bytes pairs (json x) (json y)
rule (Scale spoke hub by) = rules.scale spoke.bytes hub.bytes by
