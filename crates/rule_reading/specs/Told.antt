-- How an answer of the program tells what was read.
use Rattle.std.specs.Prelude.{◌≡◌, List, Result, Ok, Err}
use Rattle.kj_value.specs.Txt.{Bytes}
use Rattle.hub_cells.specs.Level.{Name}
use Rattle.hub_rules.specs.Rule.{Rule}
use Rattle.struct_schema.specs.PathText.{Path}
use Rattle.rule_reading.specs.declared.spot.Spot.{Spot}
use Rattle.rule_reading.specs.declared.set.RuleSet.{RuleSet}
use Rattle.rule_reading.specs.declared.set.RulesFault.{RulesFault}
use Rattle.rule_reading.specs.declared.set.RulesFault.TheVariants.{Refused, NoMemory}

abbrev pub set_of : RuleSet → Name × List (Name × List Rule)
set_of s = (s.hub.bytes, s.spokes)

-- the path of a refusal; want of memory may come anywhere
abbrev pub NamesRulesFault : {A : Type 0} → Result A Path → RulesFault → Type 0
NamesRulesFault r NoMemory = Unit {0}
NamesRulesFault (Ok a) (Refused path) = ⊥
NamesRulesFault (Err p) (Refused path) = path.bytes ≡ p.text

-- ---- for private clauses

abbrev pub path_of : Spot → Path
path_of s = record { text = s.path.bytes; is_named = s.named }

abbrev pub answer : {A B : Type 0} → (A → B) → Result A Spot → Result B Path
answer f (Ok a) = Ok (f a)
answer f (Err s) = Err (path_of s)

abbrev pub two_bytes : Bytes × Bytes → Name × Name
two_bytes p = (p.0.bytes, p.1.bytes)
