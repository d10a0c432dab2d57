-- The set of rules that a document spells, or the path of the first thing that is refused in it.
use Rattle.std.specs.Prelude.{List, [], cond, Result, Ok, Err}
use Rattle.std.specs.Str.{bytes_eq}
use Rattle.kj_value.specs.Json.{Json, object, Members, no_members, member}
use Rattle.hub_cells.specs.Level.{Name}
use Rattle.hub_rules.specs.Rule.{Rule}
use Rattle.rule_reading.specs.Words.{word}
use Rattle.struct_schema.specs.PathText.{Path, here}
use Rattle.rule_reading.specs.Tried.{under_name, as_read, more}
use Rattle.rule_reading.specs.Shapes.{field_at, field_read, beyond, ended, text_read}
use Rattle.rule_reading.specs.RuleRead.{rules_read}
use Rattle.rule_reading.specs.declared.words.Word.TheVariants as w

abbrev pub Spoke : Type 0
Spoke = Name × List Rule

-- a spoke is another version than the hub
abbrev pub spoke_read : Name → Name → Json → Result Spoke Path
spoke_read h k j = as_read (λ rs. (k, rs)) (under_name k (cond (bytes_eq k h) (Err here) (rules_read 0 0 j)))

abbrev pub spokes_from : Name → Members → Result (List Spoke) Path
spokes_from h no_members = Ok []
spokes_from h (member k j ms) = more (spoke_read h k j) (λ s. spokes_from h ms)

-- the rules of each spoke, by its name
abbrev pub spokes_read : Name → Json → Result (List Spoke) Path
spokes_read h (object ms) = spokes_from h ms
spokes_read h _ = Err here

-- the hub's name, and the rules of its spokes
abbrev pub spokes_after : Result Name Path → Members → Result (Name × List Spoke) Path
spokes_after (Err p) ms = Err p
spokes_after (Ok h) ms = as_read (λ ss. (h, ss)) (field_read (word w.Spokes) (spokes_read h) 1 ms)

abbrev pub set_read : Json → Result (Name × List Spoke) Path
set_read (object ms) = ended (beyond (field_at 2 ms)) (spokes_after (field_read (word w.Hub) text_read 0 ms) ms)
set_read _ = Err here
