use Rattle.std.proofs.Common.{ap, sym, ◌∙◌}
use Rattle.std.specs.Prelude.{option_map}
use Rattle.kj_value.specs.Seen.{json}
use Rattle.hub_rules.specs.Seen.{rule}
use Rattle.rule_reading.specs.Told.{answer, path_of}
use Rattle.rule_reading.proofs.Plains.{first_stops, last_read, something_beyond, nothing_beyond}
use Rattle.rule_reading.proofs.plain.read_table_of.Goals as goal

pub returns-in-Err-clause-read : goal.returns-in-Err-clause-read
returns-in-Err-clause-read c = first_stops _ _ _ _ (ap (answer json) (sym c.in-Err.is) ∙ c.in_ok-spot.ensures.read)

pub returns-in-Err-2-clause-read : goal.returns-in-Err-2-clause-read
returns-in-Err-2-clause-read c = last_read _ _ _ _ (ap (answer json) (sym c.in-Ok.is) ∙ c.in_ok-spot.ensures.read) (ap (answer rule) (sym c.in-Err-2.is) ∙ c.in_ok-spot-2.ensures.read)

pub returns-in-Ok-Some-clause-read : goal.returns-in-Ok-Some-clause-read
returns-in-Ok-Some-clause-read c = something_beyond (rule c.in-Ok-2.table) (ap (option_map path_of) (sym c.in-Ok-Some.field-0-is) ∙ c.in-Ok-Some.ensures) ∙ last_read _ _ _ _ (ap (answer json) (sym c.in-Ok.is) ∙ c.in_ok-spot.ensures.read) (ap (answer rule) (sym c.in-Ok-2.is) ∙ c.in_ok-spot-2.ensures.read)

pub returns-in-Ok-None-clause-read : goal.returns-in-Ok-None-clause-read
returns-in-Ok-None-clause-read c = nothing_beyond (rule c.in-Ok-2.table) (ap (option_map path_of) (sym c.in-Ok-None.field-0-is) ∙ c.in-Ok-None.ensures) ∙ last_read _ _ _ _ (ap (answer json) (sym c.in-Ok.is) ∙ c.in_ok-spot.ensures.read) (ap (answer rule) (sym c.in-Ok-2.is) ∙ c.in_ok-spot-2.ensures.read)
