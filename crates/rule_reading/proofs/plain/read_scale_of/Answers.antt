use Rattle.std.proofs.Common.{ap, sym, ◌∙◌}
use Rattle.std.specs.Prelude.{option_map}
use Rattle.rule_reading.specs.Told.{answer, path_of}
use Rattle.rule_reading.proofs.Plains.{first_stops, second_stops, beyond_stops, both_read}
use Rattle.rule_reading.proofs.plain.read_scale_of.Goals as goal

pub returns-in-Err-clause-read : goal.returns-in-Err-clause-read
returns-in-Err-clause-read c =
    first_stops _ _ _ _ (ap (answer _) (sym c.in-Err.is) ∙ c.in_ok-spot.ensures.read)

pub returns-in-Err-2-clause-read : goal.returns-in-Err-2-clause-read
returns-in-Err-2-clause-read c =
    second_stops _ _ _ _ (ap (answer _) (sym c.in-Ok.is) ∙ c.in_ok-spot.ensures.read) (ap (answer _) (sym c.in-Err-2.is) ∙ c.in_ok-spot-2.ensures)

pub returns-in-Some-clause-read : goal.returns-in-Some-clause-read
returns-in-Some-clause-read c =
    beyond_stops _ _ _ _ (ap (answer _) (sym c.in-Ok.is) ∙ c.in_ok-spot.ensures.read) (ap (answer _) (sym c.in-Ok-2.is) ∙ c.in_ok-spot-2.ensures) (ap (option_map path_of) (sym c.in-Some.is) ∙ c.in_ok-spot-3.ensures)

pub returns-in-None-clause-read : goal.returns-in-None-clause-read
returns-in-None-clause-read c =
    both_read _ _ _ _ (ap (answer _) (sym c.in-Ok.is) ∙ c.in_ok-spot.ensures.read) (ap (answer _) (sym c.in-Ok-2.is) ∙ c.in_ok-spot-2.ensures) (ap (option_map path_of) (sym c.in-None.is) ∙ c.in_ok-spot-3.ensures)
