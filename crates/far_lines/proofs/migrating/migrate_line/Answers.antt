use Rattle.place.specs.Place.{place_of}
use Rattle.far_lines.specs.Ends.{at_place}
use Rattle.far_lines.proofs.migrating.migrate_line.Goals as goal

pub returns-in-Ok-clause-came : goal.returns-in-Ok-clause-came
returns-in-Ok-clause-came g c = at_place (place_of c.in-Ok.place) c.in-Ok.ensures.ok c.migrate_place.ensures.came
