use Rattle.far_migrate.specs.Counts.{counts_of}
use Rattle.far_lines.proofs.Over.{came_tally, came_fault}
use Rattle.far_lines.proofs.migrating.migrate_place.Goals as goal

pub returns-in-Ok-clause-came : goal.returns-in-Ok-clause-came
returns-in-Ok-clause-came g c =
    came_tally _ _ _ _ _ _ (counts_of c.in-Ok.tally) c.write_tally.result c.in-Ok.ensures c.write_tally.ensures.told

pub returns-in-Err-clause-came : goal.returns-in-Err-clause-came
returns-in-Err-clause-came g c = came_fault _ _ _ _ _ _ c.in-Err.fault c.fault_end.result c.fault_end.ensures c.in-Err.ensures
