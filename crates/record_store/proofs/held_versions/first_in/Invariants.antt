use Rattle.std.proofs.Common.{◌≡◌, ◌≤◌, ◌++◌, List, length, take, drop}
use Rattle.std.specs.Option.{option_or}
use Rattle.record_store.specs.Rows.{row_key}
use Rattle.record_store.specs.declared.row.Row.{Row}
use Rattle.record_store.specs.Standing.{first_held, row_at}
use Rattle.record_store.proofs.held_versions.first_in.Given as goal

abbrev pub invariant-loop-row : goal.invariant-loop-row
invariant-loop-row l = record {
  inside : l.left ≤ length l.versions;
  rest : (rest : List Row) → option_or (first_held row_at row_key (take l.left l.versions) (drop l.row-index l.rows ++ rest)) l.found ≡ option_or (first_held row_at row_key (take l.fn.before l.versions) (l.rows ++ rest)) l.fn.best;
}
