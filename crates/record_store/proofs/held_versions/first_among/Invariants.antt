use Rattle.std.proofs.Common.{◌≡◌, ◌-◌, ◌≤◌, length, take, drop}
use Rattle.std.specs.Option.{option_or}
use Rattle.record_store.specs.Rows.{row_key}
use Rattle.record_store.specs.Standing.{first_held, row_at}
use Rattle.record_store.proofs.held_versions.first_among.Given as goal

abbrev pub invariant-loop-place : goal.invariant-loop-place
invariant-loop-place l = record {
  inside : l.left ≤ length l.versions;
  within : l.place ≤ length l.index.rows;
  rest : option_or (first_held row_at row_key (take l.left l.versions) (drop l.place l.index.rows)) l.found ≡ first_held row_at row_key l.versions l.index.rows;
}

abbrev pub decreases-loop-place : goal.decreases-loop-place
decreases-loop-place l = length l.index.rows - l.place
