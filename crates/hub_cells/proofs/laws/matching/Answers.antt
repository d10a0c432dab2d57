use Rattle.hub_cells.specs.laws.OneToOne.{matched_is, is_matched_from}
use Rattle.hub_cells.proofs.laws.matching.Goals as goal

pub returns : goal.returns
returns c = record { sound = matched_is; whole = is_matched_from }
