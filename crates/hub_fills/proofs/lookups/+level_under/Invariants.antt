use Rattle.std.proofs.Common.{◌-◌, length}
use Rattle.hub_fills.proofs.lookups.+level_under.Given as goal

abbrev pub decreases-level_under : goal.decreases-level_under
decreases-level_under l = length l.path.now - l.i
