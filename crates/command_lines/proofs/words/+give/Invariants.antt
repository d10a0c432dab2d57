use Rattle.std.proofs.Common.{length}
use Rattle.command_lines.proofs.words.+give.Given as goal

abbrev pub decreases-give : goal.decreases-give
decreases-give l = length l.words.now
