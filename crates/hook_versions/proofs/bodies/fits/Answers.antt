use Rattle.std.proofs.Common.{arith}
use Rattle.hook_versions.proofs.bodies.fits.Goals as goal

pub returns : goal.returns
returns c = (
  λ p. (omega (arith, c.depth.ensures, c.if-depth-gt-OBJECT_LEVELS.false), c.is_allowed.ensures.0 c.if-not-is_allowed.false, c.is_filled.ensures.0 p),
  λ q. c.is_filled.ensures.1 q.2,
)
