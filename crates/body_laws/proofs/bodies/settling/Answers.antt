use Rattle.body_laws.proofs.Settled.{settled_living, dead_harmless, settles_once, over_is_settled}
use Rattle.body_laws.proofs.bodies.settling.Goals as goal

pub returns : goal.returns
returns c = record {
  dead = settled_living;
  harmless = dead_harmless;
  once = settles_once;
  over = over_is_settled;
}
