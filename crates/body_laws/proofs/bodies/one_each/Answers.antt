use Rattle.std.proofs.Common.{refl}
use Rattle.body_laws.proofs.Settled.{settled_is_over}
use Rattle.body_laws.proofs.bodies.one_each.Goals as goal

pub returns : goal.returns
returns c = record {
  pair = λ d l x e. record { there = refl; back = e };
  only = λ d l x y p. p.there;
  settled = settled_is_over;
}
