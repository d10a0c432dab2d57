use Rattle.keep_laws.proofs.Pairs.{settled_of, one_object, one_hub_object}
use Rattle.keep_laws.proofs.object_laws.one_each.Goals as goal

pub returns : goal.returns
returns c = record {
  settled = λ all v s d p. settled_of c.given.ensures all v s d p;
  spoke = λ all v s d p. one_object c.given.ensures all v s d p;
  hub = λ all v s d p. one_hub_object c.given.ensures all v s d p;
}
