use Rattle.keep_laws.proofs.Hubs.{over_whole, over_one, over_self, settle_pair}
use Rattle.keep_laws.proofs.object_laws.going_over.Goals as goal

pub returns : goal.returns
returns c = record {
  whole = λ all v s d p. over_whole c.given.ensures all v s d p;
  pair = λ all v s d p. settle_pair c.given.ensures all v s d p;
  one = λ all v s d p. over_one c.given.ensures all v s d p;
  back = λ all v s d p. over_self c.given.ensures all v s d p;
}
