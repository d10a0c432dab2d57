use Rattle.keep_laws.proofs.Trips.{back_settles, back_settled, back_same, back_hub}
use Rattle.keep_laws.proofs.LeftNotes.{left_over}
use Rattle.keep_laws.proofs.object_laws.over_and_back.Goals as goal

pub returns : goal.returns
returns c = record {
  settles = λ all v s d p. back_settles c.given.ensures all v s d p;
  left = λ all v s d p. back_settled c.given.ensures all v s d p;
  settled = λ all v s d p. back_same c.given.ensures all v s d p;
  entries = λ all v s d p x h z rises b g. left_over c.given.ensures all v s d p x h z rises b g;
  whole = λ all v s d p. back_hub c.given.ensures all v s d p;
}
