use Rattle.keep_laws.proofs.Trips.{settles_one, settle_settled, settles_self, settles_hub_one, settles_hub_whole, settles_hub_self}
use Rattle.keep_laws.proofs.LeftNotes.{left_at_spoke, left_at_hub}
use Rattle.keep_laws.proofs.object_laws.settling.Goals as goal

pub returns : goal.returns
returns c = record {
  one = λ all v s d p. settles_one c.given.ensures all v s d p;
  settled = λ all v s d p. settle_settled c.given.ensures all v s d p;
  stays = λ all v s d p. settles_self c.given.ensures all v s d p;
  one_at_hub = λ all. settles_hub_one c.given.ensures all;
  whole = λ all. settles_hub_whole c.given.ensures all;
  stays_at_hub = λ all. settles_hub_self c.given.ensures all;
  left = λ all v s d p. left_at_spoke c.given.ensures all v s d p;
  left_at_hub = left_at_hub;
}
