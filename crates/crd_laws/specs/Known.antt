-- What the laws of a definition take of other crates, from this alone, that a text spells one list of entries.
use Rattle.keep_laws.proofs.Fitted.{body_known, body_allowed, body_set, whole_body}
use Rattle.keep_laws.proofs.Settled.{whole_settled}
use Rattle.prune_default.proofs.Fillings.{one_value}
use Rattle.prune_default.proofs.Existing.{filling}
use Rattle.keep_laws.specs.Given.{OneList, Laws}
use Rattle.keep_laws.proofs.Pairs.{settled_of, one_object, one_hub_object}
use Rattle.keep_laws.proofs.Trips.{settles_one, settles_hub_one}
use Rattle.crd_meaning.specs.Given.{Given}

pub laws : OneList → Laws
laws one = record {
  one = one;
  known = body_known;
  allowed = body_allowed;
  set = body_set;
  body = whole_body;
  words = λ d l x r w. whole_settled d l x r w;
}

pub given : OneList → Given
given one = record {
  settled = λ all v s d p. settled_of (laws one) all v s d p;
  spoke = λ all v s d p. one_object (laws one) all v s d p;
  hub = λ all v s d p. one_hub_object (laws one) all v s d p;
  left = λ all v s d p. settles_one (laws one) all v s d p;
  left_at_hub = λ all. settles_hub_one (laws one) all;
  filling = λ s j k l p q g h. one_value j s k l p q g h;
  fills = filling;
}
