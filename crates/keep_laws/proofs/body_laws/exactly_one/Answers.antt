use Rattle.keep_laws.proofs.Back.{spoke_of, hub_of, pair_whole}
use Rattle.keep_laws.proofs.body_laws.exactly_one.Goals as goal

pub returns : goal.returns
returns c = record {
  spoke = spoke_of;
  hub = hub_of;
  whole = pair_whole;
}
