use Rattle.far_laws.proofs.forms.Back.{back}
use Rattle.far_laws.proofs.forms.gives_back.Goals as goal

pub returns : goal.returns
returns c = λ d. record {
  gives = λ v h given x y r e known whole pairs like at ns spelled admits.
      back d whole.0 c.known.ensures
      (record {
        reading = c.one_reading.ensures;
        text_reads = c.text_reads.ensures;
        reads_back = c.read_back.ensures;
        stand = c.standing.ensures d whole.0;
        unstamped = c.unstamped.ensures d;
        hub_one = c.one_hub.ensures.one d whole.0;
        stays = c.settling.ensures.stays;
        stays_at_hub = c.settling.ensures.stays_at_hub;
      })
      v h given x y r e known whole.1 pairs like at ns spelled admits.1;
}
