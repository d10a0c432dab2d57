use Rattle.far_laws.proofs.forms.Admitted.{admitted}
use Rattle.far_laws.proofs.forms.takes_back.Goals as goal

pub returns : goal.returns
returns c = λ d. record {
  takes = λ v number h x y r known whole light pairs like numbered few at place name spelled utf8 levels. (
    whole.0,
    admitted d whole.0 c.known.ensures
        (record {
          reading = c.one_reading.ensures;
          text_reads = c.text_reads.ensures;
          reads_back = c.read_back.ensures;
          stand = c.standing.ensures d whole.0;
          unstamped = c.unstamped.ensures d;
          hub_one = c.one_hub.ensures.one d whole.0;
          stays = c.settling.ensures.stays;
          stays_at_hub = c.settling.ensures.stays_at_hub;
        })
        c.faults.ensures (c.one_hub.ensures.read d)
        v number h x y r known whole.1 pairs like numbered few at place name spelled utf8 levels light,
  );
}
