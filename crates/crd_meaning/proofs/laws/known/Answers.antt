use Rattle.crd_meaning.proofs.laws.known.Goals as goal

pub returns : goal.returns
returns c = record {
  settled = c.one_each.ensures.settled;
  spoke = c.one_each.ensures.spoke;
  hub = c.one_each.ensures.hub;
  left = c.settling.ensures.one;
  left_at_hub = c.settling.ensures.one_at_hub;
  filling = c.one_filling.ensures;
  fills = c.some_filling.ensures;
}
