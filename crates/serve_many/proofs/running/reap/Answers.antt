use Rattle.std.proofs.Common.{rules, ◌∙◌}
use Rattle.serve_many.proofs.Rounds.{goes_on}
use Rattle.serve_many.proofs.running.reap.Goals as goal

pub loop-at-preserved-then-not-reap_at : goal.loop-at-preserved-then-not-reap_at
loop-at-preserved-then-not-reap_at g c = record {
  of = c.reap_at.ensures.of;
  links = c.reap_at.ensures.links;
  room = search rules;
  capacity = c.reap_at.ensures.capacity ∙ c.loop-at.invariant.capacity;
  goes = goes_on c.args.pass.now.view c.loop-at.pass.view c.reap_at.new.pass.view c.loop-at.invariant.goes c.reap_at.ensures.goes;
  hears = λ place h. c.reap_at.ensures.hears place (c.loop-at.invariant.hears place h);
  faults = c.reap_at.ensures.faults ∙ c.loop-at.invariant.faults;
  origins = c.reap_at.ensures.origins ∙ c.loop-at.invariant.origins;
  going = λ n asked idle v0 h0 g0 crew count handed start. c.reap_at.ensures.going n asked idle v0 h0 g0 crew count handed (c.loop-at.invariant.going n asked idle v0 h0 g0 crew count handed start);
}

pub loop-at-preserved : goal.loop-at-preserved
loop-at-preserved g c = record {
  of = c.reap_at.ensures.of;
  links = c.reap_at.ensures.links;
  room = search rules;
  capacity = c.reap_at.ensures.capacity ∙ c.loop-at.invariant.capacity;
  goes = goes_on c.args.pass.now.view c.loop-at.pass.view c.reap_at.new.pass.view c.loop-at.invariant.goes c.reap_at.ensures.goes;
  hears = λ place h. c.reap_at.ensures.hears place (c.loop-at.invariant.hears place h);
  faults = c.reap_at.ensures.faults ∙ c.loop-at.invariant.faults;
  origins = c.reap_at.ensures.origins ∙ c.loop-at.invariant.origins;
  going = λ n asked idle v0 h0 g0 crew count handed start. c.reap_at.ensures.going n asked idle v0 h0 g0 crew count handed (c.loop-at.invariant.going n asked idle v0 h0 g0 crew count handed start);
}
