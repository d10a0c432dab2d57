use Rattle.std.proofs.Common.{rules, ℕ, ◌≡◌, ◌≢◌, ◌+◌, ◌≤◌, Some, List, map, arith}
use Rattle.shared_api.specs.declared.cell.CoreBase.{CoreBase}
use Rattle.serve_spans.specs.inner.Keeping.{Job}
use Rattle.shared_api.specs.Base.{server_of}
use Rattle.serve_many.specs.Helping.{begins, helps, turns_between}
use Rattle.serve_many.proofs.Rounds.{goes_self, rounds_on}
use Rattle.serve_many.proofs.Counting.{left_first, left_less, left_done, left_some, rose_since}
use Rattle.serve_many.proofs.accepting.accept_all.Goals as goal

pub loop-init : goal.loop-init
loop-init g c = record {
  of = c.requires.of;
  links = c.requires.links;
  room = c.requires.room.0;
  capacity = c.requires.room.1;
  hears = λ place h. h;
  later = omega arith;
  going = λ n asked v0 h0 g0 crew start. (0, left_first c.args.connections, begins c.args.pass.now.view (goes_self c.args.pass.now.view), start);
}

pub returns-then-is_done-clause-going : goal.returns-then-is_done-clause-going
returns-then-is_done-clause-going g c n asked v0 h0 g0 crew start =
    let h = c.loop.invariant.going n asked v0 h0 g0 crew start in
    let none : c.loop.left ≡ Some 0 = search rules in
    (h.0, left_done c.args.connections c.loop.left h.0 h.1 none, h.2, h.3)

pub returns-then-is_done-clause-hears : goal.returns-then-is_done-clause-hears
returns-then-is_done-clause-hears g c = c.loop.invariant.hears

pub returns-then-is_err-clause-hears : goal.returns-then-is_err-clause-hears
returns-then-is_err-clause-hears g c = λ place h. c.accept_one.ensures.hears place (c.loop.invariant.hears place h)

pub returns-then-is_err-clause-fault : goal.returns-then-is_err-clause-fault
returns-then-is_err-clause-fault g c unfinished =
    rose_since (g.A.Ears.faults c.args.ears.now) (g.A.Ears.faults c.loop.ears) (g.A.Ears.faults c.accept_one.new.ears) c.loop.invariant.later (search rules)

pub returns-then-is_err-clause-going : goal.returns-then-is_err-clause-going
returns-then-is_err-clause-going g c n asked v0 h0 g0 crew start =
    let h = c.loop.invariant.going n asked v0 h0 g0 crew start in
    let some : c.loop.left ≢ Some 0 = search rules in
    let next = c.accept_one.ensures.going n asked c.args.idle v0 h0 g0 crew h.0 h.3 in
    (h.0, left_some c.args.connections c.loop.left h.0 h.1 some, rounds_on (server_of g.V.Versions.meaning c.args.api.now.base) turns_between c.args.idle c.args.pass.now.view h.0 c.loop.pass.view c.accept_one.new.pass.view h.2 c.accept_one.ensures.goes, (search rules))

pub loop-preserved : goal.loop-preserved
loop-preserved g c = record {
  of = c.help_out.ensures.of;
  links = c.accept_one.ensures.links;
  room = c.accept_one.ensures.room.0;
  capacity = search rules;
  hears = λ place h. c.accept_one.ensures.hears place (c.loop.invariant.hears place h);
  later = (let a = c.loop.invariant.later in let b = c.accept_one.ensures.later in omega arith);
  going = λ n asked v0 h0 g0 crew start.
      let h = c.loop.invariant.going n asked v0 h0 g0 crew start in
      let some : c.loop.left ≢ Some 0 = search rules in
      let next = c.accept_one.ensures.going n asked c.args.idle v0 h0 g0 crew h.0 h.3 in (
        h.0 + 1,
        left_less c.args.connections c.loop.left c.one_less-left.result h.0 h.1 some c.one_less-left.ensures,
        helps h.0 (g.V.Tool.Tool.faults c.accept_one.new.pass.tool) (g.V.Tool.Tool.faults c.help_out.new.pass.tool) c.accept_one.new.pass.view c.help_out.new.pass.view c.help_out.new.pass.view
            (rounds_on (server_of g.V.Versions.meaning c.args.api.now.base) turns_between c.args.idle c.args.pass.now.view h.0 c.loop.pass.view c.accept_one.new.pass.view h.2 c.accept_one.ensures.goes) c.help_out.ensures.helps (goes_self c.help_out.new.pass.view),
        c.help_out.ensures.going (g.C.Clock.told c.args.clock.now) n asked v0 h0 g0 crew (map (λ h. (h.handle.promise.job.value.pass.view, g.A.In.Source.origin h.handle.promise.job.value.input)) c.accept_one.new.running.items) (h.0 + 1) (g.A.Ears.origins c.accept_one.new.ears) (g.A.Ears.returned c.accept_one.new.ears)
            (search rules),
      );
}
