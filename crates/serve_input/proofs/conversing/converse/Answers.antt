use Rattle.std.proofs.Common.{◌≡◌, ◌≢◌, ◌∙◌, ℕ, List, Option, true, false, None, refl, arith, inl, inr}
use Rattle.std.specs.Io.KnownBytes.{prepend_known}
use Rattle.api_calls.specs.Item.{items, items_of}
use Rattle.http_wire.specs.Stream.{closed, torn, refused}
use Rattle.shared_api.specs.Base.{server_of}
use Rattle.request_replies.specs.Replies.{Front}
use Rattle.http_front.specs.Steps.{Point, point_of}
use Rattle.http_front.specs.Paced.{none_yet, one_more}
use Rattle.http_front.proofs.Calling.{same_number, same_on}
use Rattle.http_front.proofs.Pacing.{took, finished}
use Rattle.http_front.proofs.Talking.{so_far_from, so_far_more, ended_so, ended_last, ended_spent, broke_reading, broke}
use Rattle.serve_input.specs.Conversed.{At, AnswersAndWorks, MayRise}
use Rattle.serve_input.proofs.Alone.{alone_on, answered_and_worked, broke_at, ended_at, unread_at}
use Rattle.serve_input.proofs.conversing.converse.Goals as goal

pub loop-count-init : goal.loop-count-init
loop-count-init g c = record {
  of = c.requires.of;
  so_far = so_far_from _ _ _ _ _ c.requires.empty;
  paced = none_yet;
  most = refl;
  same = refl;
  flushed = λ first. first;
  few = omega arith;
  read_later = omega arith;
  write_later = omega arith;
}

pub loop-count-preserved : goal.loop-count-preserved
loop-count-preserved g c =
    let f : Front = record { server = server_of g.V.Versions.meaning c.args.api.now.base; told = g.C.Clock.told c.args.clock.now } in
    let p : Point = point_of g.V.Tool.Tool.faults c.loop-count.pass in
    let q : Point = point_of g.V.Tool.Tool.faults c.serve_one.new.pass in
    let number = same_number c.args.pass.now.view c.loop-count.pass.view 0 c.loop-count.invariant.same c.requires.number in
    let alone = alone_on c.args.pass.now.view c.loop-count.pass.view c.loop-count.invariant.same c.requires.alone in
    let quiet : (m : ℕ) → m ≢ 0 → items_of m q.seen ≡ items_of m p.seen = λ m other. c.in-Answered.ensures.quiet 0 number m other (inr alone) in
    let known : Option (List ℕ) = prepend_known c.loop-count.inbox.bytes (g.S.Source.left c.loop-count.input) in
    let left : Option (List ℕ) = prepend_known c.serve_one.new.inbox.bytes (g.S.Source.left c.serve_one.new.input) in
    let before : Option (List ℕ) = g.K.Sink.written c.loop-count.output in
    let written : Option (List ℕ) = g.K.Sink.written c.serve_one.new.output in
    let worked = answered_and_worked f (MayRise g.V.Tool.Tool.faults) c.args.turns p q c.loop-count.worker.claim known left before written (λ rose. (c.loop-count.pass.tool, c.serve_one.new.pass.tool, rose)) quiet false _ (c.in-Answered.ensures.did 0 number) c.take_turns.ensures.took in
    record {
      of = c.take_turns.ensures.of;
      so_far = so_far_more (AnswersAndWorks f (MayRise g.V.Tool.Tool.faults) c.args.turns) _ _ _ _ _ _ _ _ _ _ c.loop-count.invariant.so_far worked;
      paced = one_more _ _ _ _ c.loop-count.invariant.paced (took g.S.Source.left g.K.Sink.written g.K.Sink.flushed g.S.Source.most worked
          c.in-Answered.ensures.ready c.in-Answered.ensures.prompt c.in-Answered.ensures.flushed c.loop-count.invariant.most);
      most = c.in-Answered.ensures.most ∙ c.loop-count.invariant.most;
      same = same_on c.args.pass.now.view c.serve_one.new.pass.view c.take_turns.new.pass.view
          (same_on c.args.pass.now.view c.loop-count.pass.view c.serve_one.new.pass.view c.loop-count.invariant.same c.in-Answered.ensures.same) c.take_turns.ensures.same;
      flushed = λ first. c.in-Answered.ensures.flushed;
      few = omega arith;
      read_later = omega (arith, c.in-Answered.ensures.read_later, c.loop-count.invariant.read_later);
      write_later = omega (arith, c.in-Answered.ensures.write_later, c.loop-count.invariant.write_later);
    }

pub returns-in-Last-clause-talk : goal.returns-in-Last-clause-talk
returns-in-Last-clause-talk g c =
    let f : Front = record { server = server_of g.V.Versions.meaning c.args.api.now.base; told = g.C.Clock.told c.args.clock.now } in
    let p : Point = point_of g.V.Tool.Tool.faults c.loop-count.pass in
    let q : Point = point_of g.V.Tool.Tool.faults c.serve_one.new.pass in
    let number = same_number c.args.pass.now.view c.loop-count.pass.view 0 c.loop-count.invariant.same c.requires.number in
    let alone = alone_on c.args.pass.now.view c.loop-count.pass.view c.loop-count.invariant.same c.requires.alone in
    let quiet : (m : ℕ) → m ≢ 0 → items_of m q.seen ≡ items_of m p.seen = λ m other. c.in-Last.ensures.quiet 0 number m other (inr alone) in
    let known : Option (List ℕ) = prepend_known c.loop-count.inbox.bytes (g.S.Source.left c.loop-count.input) in
    let left : Option (List ℕ) = prepend_known c.serve_one.new.inbox.bytes (g.S.Source.left c.serve_one.new.input) in
    let before : Option (List ℕ) = g.K.Sink.written c.loop-count.output in
    let written : Option (List ℕ) = g.K.Sink.written c.serve_one.new.output in
    let after : At = record { log = items c.take_turns-in-Last.new.pass.view.seen; claim = c.take_turns-in-Last.new.worker.claim } in
    let worked = answered_and_worked f (MayRise g.V.Tool.Tool.faults) c.args.turns p q c.loop-count.worker.claim known left before written (λ rose. (c.loop-count.pass.tool, c.serve_one.new.pass.tool, rose)) quiet true after (c.in-Last.ensures.did 0 number) c.take_turns-in-Last.ensures.took in (
      after,
      c.take_turns-in-Last.ensures.of.legal.guards,
      inr (ended_last (AnswersAndWorks f (MayRise g.V.Tool.Tool.faults) c.args.turns) _ _ _ _ _ _ _ _ _ _ _ c.loop-count.invariant.so_far c.loop-count-test.true worked),
      finished _ _ c.loop-count.invariant.paced (inr (took g.S.Source.left g.K.Sink.written g.K.Sink.flushed g.S.Source.most worked
          c.in-Last.ensures.ready c.in-Last.ensures.prompt c.in-Last.ensures.flushed c.loop-count.invariant.most)),
    )

pub returns-in-Closed-clause-talk : goal.returns-in-Closed-clause-talk
returns-in-Closed-clause-talk g c =
    let f : Front = record { server = server_of g.V.Versions.meaning c.args.api.now.base; told = g.C.Clock.told c.args.clock.now } in
    let p : Point = point_of g.V.Tool.Tool.faults c.loop-count.pass in
    let q : Point = point_of g.V.Tool.Tool.faults c.serve_one.new.pass in
    let number = same_number c.args.pass.now.view c.loop-count.pass.view 0 c.loop-count.invariant.same c.requires.number in
    let alone = alone_on c.args.pass.now.view c.loop-count.pass.view c.loop-count.invariant.same c.requires.alone in
    let quiet : (m : ℕ) → m ≢ 0 → items_of m q.seen ≡ items_of m p.seen = λ m other. c.in-Closed.ensures.quiet 0 number m other (inr alone) in
    let known : Option (List ℕ) = prepend_known c.loop-count.inbox.bytes (g.S.Source.left c.loop-count.input) in
    let left : Option (List ℕ) = prepend_known c.serve_one.new.inbox.bytes (g.S.Source.left c.serve_one.new.input) in
    let before : Option (List ℕ) = g.K.Sink.written c.loop-count.output in
    let written : Option (List ℕ) = g.K.Sink.written c.serve_one.new.output in
    let ended = ended_at f (MayRise g.V.Tool.Tool.faults) c.args.turns p q c.loop-count.worker.claim known left before written (λ rose. (c.loop-count.pass.tool, c.serve_one.new.pass.tool, rose)) quiet closed (c.in-Closed.ensures.did 0 number) in (
      record { log = items q.seen; claim = c.loop-count.worker.claim },
      c.in-Closed.ensures.of.legal.guards,
      inl (ended_so (AnswersAndWorks f (MayRise g.V.Tool.Tool.faults) c.args.turns) _ _ _ _ _ _ _ None _ _ _ c.loop-count.invariant.so_far closed c.loop-count-test.true ended),
      finished _ _ c.loop-count.invariant.paced (inl (took g.S.Source.left g.K.Sink.written g.K.Sink.flushed g.S.Source.most ended
          c.in-Closed.ensures.ready c.in-Closed.ensures.prompt c.in-Closed.ensures.flushed c.loop-count.invariant.most)),
    )

pub returns-in-Torn-clause-talk : goal.returns-in-Torn-clause-talk
returns-in-Torn-clause-talk g c =
    let f : Front = record { server = server_of g.V.Versions.meaning c.args.api.now.base; told = g.C.Clock.told c.args.clock.now } in
    let p : Point = point_of g.V.Tool.Tool.faults c.loop-count.pass in
    let q : Point = point_of g.V.Tool.Tool.faults c.serve_one.new.pass in
    let number = same_number c.args.pass.now.view c.loop-count.pass.view 0 c.loop-count.invariant.same c.requires.number in
    let alone = alone_on c.args.pass.now.view c.loop-count.pass.view c.loop-count.invariant.same c.requires.alone in
    let quiet : (m : ℕ) → m ≢ 0 → items_of m q.seen ≡ items_of m p.seen = λ m other. c.in-Torn.ensures.quiet 0 number m other (inr alone) in
    let known : Option (List ℕ) = prepend_known c.loop-count.inbox.bytes (g.S.Source.left c.loop-count.input) in
    let left : Option (List ℕ) = prepend_known c.serve_one.new.inbox.bytes (g.S.Source.left c.serve_one.new.input) in
    let before : Option (List ℕ) = g.K.Sink.written c.loop-count.output in
    let written : Option (List ℕ) = g.K.Sink.written c.serve_one.new.output in
    let ended = ended_at f (MayRise g.V.Tool.Tool.faults) c.args.turns p q c.loop-count.worker.claim known left before written (λ rose. (c.loop-count.pass.tool, c.serve_one.new.pass.tool, rose)) quiet (torn c.in-Torn.held) (c.in-Torn.ensures.did 0 number) in (
      record { log = items q.seen; claim = c.loop-count.worker.claim },
      c.in-Torn.ensures.of.legal.guards,
      ended_so (AnswersAndWorks f (MayRise g.V.Tool.Tool.faults) c.args.turns) _ _ _ _ _ _ _ None _ _ _ c.loop-count.invariant.so_far (torn c.in-Torn.held) c.loop-count-test.true ended,
      finished _ _ c.loop-count.invariant.paced (took g.S.Source.left g.K.Sink.written g.K.Sink.flushed g.S.Source.most ended
          c.in-Torn.ensures.ready c.in-Torn.ensures.prompt c.in-Torn.ensures.flushed c.loop-count.invariant.most),
    )

pub returns-in-Refused-clause-talk : goal.returns-in-Refused-clause-talk
returns-in-Refused-clause-talk g c =
    let f : Front = record { server = server_of g.V.Versions.meaning c.args.api.now.base; told = g.C.Clock.told c.args.clock.now } in
    let p : Point = point_of g.V.Tool.Tool.faults c.loop-count.pass in
    let q : Point = point_of g.V.Tool.Tool.faults c.serve_one.new.pass in
    let number = same_number c.args.pass.now.view c.loop-count.pass.view 0 c.loop-count.invariant.same c.requires.number in
    let alone = alone_on c.args.pass.now.view c.loop-count.pass.view c.loop-count.invariant.same c.requires.alone in
    let quiet : (m : ℕ) → m ≢ 0 → items_of m q.seen ≡ items_of m p.seen = λ m other. c.in-Refused.ensures.quiet 0 number m other (inr alone) in
    let known : Option (List ℕ) = prepend_known c.loop-count.inbox.bytes (g.S.Source.left c.loop-count.input) in
    let left : Option (List ℕ) = prepend_known c.serve_one.new.inbox.bytes (g.S.Source.left c.serve_one.new.input) in
    let before : Option (List ℕ) = g.K.Sink.written c.loop-count.output in
    let written : Option (List ℕ) = g.K.Sink.written c.serve_one.new.output in
    let ended = ended_at f (MayRise g.V.Tool.Tool.faults) c.args.turns p q c.loop-count.worker.claim known left before written (λ rose. (c.loop-count.pass.tool, c.serve_one.new.pass.tool, rose)) quiet (refused c.in-Refused.fault) (c.in-Refused.ensures.did 0 number) in (
      record { log = items q.seen; claim = c.loop-count.worker.claim },
      c.in-Refused.ensures.of.legal.guards,
      ended_so (AnswersAndWorks f (MayRise g.V.Tool.Tool.faults) c.args.turns) _ _ _ _ _ _ _ None _ _ _ c.loop-count.invariant.so_far (refused c.in-Refused.fault) c.loop-count-test.true ended,
      finished _ _ c.loop-count.invariant.paced (took g.S.Source.left g.K.Sink.written g.K.Sink.flushed g.S.Source.most ended
          c.in-Refused.ensures.ready c.in-Refused.ensures.prompt c.in-Refused.ensures.flushed c.loop-count.invariant.most),
    )

pub returns-in-ReadFault-clause-talk : goal.returns-in-ReadFault-clause-talk
returns-in-ReadFault-clause-talk g c =
    let f : Front = record { server = server_of g.V.Versions.meaning c.args.api.now.base; told = g.C.Clock.told c.args.clock.now } in
    let p : Point = point_of g.V.Tool.Tool.faults c.loop-count.pass in
    let q : Point = point_of g.V.Tool.Tool.faults c.serve_one.new.pass in
    let number = same_number c.args.pass.now.view c.loop-count.pass.view 0 c.loop-count.invariant.same c.requires.number in
    let alone = alone_on c.args.pass.now.view c.loop-count.pass.view c.loop-count.invariant.same c.requires.alone in
    let quiet : (m : ℕ) → m ≢ 0 → items_of m q.seen ≡ items_of m p.seen = λ m other. c.in-ReadFault.ensures.quiet 0 number m other (inr alone) in
    let known : Option (List ℕ) = prepend_known c.loop-count.inbox.bytes (g.S.Source.left c.loop-count.input) in
    let left : Option (List ℕ) = prepend_known c.serve_one.new.inbox.bytes (g.S.Source.left c.serve_one.new.input) in
    let before : Option (List ℕ) = g.K.Sink.written c.loop-count.output in
    let written : Option (List ℕ) = g.K.Sink.written c.serve_one.new.output in
    let ended = unread_at f (MayRise g.V.Tool.Tool.faults) c.args.turns p q c.loop-count.worker.claim known left before written (λ rose. (c.loop-count.pass.tool, c.serve_one.new.pass.tool, rose)) quiet (c.in-ReadFault.ensures.did 0 number) in (
      record { log = items q.seen; claim = c.loop-count.worker.claim },
      c.in-ReadFault.ensures.of.legal.guards,
      broke_reading (AnswersAndWorks f (MayRise g.V.Tool.Tool.faults) c.args.turns) _ _ _ _ _ _ _ None _ _ _ c.loop-count.invariant.so_far c.loop-count.invariant.few ended,
      finished _ _ c.loop-count.invariant.paced (took g.S.Source.left g.K.Sink.written g.K.Sink.flushed g.S.Source.most ended
          c.in-ReadFault.ensures.ready c.in-ReadFault.ensures.prompt c.in-ReadFault.ensures.flushed c.loop-count.invariant.most),
    )

pub returns-in-WriteFault-clause-talk : goal.returns-in-WriteFault-clause-talk
returns-in-WriteFault-clause-talk g c =
    let f : Front = record { server = server_of g.V.Versions.meaning c.args.api.now.base; told = g.C.Clock.told c.args.clock.now } in
    let p : Point = point_of g.V.Tool.Tool.faults c.loop-count.pass in
    let q : Point = point_of g.V.Tool.Tool.faults c.serve_one.new.pass in
    let number = same_number c.args.pass.now.view c.loop-count.pass.view 0 c.loop-count.invariant.same c.requires.number in
    let alone = alone_on c.args.pass.now.view c.loop-count.pass.view c.loop-count.invariant.same c.requires.alone in
    let quiet : (m : ℕ) → m ≢ 0 → items_of m q.seen ≡ items_of m p.seen = λ m other. c.in-WriteFault.ensures.quiet 0 number m other (inr alone) in
    let known : Option (List ℕ) = prepend_known c.loop-count.inbox.bytes (g.S.Source.left c.loop-count.input) in
    let left : Option (List ℕ) = prepend_known c.serve_one.new.inbox.bytes (g.S.Source.left c.serve_one.new.input) in
    let before : Option (List ℕ) = g.K.Sink.written c.loop-count.output in
    let written : Option (List ℕ) = g.K.Sink.written c.serve_one.new.output in
    let after = broke_at f (MayRise g.V.Tool.Tool.faults) c.args.turns p q c.loop-count.worker.claim known left before written (λ rose. (c.loop-count.pass.tool, c.serve_one.new.pass.tool, rose)) quiet c.in-WriteFault.ensures.of.legal.guards (c.in-WriteFault.ensures.did 0 number) in (
      after.0,
      after.1,
      broke (AnswersAndWorks f (MayRise g.V.Tool.Tool.faults) c.args.turns) _ _ _ _ _ _ _ _ _ _ _ c.loop-count.invariant.so_far _ c.loop-count-test.true after.2,
      finished _ _ c.loop-count.invariant.paced (took g.S.Source.left g.K.Sink.written g.K.Sink.flushed g.S.Source.most after.2
          c.in-WriteFault.ensures.ready c.in-WriteFault.ensures.prompt tt c.loop-count.invariant.most),
    )

pub returns-clause-talk : goal.returns-clause-talk
returns-clause-talk g c = (
  record { log = items c.loop-count.pass.view.seen; claim = c.loop-count.worker.claim },
  c.loop-count.invariant.of.legal.guards,
  ended_spent _ _ _ (record { log = items c.loop-count.pass.view.seen; claim = c.loop-count.worker.claim }) (record { log = items c.loop-count.pass.view.seen; claim = c.loop-count.worker.claim }) _ _ _ None _ _ (g.K.Sink.written c.loop-count.output) c.loop-count.invariant.so_far (omega (arith, c.loop-count.invariant.few)),
  finished _ _ c.loop-count.invariant.paced (refl, refl),
)

pub returns-in-Last-clause-flushed : goal.returns-in-Last-clause-flushed
returns-in-Last-clause-flushed g c = λ first. c.in-Last.ensures.flushed

pub returns-in-Refused-clause-flushed : goal.returns-in-Refused-clause-flushed
returns-in-Refused-clause-flushed g c = λ first. c.in-Refused.ensures.flushed

pub returns-in-Closed-clause-flushed : goal.returns-in-Closed-clause-flushed
returns-in-Closed-clause-flushed g c = λ first. rw c.in-Closed.ensures.flushed (c.loop-count.invariant.flushed first)

pub returns-in-Torn-clause-flushed : goal.returns-in-Torn-clause-flushed
returns-in-Torn-clause-flushed g c = λ first. rw c.in-Torn.ensures.flushed (c.loop-count.invariant.flushed first)

pub returns-in-ReadFault-clause-flushed : goal.returns-in-ReadFault-clause-flushed
returns-in-ReadFault-clause-flushed g c = λ first. rw c.in-ReadFault.ensures.flushed (c.loop-count.invariant.flushed first)

pub returns-clause-flushed : goal.returns-clause-flushed
returns-clause-flushed g c = c.loop-count.invariant.flushed
