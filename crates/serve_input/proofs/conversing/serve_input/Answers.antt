use Rattle.std.proofs.Common.{ap}
use Rattle.serve_input.specs.Conversed.{MayRise}
use Rattle.serve_input.proofs.Opened.{first_alone, first_number, opened, opened_paced}
use Rattle.serve_input.proofs.conversing.serve_input.Goals as goal

pub converse-end-requires-clause-number : goal.converse-end-requires-clause-number
converse-end-requires-clause-number g c = first_number _ _ c.in_ok-api.ensures.new

pub converse-end-requires-clause-alone : goal.converse-end-requires-clause-alone
converse-end-requires-clause-alone g c = first_alone _ _ c.in_ok-api.ensures.new

pub returns-clause-talk : goal.returns-clause-talk
returns-clause-talk g c = λ b left.
    let talk = c.converse-end.ensures.talk in
    opened g.V.Versions.meaning c.in_ok-api.api c.in_ok-api.pass.view c.args.versions
    (record { boot = c.args.boot; told = g.C.Clock.told c.args.clock.now }) (MayRise g.V.Tool.Tool.faults) c.args.turns b
    (g.S.Source.left c.args.input.now) (g.K.Sink.written c.args.output.now) (g.K.Sink.written c.converse-end.new.output) c.converse-end.result talk.0
    c.in_ok-api.ensures.base c.in_ok-api.ensures.new left talk.1 talk.2

pub returns-clause-paced : goal.returns-clause-paced
returns-clause-paced g c =
    let talk = c.converse-end.ensures.talk in
    opened_paced g.V.Versions.meaning c.in_ok-api.api c.in_ok-api.pass.view c.args.versions
    (record { boot = c.args.boot; told = g.C.Clock.told c.args.clock.now }) (MayRise g.V.Tool.Tool.faults) c.args.turns _ _ _ c.converse-end.result talk.0
    c.in_ok-api.ensures.base c.in_ok-api.ensures.new (ap (λ i. i.bytes) c.in_ok-inbox.ensures) talk.3
