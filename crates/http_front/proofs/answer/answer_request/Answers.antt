use Rattle.http_wire.specs.Inboxes.{request_at}
use Rattle.http_wire.specs.laws.PhraseLaws.{phrase-503}
use Rattle.http_routes.specs.Views.{route_of}
use Rattle.http_front.specs.Going.{answer_of}
use Rattle.http_front.proofs.Calling.{answers, answers_wanting, may_route}
use Rattle.http_front.proofs.answer.answer_request.Goals as goal

pub answer_route-requires-clause-may : goal.answer_route-requires-clause-may
answer_route-requires-clause-may g c =
    may_route _ c.part-method.result.now c.part-target.result.now c.part-body.result.now (route_of c.in-Ok.route) (rw c.versions.ensures at c.in-Ok.ensures)

pub returns-in-Ok-clause-quiet : goal.returns-in-Ok-clause-quiet
returns-in-Ok-clause-quiet g c = λ n named. (c.answer_route.ensures.comes n named).goes.quiet

pub returns-in-Ok-clause-answers : goal.returns-in-Ok-clause-answers
returns-in-Ok-clause-answers g c = λ n named.
    answers _ n c.args.pass.now.view c.answer_route.new.pass.view _ _ (request_at c.args.inbox.now.bytes c.args.parts) (route_of c.in-Ok.route) (answer_of c.answer_route.result)
    c.answer_route.ensures.rises (rw (c.versions.ensures, c.part-method.ensures, c.part-target.ensures, c.part-body.ensures) at c.in-Ok.ensures)
    (c.answer_route.ensures.comes n named)

pub returns-in-Err-clause-answers : goal.returns-in-Err-clause-answers
returns-in-Err-clause-answers g c = λ n named.
    answers_wanting _ n c.args.pass.now.view _ (request_at c.args.inbox.now.bytes c.args.parts)

pub returns-in-Err-clause-phrase : goal.returns-in-Err-clause-phrase
returns-in-Err-clause-phrase g c = phrase-503
