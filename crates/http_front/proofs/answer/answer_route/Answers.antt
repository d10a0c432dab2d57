use Rattle.std.proofs.Common.{refl, inl}
use Rattle.http_wire.specs.laws.PhraseLaws.{phrase-405}
use Rattle.http_routes.specs.Routes as route
use Rattle.http_routes.specs.Views.{call_view}
use Rattle.api_calls.specs.Cause.{why_of}
use Rattle.shared_api.specs.Base.{server_of}
use Rattle.http_front.proofs.Calling.{coded, comes_call, comes_still, comes_nowhere, comes_bad}
use Rattle.http_front.proofs.answer.answer_route.Goals as goal

pub told-requires : goal.told-requires
told-requires g c =
    coded (server_of g.V.Versions.meaning c.args.api.now.base) _ c.make_call-came.ensures.calls.0 _ _ (call_view c.in-Calls.call) c.make_call-came.result c.make_call-came.ensures.calls.2

pub returns-in-Calls-clause-comes : goal.returns-in-Calls-clause-comes
returns-in-Calls-clause-comes g c = λ n named.
    rw c.in-Calls.is
    (comes_call _ _ n c.make_call-came.ensures.calls.0 _ _ (call_view c.in-Calls.call) c.make_call-came.result _ named
    c.make_call-came.ensures.calls.1 c.make_call-came.ensures.calls.2 (rw (c.versions.ensures, c.about_of-about.ensures) at c.told.ensures.tells))

pub returns-in-NoResource-clause-comes : goal.returns-in-NoResource-clause-comes
returns-in-NoResource-clause-comes g c = λ n named.
    rw c.in-NoResource.is (comes_nowhere _ _ n _ _ (rw c.versions-in-NoResource.ensures at c.refused_by.ensures.tells))

pub returns-in-MethodNotAllowed-clause-comes : goal.returns-in-MethodNotAllowed-clause-comes
returns-in-MethodNotAllowed-clause-comes g c = λ n named.
    rw c.in-MethodNotAllowed.is (comes_still _ _ n _ route.method_not_allowed _ (inl (refl, refl)))

pub returns-in-MethodNotAllowed-clause-phrase : goal.returns-in-MethodNotAllowed-clause-phrase
returns-in-MethodNotAllowed-clause-phrase g c = phrase-405

pub returns-in-BadRequest-clause-comes : goal.returns-in-BadRequest-clause-comes
returns-in-BadRequest-clause-comes g c = λ n named.
    rw c.in-BadRequest.is (comes_bad _ _ n _ _ (why_of c.in-BadRequest.why) (rw c.versions-in-BadRequest.ensures at c.refused_by-in-BadRequest.ensures.tells))
