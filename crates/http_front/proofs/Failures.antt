-- How many answers tell that the converter failed.
use Rattle.std.proofs.Common.{◌≡◌, ◌+◌, ◌<◌, ◌≤◌, ℕ, Bool, true, false, List, [], ◌∷◌, ◌++◌, Option, inl, inr, refl, ap, ◌∙◌, sym, arith}
use Rattle.std.specs.Prelude.{nat_eq, if◌then◌else◌}
use Rattle.std.proofs.lemmas.Bool.Decides.{nat_tests}
use Rattle.http_wire.specs.Head.{Request}
use Rattle.api_calls.specs.Calls.{answered}
use Rattle.api_calls.specs.Item.{Item, items}
use Rattle.api_calls.specs.Refusal as refusal
use Rattle.api_calls.specs.Reply.{ReplyView}
use Rattle.api_calls.specs.Status.{code_bad_gateway}
use Rattle.http_routes.specs.Routes.{Route}
use Rattle.http_routes.specs.Routes as route
use Rattle.request_replies.specs.Replies.{Front, RoutedReply, about, no_method, refused, replied, wants_memory}
use Rattle.request_replies.specs.declared.about.About.TheVariants.{Objects}
use Rattle.http_front.specs.Steps.{Point, StepAnswers}
use Rattle.http_front.specs.Talk.{Exchange, Steps}
use Rattle.http_front.specs.Failures.{failures}
use Rattle.http_front.proofs.Sound.{comes_fair, told_502}

code_is : (a b : ReplyView) → a ≡ b → a.code ≡ code_bad_gateway → b.code ≡ code_bad_gateway
code_is a b one is = ap (λ (x : ReplyView). x.code) (sym one) ∙ is

routed_502 : (f : Front) (rose : Type 0) (seen log : List Item) (r : Route) (a : ReplyView) (i : Option Item)
    → RoutedReply f rose seen log r a i → a.code ≡ code_bad_gateway → rose
routed_502 f rose seen log (route.calls c) a i reply is =
    told_502 f.server.meaning (about c) rose reply.answer i
    (comes_fair f.server rose reply.stamp seen log c (answered reply.answer) i reply.comes) (code_is a (replied f.server.meaning (about c) reply.answer) reply.told is)
routed_502 f rose seen log route.no_resource a i reply is =
    let e : 404 ≡ 502 = code_is a (refused f.server.meaning Objects refusal.no_resource) reply.0 is in absurd (omega (arith, e))
routed_502 f rose seen log route.method_not_allowed a i reply is = let e : 405 ≡ 502 = code_is a no_method reply.0 is in absurd (omega (arith, e))
routed_502 f rose seen log (route.bad_request why) a i reply is =
    let e : 400 ≡ 502 = code_is a (refused f.server.meaning Objects (refusal.bad_request why)) reply.0 is in absurd (omega (arith, e))

pub step_502 : (f : Front) (n : ℕ) (p q : Point) (r : Request) (a : ReplyView) → StepAnswers f n p r a q → a.code ≡ code_bad_gateway → p.faults < q.faults
step_502 f n p q r a step is = elim step.replies [
  | inl exact ↦ routed_502 f (p.faults < q.faults) (items p.seen) (items (p.seen ++ step.others)) exact.route a step.item exact.reply is
  | inr wants ↦ let e : 503 ≡ 502 = code_is a wants_memory wants.0 is in absurd (omega (arith, e))
]

number : (i j : ℕ) → nat_eq i j ≡ true → i ≡ j
number i j h = grind (arith, nat_tests)

-- one step
one_more : (b : Bool) (before mid after more : ℕ) → before ≤ mid → (b ≡ true → before < mid) → more + mid ≤ after → (if b then 1 else 0) + more + before ≤ after
one_more true before mid after more later rose rest = let strict = rose refl in omega (arith, strict, rest)
one_more false before mid after more later rose rest = omega (arith, later, rest)

pub few_failures : (f : Front) (n : ℕ) (s t : Point) (xs : List Exchange) → Steps (StepAnswers f n) s xs t → failures xs + s.faults ≤ t.faults
unfolding Steps failures
few_failures f n s t [] steps = let e : t.faults ≡ s.faults = ap (λ (p : Point). p.faults) steps in omega (arith, e)
few_failures f n s t (x ∷ xs) steps =
    one_more (nat_eq x.answer.code code_bad_gateway) s.faults steps.0.faults t.faults (failures xs) steps.1.faults
    (λ yes. step_502 f n s steps.0 x.request x.answer steps.1 (number x.answer.code code_bad_gateway yes))
    (few_failures f n steps.0 t xs steps.2)
