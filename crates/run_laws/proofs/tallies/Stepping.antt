-- A step of a connection that asks for closing, in which the tool has no fault, is an answer of a server that replies.
use Rattle.std.proofs.Common.{◌≡◌, ◌∙◌, refl, ap, subst, inl, inr, ℕ, ◌<◌, ◌≤◌, Bool, true, List, [], ◌∷◌, ◌++◌, length, Option, None, Some, length-append, arith}
use Rattle.http_wire.specs.Head.{Request}
use Rattle.http_wire.specs.Response.{says}
use Rattle.api_calls.specs.Calls.{Call, Comes, Server, Told, decided, lost, moved, not_converted, wants_memory}
use Rattle.api_calls.specs.Item.{Item, Logged, items}
use Rattle.api_calls.specs.Reply.{ReplyView}
use Rattle.http_routes.specs.Routes as route
use Rattle.http_routes.specs.Routes.{Route}
use Rattle.request_replies.specs.Replies.{Front, Replies, RoutedReply}
use Rattle.http_front.specs.One.{Did}
use Rattle.http_front.specs.Steps.{Point, StepAnswers, added}
use Rattle.http_front.specs.declared.one.OneEnd.TheVariants.{Last}
use Rattle.http_front.proofs.Failures.{step_502}
use Rattle.wire_client.specs.Far.{Served}
use Rattle.far_laws.specs.Answering.{all_of}
use Rattle.far_laws.specs.Speaking.{AnswersIt, IsShort}
use Rattle.run_laws.specs.Replying.{replying}

-- ---- what holds whatever the tool's faults

comes_anyhow : (s : Server) (rose : Type 0) (stamp : List ℕ) (seen log : List Item) (c : Call) (t : Told) (i : Option Item) → Comes s rose stamp seen log c t i
    → Comes s (Unit {0}) stamp seen log c t i
comes_anyhow s rose stamp seen log _ _ _ (decided c t i h) = decided c t i h
comes_anyhow s rose stamp seen log _ _ _ (wants_memory c t h) = wants_memory c t h
comes_anyhow s rose stamp seen log _ _ _ (not_converted c t why converts h) = not_converted c t tt converts h
comes_anyhow s rose stamp seen log _ _ _ (moved claim h) = moved claim h
comes_anyhow s rose stamp seen log _ _ _ (lost claim h) = lost claim h

routed_anyhow : (f : Front) (rose : Type 0) (seen log : List Item) (r : Route) (a : ReplyView) (i : Option Item) → RoutedReply f rose seen log r a i → RoutedReply f (Unit {0}) seen log r a i
routed_anyhow f rose seen log (route.calls c) a i h =
    record { stamp = h.stamp; answer = h.answer; may = h.may; told = h.told; comes = comes_anyhow f.server rose h.stamp seen log c _ i h.comes }
routed_anyhow f rose seen log route.no_resource a i h = h
routed_anyhow f rose seen log route.method_not_allowed a i h = h
routed_anyhow f rose seen log (route.bad_request why) a i h = h

replies_anyhow : (f : Front) (rose : Type 0) (seen log : List Item) (r : Request) (a : ReplyView) (i : Option Item) → Replies f rose seen log r a i → Replies f (Unit {0}) seen log r a i
replies_anyhow f rose seen log r a i (inl h) = inl (record { route = h.route; routes = h.routes; reply = routed_anyhow f rose seen log h.route a i h.reply })
replies_anyhow f rose seen log r a i (inr h) = inr h

-- ---- the history

items_append : (xs ys : List Logged) → items (xs ++ ys) ≡ items xs ++ items ys
items_append [] ys = refl
items_append (x ∷ xs) ys = ap (λ (is : List Item). x.item ∷ is) (items_append xs ys)

items_added : (n : ℕ) (log : List Logged) (i : Option Item) → items (added n log i) ≡ all_of i
items_added n log None = refl
items_added n log (Some i) = refl

-- where a step leads
step_items : (f : Front) (n : ℕ) (p q : Point) (r : Request) (a : ReplyView) → (s : StepAnswers f n p r a q)
    → items q.seen ≡ (items p.seen ++ items s.others) ++ all_of s.item
step_items f n p q r a s =
    ap items s.seen ∙ items_append (p.seen ++ s.others) (added n (p.seen ++ s.others) s.item)
    ∙ ap (λ (is : List Item). is ++ items (added n (p.seen ++ s.others) s.item)) (items_append p.seen s.others)
    ∙ ap (λ (is : List Item). (items p.seen ++ items s.others) ++ is) (items_added n (p.seen ++ s.others) s.item)

-- ---- the answer

text_within : (code : ℕ) (text : List ℕ) (closing : Bool) → length text ≤ length (says code text closing)
unfolding says
text_within code text closing = simp length-append (omega arith)

some_one : (a b : List ℕ) → Some a ≡ Some b → a ≡ b
some_one a b e = cc

-- a request that asked for closing was answered as a server answers that replies, where the tool's count of faults didn't rise
pub last_replies : (f : Front) (n : ℕ) (p q : Point) (bytes answer : List ℕ) (left : Option (List ℕ)) → Did (StepAnswers f n) Last p q (Some bytes) left (Some []) (Some answer)
    → IsShort bytes → IsShort answer → q.faults ≤ p.faults → Served (replying f) (items p.seen) bytes answer (items q.seen)
last_replies f n p q bytes answer left d few short calm =
    let x = d.exchange in
    let s = d.step in
    let r = d.reads bytes refl in
    let written : answer ≡ says x.answer.code x.answer.text x.request.closing = some_one answer (says x.answer.code x.answer.text x.request.closing) d.wrote in
    let said : answer ≡ says x.answer.code x.answer.text true = written ∙ ap (λ (b : Bool). says x.answer.code x.answer.text b) d.asked in
    let within = text_within x.answer.code x.answer.text true in
    let long : length answer ≡ length (says x.answer.code x.answer.text true) = ap (λ (b : List ℕ). length b) said in
    let here : Replies f (Unit {0}) (items p.seen) (items (p.seen ++ s.others)) x.request x.answer s.item =
    replies_anyhow f (p.faults < q.faults) (items p.seen) (items (p.seen ++ s.others)) x.request x.answer s.item s.replies in
    let it : AnswersIt f (items p.seen ++ items s.others) bytes answer (all_of s.item) = record {
      request = x.request;
      rest = r.0;
      reads = r.2;
      few = few;
      closing = d.asked;
      seen = items p.seen;
      reply = x.answer;
      item = s.item;
      replies = subst (λ (log : List Item). Replies f (Unit {0}) (items p.seen) log x.request x.answer s.item) (items_append p.seen s.others) here;
      utf8 = x.utf8;
      short = omega (arith, within, long, short);
      answer_is = said;
      own_is = refl;
    } in
    record {
      others = items s.others;
      own = all_of s.item;
      answers = (it, λ failed. (let rose = step_502 f n p q x.request x.answer s failed in omega (arith, rose, calm)));
      next_is = step_items f n p q x.request x.answer s;
    }
