-- A step of a connection that asks for closing is an answer of the server of bytes.
use Rattle.std.proofs.Common.{◌≡◌, ◌∙◌, refl, sym, ap, subst, inl, inr, ℕ, ◌+◌, ◌<◌, ◌≤◌, ◌^◌, Bool, true, false, List, [], ◌∷◌, ◌++◌, map, length, Option, None, Some, codes, decimal, append_assoc, append-nil, length-append, arith}
use Rattle.std.specs.Prelude.{◌⊎◌, IsUtf8}
use Rattle.std.proofs.lemmas.List.{map-append}
use Rattle.http_wire.specs.Head.{Reads, Request}
use Rattle.http_wire.specs.Response.{last_lines, length_field, says, status_line, type_field}
use Rattle.api_calls.specs.Calls.{Call, Comes, Server, Told, decided, lost, moved, not_converted, wants_memory}
use Rattle.api_calls.specs.Item.{Item, Logged, items}
use Rattle.api_calls.specs.Reply.{ReplyView}
use Rattle.http_routes.specs.Routes as route
use Rattle.http_routes.specs.Routes.{Route}
use Rattle.request_replies.specs.Replies.{Front, Replies, RepliesToCall, RoutedReply}
use Rattle.http_front.specs.One.{AnswersOne, BreaksAnswer, Did}
use Rattle.http_front.specs.Steps.{Point, StepAnswers, added}
use Rattle.http_front.specs.declared.one.OneEnd.{OneEnd}
use Rattle.http_front.specs.declared.one.OneEnd.TheVariants.{Answered, Closed, Last, ReadFault, Refused, Torn, WriteFault}
use Rattle.wire_client.specs.Far.{Served}
use Rattle.far_laws.specs.Answering.{all_of}
use Rattle.far_laws.specs.Speaking.{IsShort, Speaks, speaker}

-- ---- whatever the tool's faults

comes_anyhow : (s : Server) (rose : Type 0) (stamp : List ℕ) (seen log : List Item) (c : Call) (t : Told) (i : Option Item) → Comes s rose stamp seen log c t i
    → Comes s (Unit {0}) stamp seen log c t i
comes_anyhow s rose stamp seen log _ _ _ (decided c t i h) = decided c t i h
comes_anyhow s rose stamp seen log _ _ _ (wants_memory c t h) = wants_memory c t h
comes_anyhow s rose stamp seen log _ _ _ (not_converted c t why converts h) = not_converted c t tt converts h
comes_anyhow s rose stamp seen log _ _ _ (moved claim h) = moved claim h
comes_anyhow s rose stamp seen log _ _ _ (lost claim h) = lost claim h

routed_anyhow : (f : Front) (rose : Type 0) (seen log : List Item) (r : Route) (a : ReplyView) (i : Option Item) → RoutedReply f rose seen log r a i → RoutedReply f (Unit {0}) seen log r a i
routed_anyhow f rose seen log (route.calls c) a i h =
    record { stamp = h.stamp; answer = h.answer; may = h.may; told = h.told; comes = comes_anyhow f.server rose h.stamp seen log c _ i h.comes }
routed_anyhow f rose seen log route.no_resource a i h = h
routed_anyhow f rose seen log route.method_not_allowed a i h = h
routed_anyhow f rose seen log (route.bad_request why) a i h = h

replies_anyhow : (f : Front) (rose : Type 0) (seen log : List Item) (r : Request) (a : ReplyView) (i : Option Item) → Replies f rose seen log r a i → Replies f (Unit {0}) seen log r a i
replies_anyhow f rose seen log r a i (inl h) = inl (record { route = h.route; routes = h.routes; reply = routed_anyhow f rose seen log h.route a i h.reply })
replies_anyhow f rose seen log r a i (inr h) = inr h

-- ---- the history

items_append : (xs ys : List Logged) → items (xs ++ ys) ≡ items xs ++ items ys
items_append [] ys = refl
items_append (x ∷ xs) ys = ap (λ (is : List Item). x.item ∷ is) (items_append xs ys)

items_added : (n : ℕ) (log : List Logged) (i : Option Item) → items (added n log i) ≡ all_of i
items_added n log None = refl
items_added n log (Some i) = refl

-- where a step leads
step_items : (f : Front) (n : ℕ) (p q : Point) (r : Request) (a : ReplyView) → (s : StepAnswers f n p r a q)
    → items q.seen ≡ (items p.seen ++ items s.others) ++ all_of s.item
step_items f n p q r a s =
    ap items s.seen ∙ items_append (p.seen ++ s.others) (added n (p.seen ++ s.others) s.item)
    ∙ ap (λ (is : List Item). is ++ items (added n (p.seen ++ s.others) s.item)) (items_append p.seen s.others)
    ∙ ap (λ (is : List Item). (items p.seen ++ items s.others) ++ is) (items_added n (p.seen ++ s.others) s.item)

step_goes : (f : Front) (n : ℕ) (p q : Point) (r : Request) (a : ReplyView) → StepAnswers f n p r a q → (more : List Item) × (items q.seen ≡ items p.seen ++ more)
step_goes f n p q r a s = (items s.others ++ all_of s.item, step_items f n p q r a s ∙ append_assoc (items p.seen) (items s.others) (all_of s.item))

stays : (p q : Point) → q ≡ p → (more : List Item) × (items q.seen ≡ items p.seen ++ more)
stays p q same = ([], ap (λ (z : Point). items z.seen) same ∙ sym (append-nil (items p.seen)))

-- however a step ends, the history goes on
pub goes_on : (f : Front) (n : ℕ) (end : OneEnd) (p q : Point) (known left before written : Option (List ℕ)) → Did (StepAnswers f n) end p q known left before written
    → (more : List Item) × (items q.seen ≡ items p.seen ++ more)
goes_on f n Answered p q known left before written d = step_goes f n p q d.exchange.request d.exchange.answer d.step
goes_on f n Last p q known left before written d = step_goes f n p q d.exchange.request d.exchange.answer d.step
goes_on f n Closed p q known left before written d = stays p q d.same
goes_on f n (Torn held) p q known left before written d = stays p q d.same
goes_on f n (Refused fault) p q known left before written d = stays p q d.same
goes_on f n ReadFault p q known left before written d = stays p q d.0
goes_on f n WriteFault p q known left before written (inl d) = step_goes f n p q d.exchange.request d.exchange.answer d.step
goes_on f n WriteFault p q known left before written (inr d) = stays p q d.same

-- ---- the answer

text_within : (code : ℕ) (text : List ℕ) (closing : Bool) → length text ≤ length (says code text closing)
unfolding says
text_within code text closing = simp length-append (omega arith)

some_one : (a b : List ℕ) → Some a ≡ Some b → a ≡ b
some_one a b e = cc

-- a request that asked for closing was answered as the server of bytes answers
pub last_speaks : (f : Front) (n : ℕ) (p q : Point) (bytes answer : List ℕ) (left : Option (List ℕ)) → Did (StepAnswers f n) Last p q (Some bytes) left (Some []) (Some answer)
    → IsShort bytes → IsShort answer → Served (speaker f) (items p.seen) bytes answer (items q.seen)
last_speaks f n p q bytes answer left d few short =
    let x = d.exchange in
    let s = d.step in
    let r = d.reads bytes refl in
    let written : answer ≡ says x.answer.code x.answer.text x.request.closing = some_one answer (says x.answer.code x.answer.text x.request.closing) d.wrote in
    let said : answer ≡ says x.answer.code x.answer.text true = written ∙ ap (λ (b : Bool). says x.answer.code x.answer.text b) d.asked in
    let within = text_within x.answer.code x.answer.text true in
    let long : length answer ≡ length (says x.answer.code x.answer.text true) = ap (λ (b : List ℕ). length b) said in
    let here : Replies f (Unit {0}) (items p.seen) (items (p.seen ++ s.others)) x.request x.answer s.item =
    replies_anyhow f (p.faults < q.faults) (items p.seen) (items (p.seen ++ s.others)) x.request x.answer s.item s.replies in
    record {
      others = items s.others;
      own = all_of s.item;
      answers = inl (record {
        request = x.request;
        rest = r.0;
        reads = r.2;
        few = few;
        closing = d.asked;
        seen = items p.seen;
        reply = x.answer;
        item = s.item;
        replies = subst (λ (log : List Item). Replies f (Unit {0}) (items p.seen) log x.request x.answer s.item) (items_append p.seen s.others) here;
        utf8 = x.utf8;
        short = omega (arith, within, long, short);
        answer_is = said;
        own_is = refl;
      });
      next_is = step_items f n p q x.request x.answer s;
    }

-- ---- whatever the clock tells

-- the same server, of whose clock nothing is told
abbrev pub untold : Front → Front
untold f = record { server = f.server; told = None }

routed_untold : (f : Front) (seen log : List Item) (r : Route) (a : ReplyView) (i : Option Item) → RoutedReply f (Unit {0}) seen log r a i → RoutedReply (untold f) (Unit {0}) seen log r a i
routed_untold f seen log (route.calls c) a i h = record { stamp = h.stamp; answer = h.answer; may = (tt, h.may.1); told = h.told; comes = h.comes }
routed_untold f seen log route.no_resource a i h = h
routed_untold f seen log route.method_not_allowed a i h = h
routed_untold f seen log (route.bad_request why) a i h = h

replies_untold : (f : Front) (seen log : List Item) (r : Request) (a : ReplyView) (i : Option Item) → Replies f (Unit {0}) seen log r a i → Replies (untold f) (Unit {0}) seen log r a i
replies_untold f seen log r a i (inl h) = inl (record { route = h.route; routes = h.routes; reply = routed_untold f seen log h.route a i h.reply })
replies_untold f seen log r a i (inr h) = inr h

speaks_untold : (f : Front) (log : List Item) (bytes answer : List ℕ) (own : List Item) → Speaks f log bytes answer own → Speaks (untold f) log bytes answer own
speaks_untold f log bytes answer own (inl h) = inl (record {
  request = h.request;
  rest = h.rest;
  reads = h.reads;
  few = h.few;
  closing = h.closing;
  seen = h.seen;
  reply = h.reply;
  item = h.item;
  replies = replies_untold f h.seen log h.request h.reply h.item h.replies;
  utf8 = h.utf8;
  short = h.short;
  answer_is = h.answer_is;
  own_is = h.own_is;
})
speaks_untold f log bytes answer own (inr h) = inr h

pub served_untold : (f : Front) (log : List Item) (bytes answer : List ℕ) (next : List Item) → Served (speaker f) log bytes answer next → Served (speaker (untold f)) log bytes answer next
served_untold f log bytes answer next h =
    record { others = h.others; own = h.own; answers = speaks_untold f (log ++ h.others) bytes answer h.own h.answers; next_is = h.next_is }
