-- What a client takes the replies of a server for.
use Rattle.std.proofs.Common.{◌≡◌, ◌∙◌, refl, ap, subst, inl, inr, ℕ, ◌≤◌, true, List, None, Err, arith, length, []}
use Rattle.std.specs.Prelude.{◌⊎◌}
use Rattle.kj_value.specs.Json.{Json, depth}
use Rattle.kj_value.specs.Sound.{IsSoundJson}
use Rattle.kj_value.specs.Text.{text_of}
use Rattle.http_wire.specs.Head.{Request}
use Rattle.http_wire.specs.Response.{says}
use Rattle.http_wire.specs.laws.PhraseLaws.{phrase-200, phrase-404}
use Rattle.wire_laws.specs.Sendable.{sent}
use Rattle.api_calls.specs.Calls as calls
use Rattle.api_calls.specs.Calls.{Comes, Decides, Failure, answered, converter, failure_refusal, no_memory}
use Rattle.api_calls.specs.Item.{Item}
use Rattle.api_calls.specs.Meaning.{Meaning}
use Rattle.api_calls.specs.Refusal as refusal
use Rattle.api_calls.specs.Refusal.{RefusalView}
use Rattle.api_calls.specs.Replies as replies
use Rattle.api_calls.specs.Reply.{ReplyView}
use Rattle.api_calls.specs.Status.{code_of_refusal, status_of}
use Rattle.http_routes.specs.Routes.{Route, Routes}
use Rattle.request_replies.specs.Replies.{Front, Replies, RepliesToCall, RoutedReply, about, refusal_text, refused, replied, no_memory_text, wants_memory}
use Rattle.request_replies.specs.declared.about.About.TheVariants.{Objects}
use Rattle.place.specs.Place.{Names}
use Rattle.wire_client.specs.Answers.{Reply, code, form_fault, given, gone, success_of}
use Rattle.wire_client.specs.Calls.{Call, body_of, method_of, request_of, target_of}
use Rattle.wire_client.specs.Forms.{api_version}
use Rattle.wire_client.specs.declared.buffer.TheConstants.{ANSWER_LEVELS}
use Rattle.far_laws.specs.Answering.{Answered}
use Rattle.far_laws.proofs.Decided.{IsRequest, decides_or}
use Rattle.far_laws.proofs.PageForms.{OneReading, TextReads}
use Rattle.far_laws.specs.Speaking.{AnswersIt}
use Rattle.far_laws.proofs.Asked.{IsAddressed, asked_is}
use Rattle.far_laws.proofs.Statuses.{no_details, refusal_not_ok, refusal_phrase}
use Rattle.run_laws.specs.Replying.{replying}
use Rattle.run_laws.proofs.tallies.Missing.{missing_details}
use Rattle.run_laws.proofs.tallies.Said.{TooMuch, said_code, said_given, said_gone, said_unfound}

module _ (f : Front) (n : Names) (text_reads : TextReads) (one_reading : OneReading) (call : Call) (addressed : IsAddressed (method_of call) (target_of n call)) (success : success_of call ≡ 200)
    (log own : List Item) (r : Reply) (a : Answered (replying f) n call log own r) where
  abbrev m : Meaning
  m = f.server.meaning

  abbrev x : AnswersIt f log (request_of n call) a.bytes own
  x = a.answers.0

  -- the client takes the reply for this, where it isn't too much
  abbrev pub Takes : Reply → Type 0
  Takes q = TooMuch x.reply.text r ⊎ (r ≡ q)

  said_so : (c : ℕ) → x.reply.code ≡ c → a.bytes ≡ says c x.reply.text true
  said_so c is = x.answer_is ∙ ap (λ (d : ℕ). says d x.reply.text true) is

  -- ---- how long it is

  pub refused_long : (e : RefusalView) → x.reply ≡ refused m Objects e → length x.reply.text ≡ length (text_of (status_of e m.plural m.group))
  unfolding refusal_text
  refused_long e same = ap (λ (q : ReplyView). length q.text) same

  pub memory_long : x.reply ≡ wants_memory → length x.reply.text ≡ length (text_of (status_of refusal.no_memory [] []))
  unfolding no_memory_text
  memory_long same = ap (λ (q : ReplyView). length q.text) same

  -- ---- a refusal

  pub told_code : (e : RefusalView) → x.reply ≡ refused m Objects e → (code_of_refusal e ≡ 404 → ⊥) → Takes (code (code_of_refusal e))
  told_code e same other =
      said_code n call a.bytes x.reply.text (code_of_refusal e) r (refusal_phrase e) x.short (said_so (code_of_refusal e) (ap (λ (q : ReplyView). q.code) same))
      (λ is. refusal_not_ok e (is ∙ success)) other a.replies

  pub told_memory : x.reply ≡ wants_memory → Takes (code 503)
  told_memory same =
      said_code n call a.bytes x.reply.text 503 r (refusal_phrase refusal.no_memory) x.short (said_so 503 (ap (λ (q : ReplyView). q.code) same))
      (λ is. refusal_not_ok refusal.no_memory (is ∙ success)) (λ is. omega (arith, is)) a.replies

  pub told_unserved : x.reply ≡ refused m Objects refusal.no_resource → Takes (code 404)
  unfolding refusal_text
  told_unserved same =
      said_unfound n call a.bytes x.reply.text r phrase-404 x.short (said_so 404 (ap (λ (q : ReplyView). q.code) same)) success
      (λ v value has. no_details m.plural m.group x.reply.text v text_reads one_reading (ap (λ (q : ReplyView). q.text) same) x.utf8 value has) a.replies

  pub told_missing : (name : List ℕ) → x.reply ≡ refused m Objects (refusal.not_found name) → Takes gone
  unfolding refusal_text
  told_missing name same =
      said_gone n call a.bytes x.reply.text r phrase-404 x.short (said_so 404 (ap (λ (q : ReplyView). q.code) same)) success
      (λ v value. missing_details m.plural m.group name x.reply.text v text_reads one_reading (ap (λ (q : ReplyView). q.text) same) x.utf8 value) a.replies

  -- ---- a success

  pub told_given : (v : ReplyView) (j : Json) → x.reply ≡ v → v.code ≡ 200 → v.text ≡ text_of j → IsSoundJson j → depth j ≤ ANSWER_LEVELS → form_fault (api_version n) call j ≡ None → Takes (given j)
  told_given v j same ok spelled sound levels form =
      said_given n call a.bytes x.reply.text r j phrase-200 x.short (said_so 200 (ap (λ (q : ReplyView). q.code) same ∙ ok)) success
      text_reads one_reading sound levels x.utf8 (ap (λ (q : ReplyView). q.text) same ∙ spelled) form a.replies

  -- ---- by the route

  -- the route of the request and its reply, or memory is wanted
  pub data Came : Type 0 where
    came_routed : (rt : Route) → Routes m (method_of call) (target_of n call) (body_of call) rt → RoutedReply f (Unit {0}) x.seen log rt x.reply x.item → Came
    came_starved : x.reply ≡ wants_memory → Came

  pub came : Came
  came = by (subst (λ (q : Request). Replies f (Unit {0}) x.seen log q x.reply x.item) is x.replies)
    where
      is : x.request ≡ sent (method_of call) (target_of n call) (body_of call)
      is = asked_is (method_of call) (target_of n call) (body_of call) x.rest x.request addressed x.few x.reads

      by : Replies f (Unit {0}) x.seen log (sent (method_of call) (target_of n call) (body_of call)) x.reply x.item → Came
      by (inl exactly) = came_routed exactly.route exactly.routes exactly.reply
      by (inr wants) = came_starved wants.0

  -- ---- by the call

  -- the reply is that of what is decided, or memory is wanted
  pub data Decided (c : calls.Call) : Type 0 where
    decided_so : (stamp : List ℕ) (answer : replies.Answer) → x.reply ≡ replied m Objects answer → Decides f.server stamp log c (answered answer) x.item → Decided c
    decided_starved : x.reply ≡ refused m Objects refusal.no_memory → Decided c

  pub decided : (c : calls.Call) → about c ≡ Objects → IsRequest c → RepliesToCall f (Unit {0}) x.seen log c x.reply x.item → Decided c
  decided c subject is_request rep = by (decides_or f.server rep.stamp x.seen log c c (answered rep.answer) x.item rep.answer refl refl is_request rep.comes)
    where
      told : x.reply ≡ replied m Objects rep.answer
      told = rep.told ∙ ap (λ s. replied m s rep.answer) subject

      failed : (fl : Failure) → x.reply ≡ refused m Objects (failure_refusal fl) → Decided c
      failed no_memory same = decided_starved same
      failed converter same = absurd (a.answers.1 (ap (λ (q : ReplyView). q.code) same))

      by : ((fl : Failure) × (rep.answer ≡ Err (failure_refusal fl))) ⊎ Decides f.server rep.stamp log c (answered rep.answer) x.item → Decided c
      by (inl h) = failed h.0 (told ∙ ap (λ (y : replies.Answer). replied m Objects y) h.1)
      by (inr h) = decided_so rep.stamp rep.answer told h
