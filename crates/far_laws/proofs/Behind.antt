-- A server of a definition is behind its bytes.
use Rattle.std.proofs.Common.{◌≡◌, ◌∙◌, refl, sym, ap, subst, inl, inr, ℕ, true, List, [], Option, None, Some, Ok, Err, arith}
use Rattle.std.specs.Prelude.{◌⊎◌, IsUtf8}
use Rattle.kj_value.specs.Json.{Json}
use Rattle.kj_value.specs.Reading.{Reads}
use Rattle.kj_value.specs.Text.{text_of}
use Rattle.http_wire.specs.Head.{Request}
use Rattle.http_wire.specs.Response.{HasPhrase}
use Rattle.http_wire.specs.laws.PhraseLaws.{phrase-200, phrase-400, phrase-405, phrase-411, phrase-413, phrase-431, phrase-503}
use Rattle.wire_laws.specs.Sendable.{sent}
use Rattle.api_calls.specs.Calls as calls
use Rattle.api_calls.specs.Calls.{Comes, Decides, Failure, answered, converter, failure_refusal, no_memory}
use Rattle.api_calls.specs.Documents.{migration_list}
use Rattle.api_calls.specs.Item.{Item}
use Rattle.api_calls.specs.Legal.{In}
use Rattle.api_calls.specs.Meaning.{Meaning}
use Rattle.api_calls.specs.Refusal as refusal
use Rattle.api_calls.specs.Refusal.{RefusalView}
use Rattle.api_calls.specs.Replies as replies
use Rattle.api_calls.specs.Replies.{MigrationsReply, code_ok}
use Rattle.api_calls.specs.Reply.{ReplyView}
use Rattle.api_calls.specs.State.{state}
use Rattle.api_calls.specs.Status.{code_of_refusal}
use Rattle.http_routes.specs.Paths.{migration_group, migrations_word}
use Rattle.http_routes.specs.Routes as route
use Rattle.http_routes.specs.Routes.{Route, Routes}
use Rattle.request_replies.specs.Replies.{Front, RepliesToCall, Replies, RoutedReply, about, refusal_text, refused, replied}
use Rattle.request_replies.specs.declared.about.About.{About}
use Rattle.request_replies.specs.declared.about.About.TheVariants.{Migrations, Objects}
use Rattle.place.specs.Place.{Names}
use Rattle.wire_client.specs.Answers as client
use Rattle.wire_client.specs.Answers.{IsValue, form_fault, given, gone, has_details, success_of}
use Rattle.wire_client.specs.Calls.{Call, body_of, gets, lists, method_of, posts, puts, request_of, target_of}
use Rattle.wire_client.specs.Forms.{api_version, page_fault}
use Rattle.wire_client.specs.declared.buffer.TheConstants.{ANSWER_LEVELS}
use Rattle.far_laws.specs.Answering.{Answered, CameTo, Entered, IsBehind, IsCall, IsOfMigration, all_of}
use Rattle.far_laws.proofs.Decided.{IsRequest, decides_or, item_or, ok_code, replies as reply_of_decision}
use Rattle.far_laws.proofs.Keyed.{formed_given}
use Rattle.far_laws.proofs.PageForms.{OneReading, TextReads}
use Rattle.far_laws.specs.Speaking.{AnswersIt, AreNames, Speaks, head_codes, speaker}
use Rattle.far_laws.proofs.Asked.{IsAddressed, asked_is}
use Rattle.far_laws.proofs.Lists.{IsListed, list_gets, list_routed, migrations_no_page, of_migrations, of_objects, small_token}
use Rattle.far_laws.proofs.Objects.{get_routed, object_gets, object_puts, put_routed}
use Rattle.far_laws.proofs.Received.{given_nothing, given_says, gone_nothing, gone_says}
use Rattle.far_laws.proofs.Statuses.{Missing, missing, no_details, of_name, of_resource, refusal_not_ok, refusal_phrase}

success_is : (call : Call) → IsOfMigration call → success_of call ≡ 200
success_is (lists limit token) fits = refl
success_is (gets key) fits = refl
success_is (puts key j) fits = refl
success_is (posts ns j) fits = absurd fits

-- a head's code is neither success nor that of a name that isn't found
record IsOther (c : ℕ) : Type 0 where
  phrase : HasPhrase c
  not_ok : c ≡ 200 → ⊥
  not_missing : c ≡ 404 → ⊥

other_code : (c : ℕ) → In c head_codes → IsOther c
other_code c (inl is) = subst IsOther (sym is) (record { phrase = phrase-400; not_ok = λ e. omega (arith, e); not_missing = λ e. omega (arith, e) })
other_code c (inr (inl is)) = subst IsOther (sym is) (record { phrase = phrase-411; not_ok = λ e. omega (arith, e); not_missing = λ e. omega (arith, e) })
other_code c (inr (inr (inl is))) = subst IsOther (sym is) (record { phrase = phrase-413; not_ok = λ e. omega (arith, e); not_missing = λ e. omega (arith, e) })
other_code c (inr (inr (inr (inl is)))) = subst IsOther (sym is) (record { phrase = phrase-431; not_ok = λ e. omega (arith, e); not_missing = λ e. omega (arith, e) })
other_code c (inr (inr (inr (inr never)))) = absurd never

refusal_details : (m : Meaning) (subject : About) (text : List ℕ) (v : Option Json) → TextReads → OneReading → text ≡ refusal_text m subject refusal.no_resource → IsUtf8 text
    → IsValue text v → has_details v ≡ true → ⊥
unfolding refusal_text
refusal_details m Objects text v text_reads one_reading is utf8 value has = no_details m.plural m.group text v text_reads one_reading is utf8 value has
refusal_details m Migrations text v text_reads one_reading is utf8 value has = no_details migrations_word migration_group text v text_reads one_reading is utf8 value has

-- ---- a call on migrations

migrations_request : IsRequest calls.migrations
migrations_request = record { fails = λ f t h. h; no_work = λ claim e. cc }

-- the answer to it is a failure or the list
migrations_answer : (s : calls.Server) (stamp : List ℕ) (seen log : List Item) (c : calls.Call) (i : Option Item) (a : replies.Answer) → c ≡ calls.migrations
    → Comes s (Unit {0}) stamp seen log c (answered a) i
    → ((f : Failure) × (a ≡ Err (failure_refusal f))) ⊎ (a ≡ replies.said code_ok (text_of (migration_list s.meaning (state s.meaning log).migrations)))
migrations_answer s stamp seen log c i a is comes = by (decides_or s stamp seen log c calls.migrations (answered a) i a is refl migrations_request comes)
  where
    by : ((f : Failure) × (a ≡ Err (failure_refusal f))) ⊎ Decides s stamp log calls.migrations (answered a) i
        → ((f : Failure) × (a ≡ Err (failure_refusal f))) ⊎ (a ≡ replies.said code_ok (text_of (migration_list s.meaning (state s.meaning log).migrations)))
    by (inl failed) = inl failed
    by (inr h) = inr (reply_of_decision (MigrationsReply s.meaning (state s.meaning log)) a i h).0

module _ (f : Front) (n : Names) (names : AreNames n) (text_reads : TextReads) (one_reading : OneReading) where
  abbrev m : Meaning
  m = f.server.meaning

  -- ---- the request

  addressed : (call : Call) → IsOfMigration call → IsAddressed (method_of call) (target_of n call)
  addressed (lists limit token) fits = list_gets n names limit token fits.0 (small_token token fits.1)
  addressed (gets key) fits = object_gets n key names fits
  addressed (puts key j) fits = object_puts n key names fits
  addressed (posts ns j) fits = absurd fits

  abbrev asked : Call → Request
  asked call = sent (method_of call) (target_of n call) (body_of call)

  -- the call of a route is that of the client, or one on migrations
  data IsRouted (call : Call) (c : calls.Call) : Type 0 where
    the_call : IsCall f.server n call c → IsRouted call c
    the_migrations : (limit : ℕ) (token : List ℕ) → call ≡ lists limit token → c ≡ calls.migrations → IsRouted call c

  routed : (call : Call) (c : calls.Call) → IsOfMigration call → Routes m (method_of call) (target_of n call) (body_of call) (route.calls c) → IsRouted call c
  routed (lists limit token) c fits r = by (list_routed n names limit token fits.0 (small_token token fits.1) m [] c r)
    where
      by : IsListed n names limit token fits.0 (small_token token fits.1) m c → IsRouted (lists limit token) c
      by (of_objects v most from known goes is) = the_call (v, most, from, known, goes, is)
      by (of_migrations is) = the_migrations limit token refl is
  routed (gets key) c fits r = the_call (get_routed m n key [] c names fits r)
  routed (puts key j) c fits r = the_call (put_routed m n key j c names fits r)
  routed (posts ns j) c fits r = absurd fits

  -- ---- what is given

  given_came : (call : Call) (log own : List Item) (bytes : List ℕ) (j : Json) → IsOfMigration call → AnswersIt f log (request_of n call) bytes own
      → client.Replies n call (Some bytes) (given j) → CameTo f.server n call log own (given j)
  given_came call log own bytes j fits a r = by_reply (subst (λ (q : Request). Replies f (Unit {0}) a.seen log q a.reply a.item) is a.replies)
    where
      is : a.request ≡ asked call
      is = asked_is (method_of call) (target_of n call) (body_of call) a.rest a.request (addressed call fits) a.few a.reads

      Came : Type 0
      Came = CameTo f.server n call log own (given j)

      ok : HasPhrase a.reply.code → (a.reply.code ≡ 200) × Reads a.reply.text ANSWER_LEVELS j
      ok has =
          let told = given_says n call bytes a.reply.text a.reply.code j has a.short a.answer_is r in
          (told.0 ∙ success_is call fits, told.1)

      not_code : (c : ℕ) → HasPhrase c → (c ≡ 200 → ⊥) → a.reply.code ≡ c → ⊥
      not_code c has other same = other (sym same ∙ (ok (subst HasPhrase (sym same) has)).0)

      not_refused : (subject : About) (e : RefusalView) → a.reply ≡ refused m subject e → ⊥
      not_refused subject e same = not_code (code_of_refusal e) (refusal_phrase e) (refusal_not_ok e) (ap (λ (q : ReplyView). q.code) same)

      by_answer : (c : calls.Call) → IsCall f.server n call c → (rep : RepliesToCall f (Unit {0}) a.seen log c a.reply a.item) → (x : replies.Answer) → rep.answer ≡ x → Came
      by_answer c the_one rep (Ok v) given_ok =
          let same : a.reply ≡ v = rep.told ∙ ap (λ (x : replies.Answer). replied m (about c) x) given_ok in
          let comes : Comes f.server (Unit {0}) rep.stamp a.seen log c (answered (Ok v)) a.item =
          subst (λ (x : replies.Answer). Comes f.server (Unit {0}) rep.stamp a.seen log c (answered x) a.item) given_ok rep.comes in
          let coded : v.code ≡ 200 = ok_code f.server n call rep.stamp a.seen log c a.item v fits the_one comes in
          let told = ok (subst HasPhrase (sym (ap (λ (q : ReplyView). q.code) same ∙ coded)) phrase-200) in
          record {
            asked = c;
            is = the_one;
            stamp = rep.stamp;
            seen = a.seen;
            answer = Ok v;
            item = a.item;
            comes = comes;
            own_is = a.own_is;
            tells = (v, refl, subst (λ (q : ReplyView). Reads q.text ANSWER_LEVELS j) same told.1);
          }
      by_answer c the_one rep (Err e) refused_so = absurd (not_refused (about c) e (rep.told ∙ ap (λ (x : replies.Answer). replied m (about c) x) refused_so))

      no_page : (c : calls.Call) (limit : ℕ) (token : List ℕ) → call ≡ lists limit token → (rep : RepliesToCall f (Unit {0}) a.seen log c a.reply a.item)
          → rep.answer ≡ replies.said code_ok (text_of (migration_list m (state m log).migrations)) → ⊥
      no_page c limit token is_lists rep given_ok =
          let same : a.reply ≡ record { code = code_ok; text = text_of (migration_list m (state m log).migrations) } =
          rep.told ∙ ap (λ (x : replies.Answer). replied m (about c) x) given_ok in
          let told = ok (subst HasPhrase (sym (ap (λ (q : ReplyView). q.code) same)) phrase-200) in
          let form : form_fault (api_version n) call j ≡ None = formed_given (api_version n) call (client.reply_by_code (success_of call) r.0) j r.2 in
          let page : page_fault (api_version n) j ≡ None = subst (λ (q : Call). form_fault (api_version n) q j ≡ None) is_lists form in
          migrations_no_page m (state m log).migrations (api_version n) a.reply.text j text_reads one_reading (ap (λ (q : ReplyView). q.text) same) a.utf8 told.1 page

      no_list : (c : calls.Call) (limit : ℕ) (token : List ℕ) → call ≡ lists limit token → (rep : RepliesToCall f (Unit {0}) a.seen log c a.reply a.item)
          → ((fl : Failure) × (rep.answer ≡ Err (failure_refusal fl))) ⊎ (rep.answer ≡ replies.said code_ok (text_of (migration_list m (state m log).migrations))) → ⊥
      no_list c limit token is_lists rep (inl failed) =
          not_refused (about c) (failure_refusal failed.0) (rep.told ∙ ap (λ (x : replies.Answer). replied m (about c) x) failed.1)
      no_list c limit token is_lists rep (inr given_ok) = no_page c limit token is_lists rep given_ok

      by_call : (c : calls.Call) → IsRouted call c → RepliesToCall f (Unit {0}) a.seen log c a.reply a.item → Came
      by_call c (the_call the_one) rep = by_answer c the_one rep rep.answer refl
      by_call c (the_migrations limit token is_lists is_c) rep =
          absurd (no_list c limit token is_lists rep (migrations_answer f.server rep.stamp a.seen log c a.item rep.answer is_c rep.comes))

      by_route : (rt : Route) → Routes m (method_of call) (target_of n call) (body_of call) rt → RoutedReply f (Unit {0}) a.seen log rt a.reply a.item → Came
      by_route (route.calls c) routes rep = by_call c (routed call c fits routes) rep
      by_route route.no_resource routes rep = absurd (not_refused Objects refusal.no_resource rep.0)
      by_route route.method_not_allowed routes rep = absurd (not_code 405 phrase-405 (λ e. omega (arith, e)) (ap (λ (q : ReplyView). q.code) rep.0))
      by_route (route.bad_request why) routes rep = absurd (not_refused Objects (refusal.bad_request why) rep.0)

      by_reply : Replies f (Unit {0}) a.seen log (asked call) a.reply a.item → Came
      by_reply (inl exactly) = by_route exactly.route exactly.routes exactly.reply
      by_reply (inr wants) = absurd (not_code 503 phrase-503 (λ e. omega (arith, e)) (ap (λ (q : ReplyView). q.code) wants.0))

  gives_law : (call : Call) → IsOfMigration call → (log own : List Item) (j : Json) → Answered (speaker f) n call log own (given j) → CameTo f.server n call log own (given j)
  gives_law call fits log own j a = by a.answers
    where
      by : Speaks f log (request_of n call) a.bytes own → CameTo f.server n call log own (given j)
      by (inl it) = given_came call log own a.bytes j fits it a.replies
      by (inr (inl r)) =
          let other = other_code r.code r.coded in
          absurd (other.not_ok ((given_says n call a.bytes r.text r.code j other.phrase r.short r.answer_is a.replies).0 ∙ success_is call fits))
      by (inr (inr none)) = absurd (given_nothing n call j (subst (λ (b : List ℕ). client.Replies n call (Some b) (given j)) none.0 a.replies))

  -- ---- what is gone

  missed_came : (call : Call) (log own : List Item) (bytes : List ℕ) → IsOfMigration call → AnswersIt f log (request_of n call) bytes own
      → client.Replies n call (Some bytes) gone → CameTo f.server n call log own gone
  missed_came call log own bytes fits a r = by_reply (subst (λ (q : Request). Replies f (Unit {0}) a.seen log q a.reply a.item) is a.replies)
    where
      is : a.request ≡ asked call
      is = asked_is (method_of call) (target_of n call) (body_of call) a.rest a.request (addressed call fits) a.few a.reads

      Came : Type 0
      Came = CameTo f.server n call log own gone

      found : HasPhrase a.reply.code → (a.reply.code ≡ 404) × (v : Option Json) × IsValue a.reply.text v × (has_details v ≡ true)
      found has = gone_says n call bytes a.reply.text a.reply.code has a.short a.answer_is r

      not_code : (c : ℕ) → HasPhrase c → (c ≡ 404 → ⊥) → a.reply.code ≡ c → ⊥
      not_code c has other same = other (sym same ∙ (found (subst HasPhrase (sym same) has)).0)

      by_missing : (subject : About) (e : RefusalView) → Missing e → a.reply ≡ refused m subject e → HasPhrase a.reply.code → (name : List ℕ) × (e ≡ refusal.not_found name)
      by_missing subject _ (of_name name) same has = (name, refl)
      by_missing subject _ of_resource same has =
          let told = found has in
          absurd (refusal_details m subject a.reply.text told.1 text_reads one_reading (ap (λ (q : ReplyView). q.text) same) a.utf8 told.2 told.3)

      named : (subject : About) (e : RefusalView) → a.reply ≡ refused m subject e → (name : List ℕ) × (e ≡ refusal.not_found name)
      named subject e same =
          let code_is : a.reply.code ≡ code_of_refusal e = ap (λ (q : ReplyView). q.code) same in
          let has = subst HasPhrase (sym code_is) (refusal_phrase e) in
          by_missing subject e (missing e (sym code_is ∙ (found has).0)) same has

      by_answer : (c : calls.Call) → IsCall f.server n call c → (rep : RepliesToCall f (Unit {0}) a.seen log c a.reply a.item) → (x : replies.Answer) → rep.answer ≡ x → Came
      by_answer c the_one rep (Ok v) given_ok =
          let same : a.reply ≡ v = rep.told ∙ ap (λ (x : replies.Answer). replied m (about c) x) given_ok in
          let comes : Comes f.server (Unit {0}) rep.stamp a.seen log c (answered (Ok v)) a.item =
          subst (λ (x : replies.Answer). Comes f.server (Unit {0}) rep.stamp a.seen log c (answered x) a.item) given_ok rep.comes in
          let coded : v.code ≡ 200 = ok_code f.server n call rep.stamp a.seen log c a.item v fits the_one comes in
          absurd (not_code 200 phrase-200 (λ e. omega (arith, e)) (ap (λ (q : ReplyView). q.code) same ∙ coded))
      by_answer c the_one rep (Err e) refused_so =
          let name = named (about c) e (rep.told ∙ ap (λ (x : replies.Answer). replied m (about c) x) refused_so) in
          record {
            asked = c;
            is = the_one;
            stamp = rep.stamp;
            seen = a.seen;
            answer = rep.answer;
            item = a.item;
            comes = rep.comes;
            own_is = a.own_is;
            tells = (name.0, refused_so ∙ ap (λ (x : RefusalView). let y : replies.Answer = Err x in y) name.1);
          }

      no_failure : (fl : Failure) (name : List ℕ) → failure_refusal fl ≡ refusal.not_found name → ⊥
      no_failure no_memory name e = cc
      no_failure converter name e = cc

      no_list : (c : calls.Call) → (rep : RepliesToCall f (Unit {0}) a.seen log c a.reply a.item)
          → ((fl : Failure) × (rep.answer ≡ Err (failure_refusal fl))) ⊎ (rep.answer ≡ replies.said code_ok (text_of (migration_list m (state m log).migrations))) → ⊥
      no_list c rep (inl failed) =
          let name = named (about c) (failure_refusal failed.0) (rep.told ∙ ap (λ (x : replies.Answer). replied m (about c) x) failed.1) in
          no_failure failed.0 name.0 name.1
      no_list c rep (inr given_ok) =
          let same : a.reply ≡ record { code = code_ok; text = text_of (migration_list m (state m log).migrations) } =
          rep.told ∙ ap (λ (x : replies.Answer). replied m (about c) x) given_ok in
          not_code 200 phrase-200 (λ e. omega (arith, e)) (ap (λ (q : ReplyView). q.code) same)

      by_call : (c : calls.Call) → IsRouted call c → RepliesToCall f (Unit {0}) a.seen log c a.reply a.item → Came
      by_call c (the_call the_one) rep = by_answer c the_one rep rep.answer refl
      by_call c (the_migrations limit token is_lists is_c) rep = absurd (no_list c rep (migrations_answer f.server rep.stamp a.seen log c a.item rep.answer is_c rep.comes))

      no_resource_named : (name : List ℕ) → refusal.no_resource ≡ refusal.not_found name → ⊥
      no_resource_named name e = cc

      by_route : (rt : Route) → Routes m (method_of call) (target_of n call) (body_of call) rt → RoutedReply f (Unit {0}) a.seen log rt a.reply a.item → Came
      by_route (route.calls c) routes rep = by_call c (routed call c fits routes) rep
      by_route route.no_resource routes rep = let name = named Objects refusal.no_resource rep.0 in absurd (no_resource_named name.0 name.1)
      by_route route.method_not_allowed routes rep = absurd (not_code 405 phrase-405 (λ e. omega (arith, e)) (ap (λ (q : ReplyView). q.code) rep.0))
      by_route (route.bad_request why) routes rep = absurd (not_code 400 phrase-400 (λ e. omega (arith, e)) (ap (λ (q : ReplyView). q.code) rep.0))

      by_reply : Replies f (Unit {0}) a.seen log (asked call) a.reply a.item → Came
      by_reply (inl exactly) = by_route exactly.route exactly.routes exactly.reply
      by_reply (inr wants) = absurd (not_code 503 phrase-503 (λ e. omega (arith, e)) (ap (λ (q : ReplyView). q.code) wants.0))

  misses_law : (call : Call) → IsOfMigration call → (log own : List Item) → Answered (speaker f) n call log own gone → CameTo f.server n call log own gone
  misses_law call fits log own a = by a.answers
    where
      by : Speaks f log (request_of n call) a.bytes own → CameTo f.server n call log own gone
      by (inl it) = missed_came call log own a.bytes fits it a.replies
      by (inr (inl r)) =
          let other = other_code r.code r.coded in
          absurd (other.not_missing (gone_says n call a.bytes r.text r.code other.phrase r.short r.answer_is a.replies).0)
      by (inr (inr none)) = absurd (gone_nothing n call (subst (λ (b : List ℕ). client.Replies n call (Some b) gone) none.0 a.replies))

  -- ---- what is entered

  nothing_by : (own : List Item) (i : Option Item) → own ≡ all_of i → i ≡ None → own ≡ []
  nothing_by own i is none = is ∙ ap all_of none

  entered_by : (call : Call) (log own : List Item) (bytes : List ℕ) → IsOfMigration call → AnswersIt f log (request_of n call) bytes own → (own ≡ []) ⊎ Entered f.server n call log own
  entered_by call log own bytes fits a = by_reply (subst (λ (q : Request). Replies f (Unit {0}) a.seen log q a.reply a.item) is a.replies)
    where
      is : a.request ≡ asked call
      is = asked_is (method_of call) (target_of n call) (body_of call) a.rest a.request (addressed call fits) a.few a.reads

      Enters : Type 0
      Enters = (own ≡ []) ⊎ Entered f.server n call log own

      by_call : (c : calls.Call) → IsRouted call c → RepliesToCall f (Unit {0}) a.seen log c a.reply a.item → Enters
      by_call c (the_call the_one) rep =
          inr (record { asked = c; is = the_one; stamp = rep.stamp; seen = a.seen; answer = rep.answer; item = a.item; comes = rep.comes; own_is = a.own_is })
      by_call c (the_migrations limit token is_lists is_c) rep = by_item (item_or f.server rep.stamp a.seen log c calls.migrations (answered rep.answer) a.item rep.answer is_c refl rep.comes)
        where
          by_item : (a.item ≡ None) ⊎ Decides f.server rep.stamp log calls.migrations (answered rep.answer) a.item → Enters
          by_item (inl none) = inl (nothing_by own a.item a.own_is none)
          by_item (inr h) = inl (nothing_by own a.item a.own_is (reply_of_decision (MigrationsReply m (state m log)) rep.answer a.item h).1)

      by_route : (rt : Route) → Routes m (method_of call) (target_of n call) (body_of call) rt → RoutedReply f (Unit {0}) a.seen log rt a.reply a.item → Enters
      by_route (route.calls c) routes rep = by_call c (routed call c fits routes) rep
      by_route route.no_resource routes rep = inl (nothing_by own a.item a.own_is rep.1)
      by_route route.method_not_allowed routes rep = inl (nothing_by own a.item a.own_is rep.1)
      by_route (route.bad_request why) routes rep = inl (nothing_by own a.item a.own_is rep.1)

      by_reply : Replies f (Unit {0}) a.seen log (asked call) a.reply a.item → Enters
      by_reply (inl exactly) = by_route exactly.route exactly.routes exactly.reply
      by_reply (inr wants) = inl (nothing_by own a.item a.own_is wants.1)

  enters_law : (call : Call) → IsOfMigration call → (log own : List Item) (bytes : List ℕ) → Speaks f log (request_of n call) bytes own → (own ≡ []) ⊎ Entered f.server n call log own
  enters_law call fits log own bytes (inl it) = entered_by call log own bytes fits it
  enters_law call fits log own bytes (inr (inl r)) = inl r.nothing
  enters_law call fits log own bytes (inr (inr none)) = inl none.1

  pub is_behind : IsBehind f.server n (speaker f)
  is_behind = record { gives = gives_law; misses = misses_law; enters = enters_law }
