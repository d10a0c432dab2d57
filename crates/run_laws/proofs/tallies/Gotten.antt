-- What a server of a definition may reply to the gets of a migration.
use Rattle.std.proofs.Common.{◌≡◌, ◌∙◌, refl, sym, ap, subst, inl, inr, ℕ, ◌≤◌, Bool, true, false, List, [], length, Option, None, Some, Ok, Err, codes, arith}
use Rattle.std.specs.Prelude.{IsUtf8, MatchBool, MatchOption}
use Rattle.kj_value.specs.Json.{Json}
use Rattle.kj_value.specs.Text.{text_of}
use Rattle.kube_meta.specs.Document.{document}
use Rattle.kube_meta.specs.Key.{KeyView}
use Rattle.kube_meta.specs.View.{ObjectView}
use Rattle.kube_meta.specs.declared.limits.Limits.{Limits}
use Rattle.api_calls.specs.Calls as calls
use Rattle.api_calls.specs.Documents.{numbered}
use Rattle.api_calls.specs.Item.{Item}
use Rattle.api_calls.specs.Legal.{key_of}
use Rattle.api_calls.specs.Meaning.{Meaning}
use Rattle.api_calls.specs.Objects.{Stored, find}
use Rattle.api_calls.specs.Refusal as refusal
use Rattle.api_calls.specs.Replies as replies
use Rattle.api_calls.specs.Replies.{GetReply, ShowsObject, code_ok}
use Rattle.api_calls.specs.Reply.{ReplyView}
use Rattle.api_calls.specs.State.{served, state}
use Rattle.api_calls.specs.laws.ObjectLaws.{each-find}
use Rattle.api_calls.proofs.Tokens.{name_fits}
use Rattle.http_wire.specs.declared.limits.TheConstants.{MOST_BODY_BYTES}
use Rattle.http_routes.specs.Actions.{IsVersion}
use Rattle.http_routes.specs.Paths.{IsKey}
use Rattle.http_routes.specs.Routes.{Route}
use Rattle.request_replies.specs.Replies.{Front, RoutedReply, replied}
use Rattle.request_replies.specs.declared.about.About.TheVariants.{Objects}
use Rattle.place.specs.Place.{Names}
use Rattle.wire_client.specs.Answers.{Reply, code, given, gone}
use Rattle.wire_client.specs.Calls.{at_key, gets}
use Rattle.wire_client.specs.Forms.{api_version, object_fault, this_one}
use Rattle.far_laws.specs.Answering.{Answered, GoesOn}
use Rattle.far_laws.proofs.Decided.{get_request, replies as reply_of}
use Rattle.far_laws.proofs.Paging.{IsKnown}
use Rattle.far_laws.proofs.Values.{find_key}
use Rattle.far_laws.specs.Speaking.{front}
use Rattle.far_laws.proofs.Asked.{IsAddressed}
use Rattle.far_laws.proofs.Objects.{object_gets}
use Rattle.run_laws.specs.Replying.{MayReply, replying}
use Rattle.run_laws.proofs.tallies.Documents.{object_fit}
use Rattle.run_laws.proofs.tallies.Formed.{object_form}
use Rattle.run_laws.proofs.tallies.Holding.{Facts, IsReady, group_few, plural_few, ready_at}
use Rattle.run_laws.proofs.tallies.RefusalSizes.{memory_few, missing_few, unserved_few}
use Rattle.run_laws.proofs.tallies.Routed.{IsRouteOf, calls_it, get_route}
use Rattle.run_laws.proofs.tallies.Sizes.{shown_few}
use Rattle.run_laws.proofs.tallies.Spelled.{IsSpelled}
use Rattle.run_laws.proofs.tallies.Taken.{Came, Decided, Takes, came, came_routed, came_starved, decided, decided_so, decided_starved, memory_long, refused_long, told_code, told_given, told_memory, told_missing, told_unserved}

module _ (m : Meaning) (limits : Limits) (boot : ℕ) (clock : Option (List ℕ)) (n : Names) (last : List Item) (facts : Facts m limits boot clock n last) where
  abbrev f : Front
  f = front m limits boot clock

  abbrev k : IsKnown m limits boot n (replying f) last
  k = facts.known

  module _ (key : KeyView) (valid : IsKey key) (log own : List Item) (to : GoesOn log last) (r : Reply) (a : Answered (replying f) n (gets key) log own r) where
    addressed : IsAddressed (codes "GET") (at_key n key)
    addressed = object_gets n key facts.names valid

    abbrev reply : ReplyView
    reply = a.answers.0.reply

    -- what may be replied, and that the object's text is UTF-8
    abbrev May : Reply → Type 0
    May q = MayReply m n log (gets key) q × IsSpelled q

    abbrev Result : Type 0
    Result = May r

    took : (q : Reply) → length reply.text ≤ MOST_BODY_BYTES → May q → Takes f n k.text_reads k.one_reading (gets key) addressed refl log own r a q → Result
    took q few may (inl much) = let many = much.0 in absurd (omega (arith, many, few))
    took q few may (inr is) = subst (λ (s : Reply). May s) (sym is) may

    shown : (v : ℕ) (e : Stored) → IsVersion m n.version v → find key (state m log).objects ≡ Some e → (answer : replies.Answer) → reply ≡ replied m Objects answer
        → ShowsObject m boot code_ok v e.h e.number e.born answer → Result
    shown v e version there (Ok w) same shows =
        let ready : IsReady m e = each-find (IsReady m) key (state m log).objects e (ready_at m limits boot clock n last facts log to) there in
        let held = ready.held in
        let x : ObjectView = shows.1.0 in
        let pairs = shows.1.1 k.honest in
        let j : Json = document (numbered boot e.number e.born x) in
        let fit = object_fit m k.stand k.honest boot e.number e.born v e.h x version.0 held.whole pairs in
        let levels = fit.levels in
        let own_key : key_of e.h ≡ key = held.key ∙ find_key key (state m log).objects e there in
        let form : object_fault (api_version n) (this_one key) j ≡ None =
        subst (λ (q : KeyView). object_fault (api_version n) (this_one q) j ≡ None) own_key
        (object_form m k.stand k.keeps k.honest n facts.place.group boot e.number e.born v e.h x version held.whole (subst IsKey (sym own_key) valid) pairs ready.few) in
        let utf8 : IsUtf8 (text_of j) = subst (λ (b : List ℕ). IsUtf8 b) (ap (λ (q : ReplyView). q.text) same ∙ shows.1.2) a.answers.0.utf8 in
        let text : length reply.text ≡ length (text_of j) = ap (λ (q : ReplyView). length q.text) same ∙ ap (λ (b : List ℕ). length b) shows.1.2 in
        let short = shown_few m boot e.number e.born v e.weight ready.count e.h x k.stand facts.ignores facts.one version.0 held.whole pairs held.weighs ready.held.light ready.counts ready.few in
        took (given j) (omega (arith, text, short)) (tt, utf8) (told_given f n k.text_reads k.one_reading (gets key) addressed refl log own r a w j same shows.0 shows.1.2 fit.sound (omega (arith, levels)) form)
    shown v e version there (Err x) same shows = absurd shows

    missed : (answer : replies.Answer) → reply ≡ replied m Objects answer → answer ≡ Err (refusal.not_found key.name) → Result
    missed answer same is =
        let told : reply ≡ replied m Objects (Err (refusal.not_found key.name)) = same ∙ ap (λ (y : replies.Answer). replied m Objects y) is in
        let text = refused_long f n k.text_reads k.one_reading (gets key) addressed refl log own r a (refusal.not_found key.name) told in
        let short = missing_few key.name m.plural m.group (plural_few m limits boot clock n last facts) (group_few m limits boot clock n last facts) (name_fits key.name valid.name) in
        took gone (omega (arith, text, short)) (tt, tt) (told_missing f n k.text_reads k.one_reading (gets key) addressed refl log own r a key.name told)

    unserved : (v : ℕ) → IsVersion m n.version v → served (state m log).flags v ≡ false → (answer : replies.Answer) → reply ≡ replied m Objects answer → answer ≡ Err refusal.no_resource → Result
    unserved v version off answer same is =
        let told : reply ≡ replied m Objects (Err refusal.no_resource) = same ∙ ap (λ (y : replies.Answer). replied m Objects y) is in
        let text = refused_long f n k.text_reads k.one_reading (gets key) addressed refl log own r a refusal.no_resource told in
        let short = unserved_few m.plural m.group in
        took (code 404) (omega (arith, text, short)) (inr (refl, record { v = v; version = version; off = off }), tt)
        (told_unserved f n k.text_reads k.one_reading (gets key) addressed refl log own r a told)

    by_found : (v : ℕ) → IsVersion m n.version v → (answer : replies.Answer) → reply ≡ replied m Objects answer → (o : Option Stored) → find key (state m log).objects ≡ o
        → MatchOption o (answer ≡ Err (refusal.not_found key.name)) (λ e. ShowsObject m boot code_ok v e.h e.number e.born answer) → Result
    by_found v version answer same None there is = missed answer same is
    by_found v version answer same (Some e) there shows = shown v e version there answer same shows

    by_served : (v : ℕ) → IsVersion m n.version v → (answer : replies.Answer) → reply ≡ replied m Objects answer → (b : Bool) → served (state m log).flags v ≡ b
        → MatchBool b (MatchOption (find key (state m log).objects) (answer ≡ Err (refusal.not_found key.name)) (λ e. ShowsObject m boot code_ok v e.h e.number e.born answer))
        (answer ≡ Err refusal.no_resource) → Result
    by_served v version answer same true on h = by_found v version answer same (find key (state m log).objects) refl h
    by_served v version answer same false off h = unserved v version off answer same h

    by_decision : (v : ℕ) → IsVersion m n.version v → Decided f n k.text_reads k.one_reading (gets key) addressed refl log own r a (calls.get v key) → Result
    by_decision v version (decided_so stamp answer same decides) =
        let h = reply_of (GetReply m boot (state m log) v key) answer a.answers.0.item decides in
        by_served v version answer same (served (state m log).flags v) refl h.1
    by_decision v version (decided_starved same) =
        let text = refused_long f n k.text_reads k.one_reading (gets key) addressed refl log own r a refusal.no_memory same in
        let short = memory_few m.plural m.group in
        took (code 503) (omega (arith, text, short)) (inl refl, tt)
        (told_code f n k.text_reads k.one_reading (gets key) addressed refl log own r a refusal.no_memory same (λ e. omega (arith, e)))

    by_route : (rt : Route) → IsRouteOf m n (λ v. calls.get v key) rt → RoutedReply f (Unit {0}) a.answers.0.seen log rt reply a.answers.0.item → Result
    by_route _ (calls_it v version) rep =
        by_decision v version (decided f n k.text_reads k.one_reading (gets key) addressed refl log own r a (calls.get v key) refl (get_request v key) rep)

    pub get_law : Result
    get_law = by (came f n k.text_reads k.one_reading (gets key) addressed refl log own r a)
      where
        by : Came f n k.text_reads k.one_reading (gets key) addressed refl log own r a → Result
        by (came_routed rt routes rep) = by_route rt (get_route m n facts.names facts.place key valid [] rt routes) rep
        by (came_starved same) =
            let text = memory_long f n k.text_reads k.one_reading (gets key) addressed refl log own r a same in
            let short = memory_few [] [] in
            took (code 503) (omega (arith, text, short)) (inl refl, tt) (told_memory f n k.text_reads k.one_reading (gets key) addressed refl log own r a same)
