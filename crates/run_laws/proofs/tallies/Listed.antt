-- What a server of a definition may reply to the lists of a migration.
use Rattle.run_laws.proofs.tallies.Sizes.{shown_few}
use Rattle.run_laws.proofs.tallies.RefusalSizes.{expired_few, memory_few, unserved_few}
use Rattle.run_laws.proofs.tallies.PageSizes.{IsOneFew, floor_few, page_few}
use Rattle.far_laws.proofs.Keyed.{valid_token}
use Rattle.http_wire.specs.declared.limits.TheConstants.{MOST_BODY_BYTES}
use Rattle.kube_meta.specs.View.{ObjectView}
use Rattle.api_calls.proofs.Tokens.{name_fits, namespace_fits}
use Rattle.api_calls.specs.Versions.{IgnoresStamps, IsOneToOne, Stand}
use Rattle.std.proofs.Common.{◌≡◌, ◌∙◌, refl, sym, ap, subst, inl, inr, ℕ, zero, suc, ◌-◌, ◌<◌, ◌≤◌, ◌^◌, Bool, true, false, not, List, [], ◌∷◌, length, take, filter, Option, None, Some, Ok, Err, nat_eq, nat_lt, codes, arith, length-append, ◌++◌}
use Rattle.std.specs.Prelude.{◌⊎◌, ◌&&◌, IsUtf8, cond, if◌then◌else◌, IsTrue}
use Rattle.std.proofs.lemmas.Bool.Decides.{nat_tests}
use Rattle.kj_value.specs.Json.{Json}
use Rattle.kj_value.specs.Text.{text_of}
use Rattle.kube_meta.specs.Key.{KeyView}
use Rattle.kube_meta.specs.Page.{Page, bound_after, in_namespace, listed, page_of}
use Rattle.kube_meta.specs.Plan.{passed}
use Rattle.kube_meta.specs.declared.limits.Limits.{Limits}
use Rattle.api_calls.specs.Calls as calls
use Rattle.api_calls.specs.Calls.{Decides, answered}
use Rattle.api_calls.specs.Documents.{object_list, group_version}
use Rattle.api_calls.specs.Item.{Item}
use Rattle.api_calls.specs.Legal.{Each}
use Rattle.api_calls.specs.Meaning.{Meaning}
use Rattle.api_calls.specs.Objects.{Stored, object_key}
use Rattle.api_calls.specs.Pages as page
use Rattle.api_calls.specs.Pages.{Place, page_decision, place_page}
use Rattle.api_calls.specs.Refusal as refusal
use Rattle.api_calls.specs.Replies as replies
use Rattle.api_calls.specs.Replies.{IsList, ListReply, Pages, next_token, AreShown, last_token}
use Rattle.api_calls.specs.Reply.{ReplyView}
use Rattle.api_calls.specs.Snap.{floor, page_at, snap}
use Rattle.api_calls.specs.State.{revision, served, state}
use Rattle.api_calls.specs.Token.{IsToken, token_text}
use Rattle.http_routes.specs.Actions.{IsVersion}
use Rattle.http_routes.specs.Queries as query
use Rattle.http_routes.specs.Routes.{Route}
use Rattle.request_replies.specs.Replies.{Front, RepliesToCall, RoutedReply, replied, wants_memory}
use Rattle.request_replies.specs.declared.about.About.TheVariants.{Objects}
use Rattle.place.specs.Place.{Names}
use Rattle.wire_client.specs.Answers.{Reply, code, given}
use Rattle.wire_client.specs.Calls.{lists, target_of}
use Rattle.wire_client.specs.Forms.{api_version, page_fault}
use Rattle.far_migrate.specs.Pages.{Run, first_limit, objects_of}
use Rattle.far_laws.specs.Answering.{Answered, GoesOn, IsTold}
use Rattle.far_laws.proofs.Decided.{IsRequest, replies as reply_of}
use Rattle.far_laws.proofs.Histories.{few_before, few_entries, first_from, goes_further, goes_nowhere, next_from, small_before}
use Rattle.far_laws.proofs.Listing.{snap_later}
use Rattle.far_laws.proofs.Paging.{IsKnown}
use Rattle.far_laws.specs.Speaking.{AreNames, front}
use Rattle.far_laws.proofs.Asked.{IsAddressed}
use Rattle.far_laws.proofs.Lists.{list_gets, small_token}
use Rattle.run_laws.specs.Reached.{IsAt, IsWithin, begun, within}
use Rattle.run_laws.specs.Replying.{IsPlaceOf, MayReply, replying}
use Rattle.run_laws.proofs.tallies.Documents.{page_readable}
use Rattle.run_laws.proofs.tallies.Formed.{page_form}
use Rattle.run_laws.proofs.tallies.Holding.{all_named, Facts, IsReady, all_held, ready_at}
use Rattle.run_laws.proofs.tallies.Routed.{IsListCall, IsListRoute, list_route, lists_it}
use Rattle.run_laws.proofs.tallies.Spelled.{AreSpelled, AreTexts, page_objects, page_texts}
use Rattle.run_laws.proofs.tallies.Taken.{Came, Decided, Takes, came, came_routed, came_starved, decided, decided_so, decided_starved, told_code, told_given, told_memory, told_unserved, memory_long, refused_long}

-- ---- a page of objects

each_taken : (P : Stored → Type 0) (k : ℕ) (xs : List Stored) → Each P xs → Each P (take k xs)
each_taken P zero xs all = tt
each_taken P (suc k) [] all = tt
each_taken P (suc k) (x ∷ xs) all = (all.0, each_taken P k xs all.1)

each_chosen : (P : Stored → Type 0) (test : Stored → Bool) (xs : List Stored) → Each P xs → Each P (filter test xs)
each_chosen P test [] all = tt
each_chosen P test (x ∷ xs) all = by (test x) (each_chosen P test xs all.1)
  where
    by : (b : Bool) → Each P (filter test xs) → Each P (cond b (x ∷ filter test xs) (filter test xs))
    by true more = (all.0, more)
    by false more = more

few_chosen : (test : Stored → Bool) (xs : List Stored) → length (filter test xs) ≤ length xs
few_chosen test [] = omega arith
few_chosen test (x ∷ xs) = by (test x) (few_chosen test xs)
  where
    by : (b : Bool) → length (filter test xs) ≤ length xs → length (cond b (x ∷ filter test xs) (filter test xs)) ≤ length (x ∷ xs)
    by true more = omega (arith, more)
    by false more = omega (arith, more)

-- such a page: its objects, its number, how many are left, and that it has one object at most where one is asked for
record IsCut (P : Stored → Type 0) (number most limit : ℕ) (p : Page Stored) : Type 0 where
  items : Each P p.items
  number_is : p.number ≡ number
  few : p.remaining ≤ most
  one : limit ≡ 1 → length p.items ≤ 1

one_taken : (xs : List Stored) → length (take 1 xs) ≤ 1
one_taken [] = omega arith
one_taken (x ∷ xs) = omega arith

page_cut : (P : Stored → Type 0) (number limit : ℕ) (xs : List Stored) → Each P xs → IsCut P number (length xs) limit (page_of number limit xs)
page_cut P number limit xs all = by (nat_eq limit 0) refl
  where
    by : (b : Bool) → nat_eq limit 0 ≡ b → IsCut P number (length xs) limit
        (if b then record { number = number; items = xs; remaining = 0 } else record { number = number; items = take limit xs; remaining = length xs - limit })
    by true none = record { items = all; number_is = refl; few = omega arith; one = λ is. absurd (grind (arith, nat_tests)) }
    by false some = record {
      items = each_taken P limit xs all;
      number_is = refl;
      few = omega arith;
      one = λ is. subst (λ (k : ℕ). length (take k xs) ≤ 1) (sym is) (one_taken xs);
    }

-- of the objects at the number of a history before
at_cut : (P : Stored → Type 0) (m : Meaning) (start log : List Item) (after : Option KeyView) (limit : ℕ) → snap m log (revision start) ≡ (state m start).objects → Each P (state m start).objects
    → IsCut P (revision start) (length (state m start).objects) limit (page_at m log None after (revision start) limit)
at_cut P m start log after limit same all =
    let test : Stored → Bool = λ x. in_namespace None x.key && not (passed (bound_after after) x.key) in
    let xs = listed object_key None after (snap m log (revision start)) in
    let here : Each P (snap m log (revision start)) = subst (λ (ys : List Stored). Each P ys) (sym same) all in
    let cut = page_cut P (revision start) limit xs (each_chosen P test (snap m log (revision start)) here) in
    let few = few_chosen test (snap m log (revision start)) in
    let less = cut.few in
    let long : length (snap m log (revision start)) ≡ length (state m start).objects = ap (λ (ys : List Stored). length ys) same in
    record { items = cut.items; number_is = cut.number_is; few = omega (arith, few, less, long); one = cut.one }

-- the token of a page of one object at most is short
token_few : (m : Meaning) (number : ℕ) (es : List Stored) (b : Bool) → number < 2 ^ 64 → Each (IsReady m) es → length es ≤ 1 → length (if b then [] else last_token number es) ≤ 1_000
token_few m number es true few ready one = omega arith
token_few m number [] false few ready one = omega arith
token_few m number (e ∷ []) false few ready one =
    (small_token (token_text number e.key) (inr (record { number = number; key = e.key; token = valid_token number e.key few ready.0.held.valid; spelled = refl }))).long
token_few m number (e ∷ g ∷ es) false few ready one = absurd (omega (arith, one))

-- and so is its object's text
one_few : (m : Meaning) (boot v : ℕ) (es : List Stored) (js : List Json) → Stand m → IgnoresStamps m → IsOneToOne m → IsTrue m.honest → v < m.count → Each (IsReady m) es → length es ≤ 1
    → AreShown m boot v es js → IsOneFew js
one_few m boot v [] [] stand ignores one honest known ready few shown = tt
one_few m boot v [] (j ∷ js) stand ignores one honest known ready few shown = absurd shown
one_few m boot v (e ∷ es) [] stand ignores one honest known ready few shown = absurd shown
one_few m boot v (e ∷ []) (j ∷ []) stand ignores one honest known ready few shown =
    let x : ObjectView = shown.0.0 in
    let h = ready.0 in
    subst (λ (k : Json). length (text_of k) ≤ 263_000) (sym shown.0.2)
    (shown_few m boot e.number e.born v e.weight h.count e.h x stand ignores one known h.held.whole (shown.0.1 honest) h.held.weighs h.held.light h.counts h.few)
one_few m boot v (e ∷ []) (j ∷ i ∷ js) stand ignores one honest known ready few shown = absurd shown.1
one_few m boot v (e ∷ g ∷ es) (j ∷ js) stand ignores one honest known ready few shown = absurd (omega (arith, few))

version_few : (m : Meaning) (n : Names) (v : ℕ) → AreNames n → IsPlaceOf m n → IsVersion m n.version v → length (group_version m v) ≤ 1_000
version_few m n v names place version =
    let group = name_fits n.group names.group in
    let name = namespace_fits n.version names.version in
    let a : length n.group ≡ length m.group = ap (λ (s : List ℕ). length s) place.group in
    let b : length (m.name v) ≡ length n.version = ap (λ (s : List ℕ). length s) version.1 in
    let long = length-append m.group (codes "/" ++ m.name v) in
    omega (arith, group, name, a, b, long)

list_request : (v : ℕ) (ns : Option (List ℕ)) (limit : ℕ) (from : Option Place) → IsRequest (calls.list v ns limit from)
list_request v ns limit from = record { fails = λ f t h. h; no_work = λ claim e. cc }

-- ---- the lists of a migration

-- a list is at its first page, or goes on behind an object of a history before
pub data IsPlaced (log : List Item) : List ℕ → Type 0 where
  at_begin : IsPlaced log []
  behind : (token : List ℕ) (start : List Item) (key : KeyView) → GoesOn start log → token ≡ token_text (revision start) key → IsToken (revision start) key → IsPlaced log token

told_of : (log : List Item) (token : List ℕ) → IsPlaced log token → (token ≡ []) ⊎ IsTold token
told_of log _ at_begin = inl refl
told_of log _ (behind token start key on is t) = inr (record { number = revision start; key = key; token = t; spelled = is })

not_ahead : (start log : List Item) → GoesOn start log → nat_lt (revision log) (revision start) ≡ true → ⊥
not_ahead start log on is =
    let up : revision start ≤ revision log = subst (λ (l : List Item). revision start ≤ revision l) (sym on.1) (few_entries start on.0) in
    grind (arith, nat_tests)

module _ (m : Meaning) (limits : Limits) (boot : ℕ) (clock : Option (List ℕ)) (n : Names) (last : List Item) (facts : Facts m limits boot clock n last) where
  abbrev f : Front
  f = front m limits boot clock

  abbrev k : IsKnown m limits boot n (replying f) last
  k = facts.known

  module _ (limit : ℕ) (token : List ℕ) (small : limit ≤ first_limit) (log own : List Item) (placed : IsPlaced log token) (to : GoesOn log last) (r : Reply)
      (a : Answered (replying f) n (lists limit token) log own r) where
    told : (token ≡ []) ⊎ IsTold token
    told = told_of log token placed

    addressed : IsAddressed (codes "GET") (target_of n (lists limit token))
    addressed = list_gets n facts.names limit token small (small_token token told)

    abbrev reply : ReplyView
    reply = a.answers.0.reply

    -- what may be replied, and that the texts of the objects are UTF-8
    abbrev May : Reply → Type 0
    May q = MayReply m n log (lists limit token) q × AreSpelled q

    abbrev Result : Type 0
    Result = May r

    took_page : (q : Reply) → (limit ≡ 1 → length reply.text ≤ MOST_BODY_BYTES) → May q → Takes f n k.text_reads k.one_reading (lists limit token) addressed refl log own r a q → Result
    took_page q few may (inl much) =
        subst (λ (s : Reply). May s) (sym much.1) (λ one. (let short = few one in let many = much.0 in absurd (omega (arith, many, short))), tt)
    took_page q few may (inr is) = subst (λ (s : Reply). May s) (sym is) may

    took : (q : Reply) → length reply.text ≤ MOST_BODY_BYTES → May q → Takes f n k.text_reads k.one_reading (lists limit token) addressed refl log own r a q → Result
    took q few may takes = took_page q (λ one. few) may takes

    starved : reply ≡ wants_memory → Result
    starved same =
        let text = memory_long f n k.text_reads k.one_reading (lists limit token) addressed refl log own r a same in
        let short = memory_few [] [] in
        took (code 503) (omega (arith, text, short)) (inl refl, tt) (told_memory f n k.text_reads k.one_reading (lists limit token) addressed refl log own r a same)

    -- ---- a page

    shown : (v number most : ℕ) (p : Page Stored) → IsVersion m n.version v → number < 2 ^ 64 → most < 2 ^ 63 → IsCut (IsReady m) number most limit p → (answer : replies.Answer)
        → reply ≡ replied m Objects answer → IsList m boot v p answer → Result
    shown v number most p version few many cut (Ok w) same list =
        let js = list.1 in
        let token_next = next_token p in
        let j : Json = object_list m v js token_next p.number p.remaining in
        let number_is = cut.number_is in
        let left = cut.few in
        let p_few : p.number < 2 ^ 64 = omega (arith, number_is, few) in
        let p_left : p.remaining < 2 ^ 63 = omega (arith, left, many) in
        let readable = page_readable m k.stand k.honest boot v p.items js token_next p.number p.remaining version.0 (all_held m p.items cut.items) list.2 p_left in
        let form : page_fault (api_version n) j ≡ None =
        page_form m k.stand k.keeps k.honest n facts.place.group boot p.number p.remaining v p.items js token_next version (all_named m p.items cut.items) list.2 p_few in
        let spelled : reply.text ≡ text_of j = ap (λ (q : ReplyView). q.text) same ∙ list.3 in
        let utf8 : IsUtf8 (text_of j) = subst (λ (b : List ℕ). IsUtf8 b) spelled a.answers.0.utf8 in
        let texts : AreTexts (objects_of j) = subst (λ (os : List Json). AreTexts os) (sym (page_objects m v js token_next p.number p.remaining)) (page_texts m v js token_next p.number p.remaining utf8) in
        took_page (given j)
        (λ one.
        let long : length reply.text ≡ length (text_of j) = ap (λ (b : List ℕ). length b) spelled in
        let kind = facts.kind in
        let short = page_few m v js token_next p.number p.remaining (one_few m boot v p.items js k.stand facts.ignores facts.one k.honest version.0 cut.items (cut.one one) list.2)
        (version_few m n v facts.names facts.place version) (omega (arith, kind)) (token_few m p.number p.items (nat_eq p.remaining 0) p_few cut.items (cut.one one)) p_few p_left in
        omega (arith, long, short))
        (tt, texts) (told_given f n k.text_reads k.one_reading (lists limit token) addressed refl log own r a w j same list.0 list.3 readable.sound readable.levels form)
    shown v number most p version few many cut (Err e) same list = absurd list

    -- of the objects of a history before
    shown_at : (start : List Item) (after : Option KeyView) (v : ℕ) → GoesOn start log → IsVersion m n.version v → (answer : replies.Answer) → reply ≡ replied m Objects answer
        → IsList m boot v (page_at m log None after (revision start) limit) answer → Result
    shown_at start after v on version answer same list =
        let to_start = goes_further start log last on to in
        let seen : snap m log (revision start) ≡ (state m start).objects = ap (λ (l : List Item). snap m l (revision start)) on.1 ∙ snap_later m start on.0 in
        shown v (revision start) (length (state m start).objects) (page_at m log None after (revision start) limit) version (few_before start last k.counted to_start)
        (small_before m limits start last k.few k.legal to_start) (at_cut (IsReady m) m start log after limit seen (ready_at m limits boot clock n last facts start to_start)) answer same list

    expired_so : (number : ℕ) (answer : replies.Answer) → number < 2 ^ 64 → reply ≡ replied m Objects answer → answer ≡ Err (refusal.expired number) → Result
    expired_so number answer few same is =
        let told : reply ≡ replied m Objects (Err (refusal.expired number)) = same ∙ ap (λ (y : replies.Answer). replied m Objects y) is in
        let text = refused_long f n k.text_reads k.one_reading (lists limit token) addressed refl log own r a (refusal.expired number) told in
        let short = expired_few number m.plural m.group few in
        took (code 410) (omega (arith, text, short)) (inr (inr refl), tt)
        (told_code f n k.text_reads k.one_reading (lists limit token) addressed refl log own r a (refusal.expired number) told (λ e. omega (arith, e)))

    -- ---- where the list goes on

    by_place : (t : List ℕ) → IsPlaced log t → (v : ℕ) (from : Option Place) → IsVersion m n.version v → query.GoesOn None t from → (answer : replies.Answer) → reply ≡ replied m Objects answer
        → Pages m boot v (place_page limits m log None limit from) answer → Result
    by_place _ at_begin v from version goes answer same pages =
        shown_at log None v (goes_nowhere log) version answer same
        (subst (λ (o : Option Place). Pages m boot v (place_page limits m log None limit o) answer) (first_from from goes) pages)
    by_place _ (behind t start key on is token) v from version goes answer same pages =
        by_ahead (nat_lt (revision log) (revision start)) refl
        (subst (λ (o : Option Place). Pages m boot v (place_page limits m log None limit o) answer) (next_from t (revision start) key from is token goes) pages)
      where
        by_floor : (b : Bool) → Pages m boot v (if b then page.expired (floor limits m log) else page.shown (page_at m log None (Some key) (revision start) limit)) answer → Result
        by_floor true pages =
            let low = floor_few m limits log in
            let few = few_before log last k.counted to in
            expired_so (floor limits m log) answer (omega (arith, low, few)) same pages
        by_floor false pages = shown_at start (Some key) v on version answer same pages

        by_ahead : (b : Bool) → nat_lt (revision log) (revision start) ≡ b
            → Pages m boot v (if b then page.ahead (revision log)
            else if nat_lt (revision start) (floor limits m log) then page.expired (floor limits m log)
            else page.shown (page_at m log None (Some key) (revision start) limit)) answer → Result
        by_ahead true test pages = absurd (not_ahead start log on test)
        by_ahead false test pages = by_floor (nat_lt (revision start) (floor limits m log)) pages

    unserved : (v : ℕ) → IsVersion m n.version v → served (state m log).flags v ≡ false → (answer : replies.Answer) → reply ≡ replied m Objects answer → answer ≡ Err refusal.no_resource → Result
    unserved v version off answer same is =
        let told : reply ≡ replied m Objects (Err refusal.no_resource) = same ∙ ap (λ (y : replies.Answer). replied m Objects y) is in
        let text = refused_long f n k.text_reads k.one_reading (lists limit token) addressed refl log own r a refusal.no_resource told in
        let short = unserved_few m.plural m.group in
        took (code 404) (omega (arith, text, short)) (inr (inl (refl, record { v = v; version = version; off = off })), tt)
        (told_unserved f n k.text_reads k.one_reading (lists limit token) addressed refl log own r a told)

    by_served : (v : ℕ) (from : Option Place) → IsVersion m n.version v → query.GoesOn None token from → (answer : replies.Answer) → reply ≡ replied m Objects answer
        → (b : Bool) → served (state m log).flags v ≡ b → Pages m boot v (if not b then page.unserved else place_page limits m log None limit from) answer → Result
    by_served v from version goes answer same true on pages = by_place token placed v from version goes answer same pages
    by_served v from version goes answer same false off pages = unserved v version off answer same pages

    -- ---- the call

    by_decision : (v : ℕ) (from : Option Place) → IsVersion m n.version v → query.GoesOn None token from
        → Decided f n k.text_reads k.one_reading (lists limit token) addressed refl log own r a (calls.list v None limit from) → Result
    by_decision v from version goes (decided_so stamp answer same decides) =
        let h = reply_of (ListReply m limits boot log v None limit from) answer a.answers.0.item decides in
        by_served v from version goes answer same (served (state m log).flags v) refl h.1
    by_decision v from version goes (decided_starved same) =
        let text = refused_long f n k.text_reads k.one_reading (lists limit token) addressed refl log own r a refusal.no_memory same in
        let short = memory_few m.plural m.group in
        took (code 503) (omega (arith, text, short)) (inl refl, tt)
        (told_code f n k.text_reads k.one_reading (lists limit token) addressed refl log own r a refusal.no_memory same (λ e. omega (arith, e)))

    by_call : (c : calls.Call) → IsListCall m n limit token c → RepliesToCall f (Unit {0}) a.answers.0.seen log c reply a.answers.0.item → Result
    by_call c l rep =
        by_decision l.v l.from l.version l.goes_on
        (decided f n k.text_reads k.one_reading (lists limit token) addressed refl log own r a (calls.list l.v None limit l.from) refl (list_request l.v None limit l.from)
        (subst (λ (d : calls.Call). RepliesToCall f (Unit {0}) a.answers.0.seen log d reply a.answers.0.item) l.is rep))

    by_route : (rt : Route) → IsListRoute m n limit token rt → RoutedReply f (Unit {0}) a.answers.0.seen log rt reply a.answers.0.item → Result
    by_route _ (lists_it c l) rep = by_call c l rep

    pub list_law : Result
    list_law = by (came f n k.text_reads k.one_reading (lists limit token) addressed refl log own r a)
      where
        by : Came f n k.text_reads k.one_reading (lists limit token) addressed refl log own r a → Result
        by (came_routed rt routes rep) = by_route rt (list_route m n facts.names facts.place limit token small told [] rt routes) rep
        by (came_starved same) = starved same

-- ---- where a migration is

placed_within : (m : Meaning) (log : List Item) (b : Run) → IsWithin m log b → IsPlaced log b.token
placed_within m log b w = behind b.token w.start w.last_seen.key w.to w.token_is w.is_token

pub placed_at : (m : Meaning) (log : List Item) (b : Run) → IsAt m log b → IsPlaced log b.token
placed_at m log b (begun small at) = subst (λ (t : List ℕ). IsPlaced log t) (sym at.token_is) at_begin
placed_at m log b (within small w) = placed_within m log b w

pub small_at : (m : Meaning) (log : List Item) (b : Run) → IsAt m log b → b.limit ≤ first_limit
small_at m log b (begun small at) = small
small_at m log b (within small w) = small
