-- What a server of a definition may reply to the puts of a migration.
use Rattle.http_wire.specs.declared.limits.TheConstants.{MOST_BODY_BYTES}
use Rattle.api_calls.proofs.Tokens.{name_fits}
use Rattle.run_laws.proofs.tallies.Sizes.{shown_few}
use Rattle.run_laws.proofs.tallies.RefusalSizes.{conflict_few, memory_few, missing_few, unserved_few}
use Rattle.std.proofs.Common.{◌≡◌, ◌∙◌, refl, sym, ap, ap₂, subst, inl, inr, ℕ, ◌+◌, ◌<◌, ◌≤◌, ◌^◌, Bool, true, false, not, List, [], ◌∷◌, ◌++◌, append_assoc, length, take, Option, None, Some, Ok, Err, nat_lt, pos, ◌-◌, codes, arith}
use Rattle.std.specs.Prelude.{◌⊎◌, ◌&&◌, ◌||◌, IsUtf8, MatchBool, MatchOption, nat_eq, if◌then◌else◌}
use Rattle.std.specs.List.{list_all, list_any}
use Rattle.std.specs.Str.{bytes_eq}
use Rattle.std.proofs.Math.Seq.{take-append_seam, take-length}
use Rattle.std.proofs.lemmas.Bool.{MatchBool-at_true}
use Rattle.std.proofs.lemmas.Bool.Decides.{nat_tests}
use Rattle.std.proofs.lemmas.Slice.Eq.{bytes_eq-Decides}
use Rattle.kj_value.specs.Json.{Json}
use Rattle.kj_value.specs.Text.{text_of}
use Rattle.kube_meta.specs.Document.{document}
use Rattle.kube_meta.specs.Key.{KeyView}
use Rattle.kube_meta.specs.View.{ObjectView}
use Rattle.kube_meta.specs.declared.limits.Limits.{Limits}
use Rattle.kube_meta.specs.declared.limits.Room.{Room}
use Rattle.api_calls.specs.Calls as calls
use Rattle.api_calls.specs.Documents.{numbered}
use Rattle.api_calls.specs.Ends as ends
use Rattle.api_calls.specs.Ends.{Decision, WriteEnd, done, enters, forbidden, gone as gone_end, newer, same, says}
use Rattle.api_calls.specs.Item.{Item, Release, Replace, entry}
use Rattle.api_calls.specs.Legal.{key_of}
use Rattle.api_calls.specs.LegalLists.{Holds}
use Rattle.api_calls.specs.Meaning.{Meaning, Request, Weighs, stamped}
use Rattle.api_calls.specs.Objects.{Stored, find, live}
use Rattle.api_calls.specs.Refusal as refusal
use Rattle.api_calls.specs.Replies as replies
use Rattle.api_calls.specs.Replies.{IsRefusedRequest, ReplaceReply, ShowsObject, WeighsIt, Wrote, code_ok}
use Rattle.api_calls.specs.Reply.{ReplyView}
use Rattle.api_calls.specs.Room.{lacking_chunks}
use Rattle.api_calls.specs.State.{State, revision, served, state}
use Rattle.api_calls.specs.Values.{IsUpdate, adds_finalizer, is_forbidden, is_marked, is_release, updated_value}
use Rattle.api_calls.specs.Versions.{DecidesAdmission, NamesDiffer, StandsAt}
use Rattle.api_calls.specs.Writes.{Replaces, replaced, with_room}
use Rattle.api_calls.specs.laws.ObjectLaws.{each-find}
use Rattle.api_calls.specs.laws.SpelledLaws.{standing-writable}
use Rattle.api_calls.proofs.Numbers.{one-value}
use Rattle.api_calls.proofs.Sound.{number}
use Rattle.api_calls.proofs.Stored.{weighs_one, weighs_unstamped}
use Rattle.http_routes.specs.Actions.{IsVersion}
use Rattle.http_routes.specs.Paths.{IsKey}
use Rattle.http_routes.specs.Routes.{Route}
use Rattle.request_replies.specs.Replies.{Front, RoutedReply, replied}
use Rattle.request_replies.specs.declared.about.About.TheVariants.{Objects}
use Rattle.place.specs.Place.{Names}
use Rattle.wire_client.specs.Answers.{Reply, code, given, gone}
use Rattle.wire_client.specs.Calls.{at_key, puts}
use Rattle.wire_client.specs.Forms.{api_version, object_fault, this_one}
use Rattle.far_laws.specs.Answering.{Answered, GoesOn}
use Rattle.far_laws.proofs.Decided.{IsRequest, put_of, replies as reply_of}
use Rattle.far_laws.proofs.Histories.{few_entries, goes_further}
use Rattle.far_laws.proofs.Paging.{IsKnown}
use Rattle.far_laws.proofs.Replacing.{Accepts}
use Rattle.far_laws.proofs.Values.{find_key}
use Rattle.far_laws.specs.Speaking.{front}
use Rattle.far_laws.proofs.Asked.{IsAddressed}
use Rattle.far_laws.proofs.Objects.{object_puts}
use Rattle.far_laws.specs.GivenBack.{IsLike, unstamped}
use Rattle.far_laws.specs.TakenBack.{TakesBack}
use Rattle.far_laws.proofs.Shown.{IsFormOf}
use Rattle.run_laws.specs.Replying.{MayReply, replying}
use Rattle.run_laws.proofs.tallies.Documents.{object_fit}
use Rattle.run_laws.proofs.tallies.Formed.{object_form}
use Rattle.run_laws.proofs.tallies.Holding.{IsHeld, Facts, IsReady, group_few, plural_few, ready_at}
use Rattle.run_laws.proofs.tallies.Routed.{IsRouteOf, calls_it, put_route}
use Rattle.run_laws.proofs.tallies.Taken.{Came, Decided, Takes, came, came_routed, came_starved, decided, decided_so, decided_starved, told_code, told_given, told_memory, told_missing, told_unserved, memory_long, refused_long}

replace_request : (r : Request) (key : KeyView) → IsRequest (calls.replace r key)
replace_request r key = record { fails = λ f t h. h; no_work = λ claim e. cc }

-- ---- a value that is the one that stands

any_later : (test : List ℕ → Bool) (x : List ℕ) (xs ys : List (List ℕ)) → test x ≡ true → list_any test (xs ++ x ∷ ys) ≡ true
any_later test x [] ys is = ap (λ (b : Bool). b || list_any test ys) is
any_later test x (y ∷ xs) ys is = or_right (test y) (list_any test (xs ++ x ∷ ys)) (any_later test x xs ys is)
  where
    or_right : (a b : Bool) → b ≡ true → (a || b) ≡ true
    or_right true b e = refl
    or_right false b e = e

both : (a b : Bool) → a ≡ true → b ≡ true → (a && b) ≡ true
both true b p q = q
both false b p q = p

all_among : (xs ys : List (List ℕ)) → list_all (λ f. list_any (bytes_eq f) (xs ++ ys)) ys ≡ true
all_among xs [] = refl
all_among xs (y ∷ ys) =
    both (list_any (bytes_eq y) (xs ++ y ∷ ys)) (list_all (λ f. list_any (bytes_eq f) (xs ++ y ∷ ys)) ys)
    (any_later (bytes_eq y) y xs ys ((bytes_eq-Decides y y).1 refl))
    (subst (λ (zs : List (List ℕ)). list_all (λ f. list_any (bytes_eq f) zs) ys ≡ true) (append_assoc xs (y ∷ []) ys) (all_among (xs ++ y ∷ []) ys))

-- it adds no finalizer
none_added : (h : ObjectView) → adds_finalizer h h ≡ false
none_added h = ap not (all_among [] h.meta.finalizers)

never_both : (a b : Bool) → b ≡ false → (a && b) ≡ true → ⊥
never_both true b other is = let e = sym other ∙ is in cc
never_both false b other is = cc

not_forbidden : (old h : ObjectView) → h ≡ old → is_forbidden old h ≡ true → ⊥
not_forbidden old h value is =
    never_both (is_marked old) (adds_finalizer old h) (ap (λ (x : ObjectView). adds_finalizer old x) value ∙ none_added old) is

updated_same : (old new h g : ObjectView) → old ≡ g → new ≡ unstamped g → IsUpdate old new h → h ≡ g
updated_same old new h g is new_is update =
    let body : new.body ≡ old.body = ap (λ (x : ObjectView). x.body) new_is ∙ ap (λ (x : ObjectView). x.body) (sym is) in
    let equal : update.0 ≡ true = update.1.1 body in
    update.2 ∙ ap (λ (b : Bool). updated_value b old new) equal
    ∙ ap₂ (λ (x y : ObjectView). stamped x y.meta.created y.meta.deleted y.meta.generation) new_is is

-- room isn't lacking for the weight that goes
no_lack : (limits : Limits) (es : List Stored) (w x : ℕ) → w ≡ x → lacking_chunks limits es x w ≡ None
no_lack limits es w x is = by (nat_lt (limits.chunks - live es + x) w) refl
  where
    by : (b : Bool) → nat_lt (limits.chunks - live es + x) w ≡ b → lacking_chunks limits es x w ≡ None
    by true lack = absurd (grind (arith, nat_tests))
    by false lack = rw lack refl

some_one : (x y : ℕ) → Some x ≡ Some y → x ≡ y
some_one x y e = cc

module _ (m : Meaning) (limits : Limits) (boot : ℕ) (clock : Option (List ℕ)) (n : Names) (last : List Item) (facts : Facts m limits boot clock n last) (decides : DecidesAdmission m)
    (differ : NamesDiffer m) (takes : TakesBack m) where
  abbrev f : Front
  f = front m limits boot clock

  abbrev k : IsKnown m limits boot n (replying f) last
  k = facts.known

  module _ (key : KeyView) (valid : IsKey key) (j : Json) (log own : List Item) (to : GoesOn log last) (form : IsFormOf m boot n log key j) (utf8 : IsUtf8 (text_of j)) (r : Reply)
      (a : Answered (replying f) n (puts key j) log own r) where
    addressed : IsAddressed (codes "PUT") (at_key n key)
    addressed = object_puts n key facts.names valid

    abbrev reply : ReplyView
    reply = a.answers.0.reply

    abbrev s : State
    s = state m log

    abbrev Result : Type 0
    Result = MayReply m n log (puts key j) r

    took : (q : Reply) → length reply.text ≤ MOST_BODY_BYTES → MayReply m n log (puts key j) q → Takes f n k.text_reads k.one_reading (puts key j) addressed refl log own r a q → Result
    took q short may (inl much) = let many = much.0 in absurd (omega (arith, many, short))
    took q short may (inr is) = subst (λ (p : Reply). MayReply m n log (puts key j) p) (sym is) may

    -- ---- the form is admitted

    abbrev g : ObjectView
    g = form.object.h

    to_start : GoesOn form.start last
    to_start = goes_further form.start log last form.to to

    ready : IsReady m form.object
    ready = each-find (IsReady m) key (state m form.start).objects form.object (ready_at m limits boot clock n last facts form.start to_start) form.there

    abbrev held : IsHeld m form.object
    held = ready.held

    few : form.object.number < 2 ^ 64
    few = ready.few

    own_key : key_of g ≡ key
    own_key = held.key ∙ find_key key (state m form.start).objects form.object form.there

    admitted : (v : ℕ) → IsVersion m n.version v → m.admits (put_of v key j) (unstamped g) (Some form.object.number)
    admitted v version =
        let x : ObjectView = form.form in
        let stands : StandsAt m form.v x = k.stand.pair form.v g x form.version.0 held.whole form.pair in
        let writable = standing-writable m form.v x stands in
        let shown_as : ObjectView = numbered boot form.object.number form.object.born x in
        let fit = object_fit m k.stand k.honest boot form.object.number form.object.born form.v g x form.version.0 held.whole form.pair in
        let levels = fit.levels in
        let like : IsLike shown_as x = record { same = refl; sound = fit.sound; levels = omega (arith, levels); created = writable.created; deleted = writable.deleted } in
        let ns : key.ns ≡ x.meta.namespace = sym (k.keeps.namespace form.v g x form.version.0 held.whole form.pair ∙ ap (λ (q : KeyView). q.ns) own_key) in
        let name : key.name ≡ x.meta.name = sym (k.keeps.name form.v g x form.version.0 held.whole form.pair ∙ ap (λ (q : KeyView). q.name) own_key) in
        takes.takes form.v form.object.number g x shown_as (put_of v key j) form.version.0 held.whole
        ready.held.light form.pair like refl few
        (differ.differ v form.v version.0 form.version.0 (version.1 ∙ sym form.version.1)) ns (ap (λ (q : List ℕ). Some q) name) (ap text_of form.is) utf8 levels

    -- two objects of one number are one
    one_number : (e : Stored) → find key s.objects ≡ Some e → e.number ≡ form.object.number → e ≡ form.object
    one_number e there is =
        one-value m log (length log) (length form.start) e form.object
        (subst (λ (xs : List Item). Holds (state m xs) e) (sym (take-length log)) (holds log e there))
        (subst (λ (xs : List Item). Holds (state m xs) form.object) (sym (ap (take (length form.start)) form.to.1 ∙ take-append_seam form.start form.to.0)) (holds form.start form.object form.there)) is
      where
        holds : (xs : List Item) (x : Stored) → find key (state m xs).objects ≡ Some x → Holds (state m xs) x
        holds xs x at = subst (λ (q : KeyView). find q (state m xs).objects ≡ Some x) (sym (find_key key (state m xs).objects x at)) at

    -- ---- what is told

    shown : (v num born : ℕ) (h : ObjectView) → IsVersion m n.version v → h ≡ g → num < 2 ^ 64 → (answer : replies.Answer) → reply ≡ replied m Objects answer
        → ShowsObject m boot code_ok v h num born answer → Result
    shown v num born h version value small (Ok w) told shows =
        let x : ObjectView = shows.1.0 in
        let pairs : m.pair v g x = subst (λ (q : ObjectView). m.pair v q x) value (shows.1.1 k.honest) in
        let doc : Json = document (numbered boot num born x) in
        let fit = object_fit m k.stand k.honest boot num born v g x version.0 held.whole pairs in
        let levels = fit.levels in
        let fault : object_fault (api_version n) (this_one key) doc ≡ None =
        subst (λ (q : KeyView). object_fault (api_version n) (this_one q) doc ≡ None) own_key
        (object_form m k.stand k.keeps k.honest n facts.place.group boot num born v g x version held.whole (subst IsKey (sym own_key) valid) pairs small) in
        let text : length reply.text ≡ length (text_of doc) = ap (λ (q : ReplyView). length q.text) told ∙ ap (λ (b : List ℕ). length b) shows.1.2 in
        let short = shown_few m boot num born v form.object.weight ready.count g x k.stand facts.ignores facts.one version.0 held.whole pairs held.weighs ready.held.light ready.counts small in
        took (given doc) (omega (arith, text, short)) tt (told_given f n k.text_reads k.one_reading (puts key j) addressed refl log own r a w doc told shows.0 shows.1.2 fit.sound (omega (arith, levels)) fault)
    shown v num born h version value small (Err e) told shows = absurd shows

    missed : (answer : replies.Answer) → reply ≡ replied m Objects answer → answer ≡ Err (refusal.not_found key.name) → Result
    missed answer told is =
        let said : reply ≡ replied m Objects (Err (refusal.not_found key.name)) = told ∙ ap (λ (y : replies.Answer). replied m Objects y) is in
        let text = refused_long f n k.text_reads k.one_reading (puts key j) addressed refl log own r a (refusal.not_found key.name) said in
        let short = missing_few key.name m.plural m.group (plural_few m limits boot clock n last facts) (group_few m limits boot clock n last facts) (name_fits key.name valid.name) in
        took gone (omega (arith, text, short)) tt (told_missing f n k.text_reads k.one_reading (puts key j) addressed refl log own r a key.name said)

    changed : (num : ℕ) (answer : replies.Answer) → num < 2 ^ 64 → reply ≡ replied m Objects answer → answer ≡ Err (refusal.conflict key.name num) → Result
    changed num answer small told is =
        let said : reply ≡ replied m Objects (Err (refusal.conflict key.name num)) = told ∙ ap (λ (y : replies.Answer). replied m Objects y) is in
        let text = refused_long f n k.text_reads k.one_reading (puts key j) addressed refl log own r a (refusal.conflict key.name num) said in
        let short = conflict_few key.name num m.plural m.group (plural_few m limits boot clock n last facts) (group_few m limits boot clock n last facts) (name_fits key.name valid.name) small in
        took (code 409) (omega (arith, text, short)) (inr (inr refl))
        (told_code f n k.text_reads k.one_reading (puts key j) addressed refl log own r a (refusal.conflict key.name num) said (λ e. omega (arith, e)))

    unserved : (v : ℕ) → IsVersion m n.version v → served s.flags v ≡ false → (answer : replies.Answer) → reply ≡ replied m Objects answer → answer ≡ Err refusal.no_resource → Result
    unserved v version off answer told is =
        let said : reply ≡ replied m Objects (Err refusal.no_resource) = told ∙ ap (λ (y : replies.Answer). replied m Objects y) is in
        let text = refused_long f n k.text_reads k.one_reading (puts key j) addressed refl log own r a refusal.no_resource said in
        let short = unserved_few m.plural m.group in
        took (code 404) (omega (arith, text, short)) (inr (inl (refl, record { v = v; version = version; off = off })))
        (told_unserved f n k.text_reads k.one_reading (puts key j) addressed refl log own r a said)

    -- ---- what is decided

    next_few : revision log + 1 < 2 ^ 64
    next_few =
        let up : revision log ≤ revision last = subst (λ (l : List Item). revision log ≤ revision l) (sym to.1) (few_entries log to.0) in
        let under = k.counted in
        omega (arith, up, under)

    module _ (v : ℕ) (version : IsVersion m n.version v) (answer : replies.Answer) (told : reply ≡ replied m Objects answer) where
      met : (e : Stored) (old h : ObjectView) (w : ℕ) (equal : Bool) → find key s.objects ≡ Some e → e ≡ form.object → old ≡ g → h ≡ g → w ≡ e.weight
          → Wrote m boot code_ok v key.name h (replaced limits (revision log + 1) s key old h w equal e).answer answer → Result
      met e old h w equal there same_object old_is value weight wrote = by_forbidden (is_forbidden old h) refl wrote
        where
          Tells : Decision WriteEnd → Type 0
          Tells d = Wrote m boot code_ok v key.name h d.answer answer → Result

          by_room : (o : Option Room) → o ≡ None → Tells (with_room (revision log + 1) e.born (entry (Replace key e.number h w)) o)
          by_room (Some room) none wrote = cc
          by_room None none wrote = shown v (revision log + 1) e.born h version value next_few answer told wrote

          e_few : e.number < 2 ^ 64
          e_few = subst (λ (q : Stored). q.number < 2 ^ 64) (sym same_object) few

          by_same : (b : Bool)
              → Tells (if b then says (same e.number e.born) else with_room (revision log + 1) e.born (entry (Replace key e.number h w)) (lacking_chunks limits s.objects e.weight w))
          by_same true wrote = shown v e.number e.born h version value e_few answer told wrote
          by_same false wrote = by_room (lacking_chunks limits s.objects e.weight w) (no_lack limits s.objects w e.weight weight) wrote

          by_release : (b : Bool)
              → Tells (if b then enters (done (revision log + 1) e.born) (entry (Release key e.number))
              else if equal && nat_eq e.at s.flags.storage then says (same e.number e.born)
              else with_room (revision log + 1) e.born (entry (Replace key e.number h w)) (lacking_chunks limits s.objects e.weight w))
          by_release true wrote = shown v (revision log + 1) e.born h version value next_few answer told wrote
          by_release false wrote = by_same (equal && nat_eq e.at s.flags.storage) wrote

          by_forbidden : (b : Bool) → is_forbidden old h ≡ b
              → Tells (if b then says forbidden
              else if is_release old h then enters (done (revision log + 1) e.born) (entry (Release key e.number))
              else if equal && nat_eq e.at s.flags.storage then says (same e.number e.born)
              else with_room (revision log + 1) e.born (entry (Replace key e.number h w)) (lacking_chunks limits s.objects e.weight w))
          by_forbidden true is wrote = absurd (not_forbidden old h (value ∙ sym old_is) is)
          by_forbidden false is wrote = by_release (is_release old h) wrote

      by_number : (new h : ObjectView) (over w : ℕ) (d : Decision WriteEnd) (e : Stored) → m.admits (put_of v key j) new (Some over) → WeighsIt m new w → find key s.objects ≡ Some e → (b : Bool)
          → nat_eq e.number over ≡ b → MatchBool b (Replaces m limits (revision log + 1) s key new w e h d) (d ≡ says (newer e.number)) → Wrote m boot code_ok v key.name h d.answer answer → Result
      by_number new h over w d e admits weighs there false at dec wrote =
          let e_few = (each-find (IsReady m) key s.objects e (ready_at m limits boot clock n last facts log to) there).few in
          changed e.number answer e_few told (subst (λ (q : Decision WriteEnd). Wrote m boot code_ok v key.name h q.answer answer) dec wrote)
      by_number new h over w d e admits weighs there true at dec wrote =
          let only = decides.one (put_of v key j) new (unstamped g) (Some over) (Some form.object.number) admits (admitted v version) in
          let same_number : e.number ≡ form.object.number = number e.number over at ∙ some_one over form.object.number only.1 in
          let same_object = one_number e there same_number in
          let value_is : e.h ≡ g = ap (λ (q : Stored). q.h) same_object in
          let old = dec.0 in
          let equal = dec.1 in
          let old_is : old ≡ g = dec.2 k.honest ∙ value_is in
          let value : h ≡ g = updated_same old new h g old_is only.0 dec.3 in
          let weight : w ≡ form.object.weight =
          weighs_one m (unstamped g) w form.object.weight (subst (λ (q : ObjectView). Weighs m q w) only.0 (weighs k.honest)) (weighs_unstamped m g form.object.weight None None (pos 0) facts.ignores held.weighs) in
          met e old h w equal there same_object old_is value (weight ∙ ap (λ (q : Stored). q.weight) (sym same_object))
          (subst (λ (q : Decision WriteEnd). Wrote m boot code_ok v key.name h q.answer answer) dec.5 wrote)

      by_found : (new h : ObjectView) (over w : ℕ) (d : Decision WriteEnd) → m.admits (put_of v key j) new (Some over) → WeighsIt m new w → (o : Option Stored) → find key s.objects ≡ o
          → MatchOption o (d ≡ says gone_end) (λ e. MatchBool (nat_eq e.number over) (Replaces m limits (revision log + 1) s key new w e h d) (d ≡ says (newer e.number)))
          → Wrote m boot code_ok v key.name h d.answer answer → Result
      by_found new h over w d admits weighs None there dec wrote =
          missed answer told (subst (λ (q : Decision WriteEnd). Wrote m boot code_ok v key.name h q.answer answer) dec wrote)
      by_found new h over w d admits weighs (Some e) there dec wrote = by_number new h over w d e admits weighs there (nat_eq e.number over) refl dec wrote

      by_served : (i : Option Item) (b : Bool) → served s.flags v ≡ b
          → MatchBool b (IsRefusedRequest m (put_of v key j) answer i ⊎ Accepts m limits boot (revision log + 1) s (put_of v key j) key answer i) ((answer ≡ Err refusal.no_resource) × (i ≡ None)) → Result
      by_served i false off h = unserved v version off answer told h.0
      by_served i true on (inl refused) = absurd (decides.excludes (put_of v key j) (unstamped g) (Some form.object.number) refused.0 (admitted v version) refused.1)
      by_served i true on (inr x) =
          let dec = MatchBool-at_true (MatchOption (find key s.objects) (x.4 ≡ says gone_end)
          (λ e. MatchBool (nat_eq e.number x.1) (Replaces m limits (revision log + 1) s key x.0 x.2 e x.3 x.4) (x.4 ≡ says (newer e.number)))) (x.4 ≡ says ends.unserved) on x.7 in
          by_found x.0 x.3 x.1 x.2 x.4 x.5 x.6 (find key s.objects) refl dec x.8

    by_decision : (v : ℕ) → IsVersion m n.version v → Decided f n k.text_reads k.one_reading (puts key j) addressed refl log own r a (calls.replace (put_of v key j) key) → Result
    by_decision v version (decided_so stamp answer told chosen) =
        let h = reply_of (ReplaceReply m limits boot (revision log + 1) s (put_of v key j) key) answer a.answers.0.item chosen in
        by_served v version answer told a.answers.0.item (served s.flags v) refl h
    by_decision v version (decided_starved told) =
        let text = refused_long f n k.text_reads k.one_reading (puts key j) addressed refl log own r a refusal.no_memory told in
        let short = memory_few m.plural m.group in
        took (code 503) (omega (arith, text, short)) (inl refl)
        (told_code f n k.text_reads k.one_reading (puts key j) addressed refl log own r a refusal.no_memory told (λ e. omega (arith, e)))

    by_route : (rt : Route) → IsRouteOf m n (λ v. calls.replace (put_of v key j) key) rt → RoutedReply f (Unit {0}) a.answers.0.seen log rt reply a.answers.0.item → Result
    by_route _ (calls_it v version) rep =
        by_decision v version (decided f n k.text_reads k.one_reading (puts key j) addressed refl log own r a (calls.replace (put_of v key j) key) refl (replace_request (put_of v key j) key) rep)

    pub put_law : Result
    put_law = by (came f n k.text_reads k.one_reading (puts key j) addressed refl log own r a)
      where
        by : Came f n k.text_reads k.one_reading (puts key j) addressed refl log own r a → Result
        by (came_routed rt routes rep) = by_route rt (put_route m n facts.names facts.place key valid j rt routes) rep
        by (came_starved told) =
            let text = memory_long f n k.text_reads k.one_reading (puts key j) addressed refl log own r a told in
            let short = memory_few [] [] in
            took (code 503) (omega (arith, text, short)) (inl refl) (told_memory f n k.text_reads k.one_reading (puts key j) addressed refl log own r a told)
