-- From what a client's call comes to at the server to what the server decides.
use Rattle.std.proofs.Common.{◌≡◌, ◌∙◌, refl, sym, ap, subst, inl, inr, ℕ, ◌+◌, List, [], ◌++◌, Option, None, Some, Ok, Err}
use Rattle.std.specs.Prelude.{◌⊎◌, MatchOption}
use Rattle.kj_value.specs.Json.{Json}
use Rattle.kj_value.specs.Reading.{Reads}
use Rattle.kj_value.specs.Text.{text_of}
use Rattle.kube_meta.specs.Key.{KeyView}
use Rattle.api_calls.specs.Calls as calls
use Rattle.api_calls.specs.Calls.{Answers, Comes, Decides, Failure, Fails, Server, Told, answered, converter, decided, failure_refusal, lost, moved, no_memory, not_converted, wants_memory}
use Rattle.api_calls.specs.Item.{Item}
use Rattle.api_calls.specs.LegalLists.{IsSoundState}
use Rattle.api_calls.specs.Meaning.{Request}
use Rattle.api_calls.specs.Objects.{Stored, find}
use Rattle.api_calls.specs.Pages.{Place}
use Rattle.api_calls.specs.Refusal as refusal
use Rattle.api_calls.specs.Replies.{Answer, GetReply, ListReply, ReplaceReply, code_ok}
use Rattle.api_calls.specs.Reply.{ReplyView}
use Rattle.api_calls.specs.State.{State, next_number, revision, state}
use Rattle.http_routes.specs.Actions.{IsVersion}
use Rattle.http_routes.specs.Queries as query
use Rattle.far_laws.specs.Keys.{IsAbsentOrAt}
use Rattle.place.specs.Place.{Names}
use Rattle.wire_client.specs.Answers.{given, gone}
use Rattle.wire_client.specs.Calls.{Call, gets, lists, posts, puts}
use Rattle.wire_client.specs.declared.buffer.TheConstants.{ANSWER_LEVELS}
use Rattle.far_laws.specs.Answering.{CameTo, IsCall, IsOfMigration, all_of}
use Rattle.far_laws.proofs.Listing.{Shown, shown_by}
use Rattle.far_laws.proofs.Replacing.{after, get_missed, get_shown, put_given, put_missed, put_shown, state_after}

-- a call that isn't a worker's fails by its refusal
pub record IsRequest (c : calls.Call) : Type 0 where
  pub fails : (f : Failure) (t : Told) → Fails f c t → t ≡ answered (Err (failure_refusal f))
  pub no_work : (claim : Option ℕ) → calls.work claim ≡ c → ⊥

pub get_request : (v : ℕ) (k : KeyView) → IsRequest (calls.get v k)
get_request v k = record { fails = λ f t h. h; no_work = λ claim e. cc }

list_request : (v : ℕ) (ns : Option (List ℕ)) (limit : ℕ) (from : Option Place) → IsRequest (calls.list v ns limit from)
list_request v ns limit from = record { fails = λ f t h. h; no_work = λ claim e. cc }

replace_request : (r : Request) (k : KeyView) → IsRequest (calls.replace r k)
replace_request r k = record { fails = λ f t h. h; no_work = λ claim e. cc }

one_answer : (a b : Answer) → answered a ≡ answered b → a ≡ b
one_answer a b e = cc

-- the call failed, or it is answered as it is decided
pub decides_or : (s : Server) (stamp : List ℕ) (seen log : List Item) (c d : calls.Call) (t : Told) (i : Option Item) (a : Answer) → c ≡ d → t ≡ answered a → IsRequest d
    → Comes s (Unit {0}) stamp seen log c t i → ((f : Failure) × (a ≡ Err (failure_refusal f))) ⊎ Decides s stamp log d (answered a) i
decides_or s stamp seen log _ d _ i a is told r (decided c t j h) =
    inr (subst (λ (u : Told). Decides s stamp log d u i) told (subst (λ (e : calls.Call). Decides s stamp log e t i) is h))
decides_or s stamp seen log _ d _ _ a is told r (wants_memory c t h) =
    inl (no_memory, one_answer a _ (sym told ∙ r.fails no_memory t (subst (λ (e : calls.Call). Fails no_memory e t) is h)))
decides_or s stamp seen log _ d _ _ a is told r (not_converted c t rose converts h) =
    inl (converter, one_answer a _ (sym told ∙ r.fails converter t (subst (λ (e : calls.Call). Fails converter e t) is h)))
decides_or s stamp seen log _ d _ _ a is told r (moved claim h) = absurd (r.no_work claim is)
decides_or s stamp seen log _ d _ _ a is told r (lost claim h) = absurd (r.no_work claim is)

-- it entered nothing, or is answered as it is decided
pub item_or : (s : Server) (stamp : List ℕ) (seen log : List Item) (c d : calls.Call) (t : Told) (i : Option Item) (a : Answer) → c ≡ d → t ≡ answered a
    → Comes s (Unit {0}) stamp seen log c t i → (i ≡ None) ⊎ Decides s stamp log d (answered a) i
item_or s stamp seen log _ d _ i a is told (decided c t j h) =
    inr (subst (λ (u : Told). Decides s stamp log d u i) told (subst (λ (e : calls.Call). Decides s stamp log e t i) is h))
item_or s stamp seen log _ d _ _ a is told (wants_memory c t h) = inl refl
item_or s stamp seen log _ d _ _ a is told (not_converted c t rose converts h) = inl refl
item_or s stamp seen log _ d _ _ a is told (moved claim h) = inl refl
item_or s stamp seen log _ d _ _ a is told (lost claim h) = inl refl

-- an answer that is no failure
abbrev pub IsDecided : Answer → Type 0
IsDecided a = (f : Failure) → a ≡ Err (failure_refusal f) → ⊥

pub decides : (s : Server) (stamp : List ℕ) (seen log : List Item) (c d : calls.Call) (i : Option Item) (a : Answer) → c ≡ d → IsRequest d → IsDecided a
    → Comes s (Unit {0}) stamp seen log c (answered a) i → Decides s stamp log d (answered a) i
decides s stamp seen log c d i a is r known comes = by (decides_or s stamp seen log c d (answered a) i a is refl r comes)
  where
    by : ((f : Failure) × (a ≡ Err (failure_refusal f))) ⊎ Decides s stamp log d (answered a) i → Decides s stamp log d (answered a) i
    by (inl failed) = absurd (known failed.0 failed.1)
    by (inr h) = h

pub ok_decided : (r : ReplyView) → IsDecided (Ok r)
ok_decided r f e = cc

missed_decided : (name : List ℕ) → IsDecided (Err (refusal.not_found name))
missed_decided name no_memory e = cc
missed_decided name converter e = cc

pub replies : (R : Answer → Option Item → Type 0) (a : Answer) (i : Option Item) → Answers R (answered a) i → R a i
replies R a i h = subst (λ (b : Answer). R b i) (sym (one_answer a h.0 h.1)) h.2

-- ---- puts and gets

abbrev pub put_of : ℕ → KeyView → Json → Request
put_of v key j = record { version = v; ns = key.ns; name = Some key.name; bytes = text_of j }

-- behind the items of a call
behind_items : (s : Server) (v : ℕ) (key : KeyView) (log own : List Item) (i : Option Item) → own ≡ all_of i → IsAbsentOrAt v key (after (next_number log) i (state s.meaning log))
    → IsAbsentOrAt v key (state s.meaning (log ++ own))
behind_items s v key log own i is stands =
    subst (λ (items : List Item). IsAbsentOrAt v key (state s.meaning (log ++ items))) (sym is)
    (subst (λ (q : State). IsAbsentOrAt v key q) (sym (state_after s.meaning log i)) stands)

absent_at : (v : ℕ) (key : KeyView) (s : State) → find key s.objects ≡ None → IsAbsentOrAt v key s
absent_at v key s none = subst (λ (o : Option Stored). MatchOption o (Unit {0}) (λ f. f.at ≡ v)) (sym none) tt

-- what is put and given stands at the storage version, or is released
pub put_stands : (s : Server) (n : Names) (log own : List Item) (key : KeyView) (j k : Json) → IsSoundState (state s.meaning log) → CameTo s n (puts key j) log own (given k)
    → IsAbsentOrAt (state s.meaning log).flags.storage key (state s.meaning (log ++ own))
put_stands s n log own key j k sound c =
    let v = c.is.0 in
    let r : ReplyView = c.tells.0 in
    let d = calls.replace (put_of v key j) key in
    let comes = subst (λ (a : Answer). Comes s (Unit {0}) c.stamp c.seen log c.asked (answered a) c.item) c.tells.1 c.comes in
    let decision = decides s c.stamp c.seen log c.asked d c.item (Ok r) c.is.2 (replace_request (put_of v key j) key) (ok_decided r) comes in
    let reply : ReplaceReply s.meaning s.limits s.boot (revision log + 1) (state s.meaning log) (put_of v key j) key (Ok r) c.item =
    replies (ReplaceReply s.meaning s.limits s.boot (revision log + 1) (state s.meaning log) (put_of v key j) key) (Ok r) c.item decision in
    behind_items s (state s.meaning log).flags.storage key log own c.item c.own_is
    (put_given s.meaning s.limits s.boot (revision log + 1) (next_number log) (state s.meaning log) (put_of v key j) key r c.item sound.rising reply)

-- nothing is there that a put doesn't find, and nothing is entered
pub put_finds_none : (s : Server) (n : Names) (log own : List Item) (key : KeyView) (j : Json) → CameTo s n (puts key j) log own gone
    → (find key (state s.meaning log).objects ≡ None) × (own ≡ [])
put_finds_none s n log own key j c =
    let v = c.is.0 in
    let name : List ℕ = c.tells.0 in
    let d = calls.replace (put_of v key j) key in
    let comes = subst (λ (a : Answer). Comes s (Unit {0}) c.stamp c.seen log c.asked (answered a) c.item) c.tells.1 c.comes in
    let decision = decides s c.stamp c.seen log c.asked d c.item (Err (refusal.not_found name)) c.is.2 (replace_request (put_of v key j) key) (missed_decided name) comes in
    let reply : ReplaceReply s.meaning s.limits s.boot (revision log + 1) (state s.meaning log) (put_of v key j) key (Err (refusal.not_found name)) c.item =
    replies (ReplaceReply s.meaning s.limits s.boot (revision log + 1) (state s.meaning log) (put_of v key j) key) (Err (refusal.not_found name)) c.item decision in
    let missed = put_missed s.meaning s.limits s.boot (revision log + 1) (state s.meaning log) (put_of v key j) key name c.item reply in
    (missed.0, c.own_is ∙ ap all_of missed.1)

-- the same of a get
pub get_finds_none : (s : Server) (n : Names) (log own : List Item) (key : KeyView) → CameTo s n (gets key) log own gone → (find key (state s.meaning log).objects ≡ None) × (own ≡ [])
get_finds_none s n log own key c =
    let v = c.is.0 in
    let name : List ℕ = c.tells.0 in
    let comes = subst (λ (a : Answer). Comes s (Unit {0}) c.stamp c.seen log c.asked (answered a) c.item) c.tells.1 c.comes in
    let decision = decides s c.stamp c.seen log c.asked (calls.get v key) c.item (Err (refusal.not_found name)) c.is.2 (get_request v key) (missed_decided name) comes in
    let reply : GetReply s.meaning s.boot (state s.meaning log) v key (Err (refusal.not_found name)) c.item =
    replies (GetReply s.meaning s.boot (state s.meaning log) v key) (Err (refusal.not_found name)) c.item decision in
    let missed = get_missed s.meaning s.boot (state s.meaning log) v key name c.item reply in
    (missed.0, c.own_is ∙ ap all_of missed.1)

pub absent_behind : (s : Server) (v : ℕ) (log own : List Item) (key : KeyView) → find key (state s.meaning log).objects ≡ None → own ≡ [] → IsAbsentOrAt v key (state s.meaning (log ++ own))
absent_behind s v log own key none is = behind_items s v key log own None is (absent_at v key (state s.meaning log) none)

-- ---- lists

-- a page that was given
pub record PageGiven (s : Server) (n : Names) (log own : List Item) (token : List ℕ) (j : Json) : Type 0 where
  pub v : ℕ
  pub most : ℕ
  pub from : Option Place
  pub known : IsVersion s.meaning n.version v
  pub goes_on : query.GoesOn None token from
  pub reply : ReplyView
  pub shown : Shown s.meaning s.limits s.boot log v most from reply
  pub reads : Reads reply.text ANSWER_LEVELS j
  pub nothing : own ≡ []

pub page_given : (s : Server) (n : Names) (log own : List Item) (limit : ℕ) (token : List ℕ) (j : Json) → CameTo s n (lists limit token) log own (given j) → PageGiven s n log own token j
page_given s n log own limit token j c =
    let v = c.is.0 in
    let most = c.is.1 in
    let from = c.is.2 in
    let r : ReplyView = c.tells.0 in
    let d = calls.list v None most from in
    let comes = subst (λ (a : Answer). Comes s (Unit {0}) c.stamp c.seen log c.asked (answered a) c.item) c.tells.1 c.comes in
    let decision = decides s c.stamp c.seen log c.asked d c.item (Ok r) c.is.5 (list_request v None most from) (ok_decided r) comes in
    let reply : ListReply s.meaning s.limits s.boot log v None most from (Ok r) c.item =
    replies (ListReply s.meaning s.limits s.boot log v None most from) (Ok r) c.item decision in
    record {
      v = v;
      most = most;
      from = from;
      known = c.is.3;
      goes_on = c.is.4;
      reply = r;
      shown = shown_by s.meaning s.limits s.boot log v most from r reply.1;
      reads = c.tells.2;
      nothing = c.own_is ∙ ap all_of reply.0;
    }

-- ---- codes

-- an answer with a reply to a call of a migration has the code of success
pub ok_code : (s : Server) (n : Names) (call : Call) (stamp : List ℕ) (seen log : List Item) (c : calls.Call) (i : Option Item) (r : ReplyView) → IsOfMigration call → IsCall s n call c
    → Comes s (Unit {0}) stamp seen log c (answered (Ok r)) i → r.code ≡ code_ok
ok_code s n (lists limit token) stamp seen log c i r fits is comes =
    let d = calls.list is.0 None is.1 is.2 in
    let decision = decides s stamp seen log c d i (Ok r) is.5 (list_request is.0 None is.1 is.2) (ok_decided r) comes in
    let reply = replies (ListReply s.meaning s.limits s.boot log is.0 None is.1 is.2) (Ok r) i decision in
    (shown_by s.meaning s.limits s.boot log is.0 is.1 is.2 r reply.1).shows.0
ok_code s n (gets key) stamp seen log c i r fits is comes =
    let decision = decides s stamp seen log c (calls.get is.0 key) i (Ok r) is.2 (get_request is.0 key) (ok_decided r) comes in
    get_shown s.meaning s.boot (state s.meaning log) is.0 key r i (replies (GetReply s.meaning s.boot (state s.meaning log) is.0 key) (Ok r) i decision)
ok_code s n (puts key j) stamp seen log c i r fits is comes =
    let d = calls.replace (put_of is.0 key j) key in
    let decision = decides s stamp seen log c d i (Ok r) is.2 (replace_request (put_of is.0 key j) key) (ok_decided r) comes in
    put_shown s.meaning s.limits s.boot (revision log + 1) (state s.meaning log) (put_of is.0 key j) key r i
    (replies (ReplaceReply s.meaning s.limits s.boot (revision log + 1) (state s.meaning log) (put_of is.0 key j) key) (Ok r) i decision)
ok_code s n (posts ns j) stamp seen log c i r fits is comes = absurd fits
