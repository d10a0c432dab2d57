-- What a client is given are forms of objects that stood at some history, with their numbers.
use Rattle.std.proofs.Common.{◌≡◌, ◌∙◌, refl, sym, ap, subst, ℕ, Bool, true, false, List, [], ◌∷◌, ◌++◌, map, Option, None, Some, Ok, Err, append-nil, decimal, arith}
use Rattle.std.specs.Prelude.{IsUtf8, MatchBool, MatchOption}
use Rattle.kj_value.specs.Json.{Json, depth}
use Rattle.kj_value.specs.Reading.{Reads}
use Rattle.kj_value.specs.Text.{text_of}
use Rattle.kube_meta.specs.Document.{document}
use Rattle.kube_meta.specs.Key.{KeyView}
use Rattle.kube_meta.specs.View.{ObjectView}
use Rattle.kube_meta.specs.declared.limits.Limits.{Limits}
use Rattle.api_calls.specs.Calls as calls
use Rattle.api_calls.specs.Documents.{numbered}
use Rattle.api_calls.specs.Item.{Item}
use Rattle.api_calls.specs.Legal.{Each}
use Rattle.api_calls.specs.Meaning.{Meaning}
use Rattle.api_calls.specs.Objects.{Stored, find, object_key}
use Rattle.api_calls.specs.Refusal as refusal
use Rattle.api_calls.specs.Replies.{Answer, AreShown, GetReply, ShowsObject, code_ok}
use Rattle.api_calls.specs.Reply.{ReplyView}
use Rattle.api_calls.specs.State.{served, state}
use Rattle.api_calls.specs.Uid.{uid}
use Rattle.api_calls.specs.Versions.{StandsAt}
use Rattle.api_calls.specs.laws.ObjectLaws.{each-find}
use Rattle.http_routes.specs.Actions.{IsVersion}
use Rattle.http_routes.specs.Paths.{IsKey}
use Rattle.place.specs.Place.{Names}
use Rattle.wire_client.specs.Answers.{given}
use Rattle.wire_client.specs.Calls.{gets}
use Rattle.wire_client.specs.Far.{Server}
use Rattle.wire_client.specs.declared.buffer.TheConstants.{ANSWER_LEVELS}
use Rattle.far_migrate.specs.Puts.{key_of}
use Rattle.far_laws.specs.Answering.{Answered, CameTo, GoesOn}
use Rattle.far_laws.proofs.Decided.{get_request, decides, ok_decided, replies}
use Rattle.far_laws.proofs.Histories.{goes_further, legal_before}
use Rattle.far_laws.proofs.PageForms.{numbered_depth, numbered_sound}
use Rattle.far_laws.proofs.Paging.{IsKnown}
use Rattle.far_laws.proofs.Values.{IsKept, kept-all}

-- j is what is shown, at the version that the place names, of the object of that key at a history before
pub record IsFormOf (m : Meaning) (boot : ℕ) (n : Names) (log : List Item) (key : KeyView) (j : Json) : Type 0 where
  pub start : List Item
  pub to : GoesOn start log
  pub object : Stored
  pub there : find key (state m start).objects ≡ Some object
  pub v : ℕ
  pub version : IsVersion m n.version v
  pub form : ObjectView
  pub pair : m.pair v object.h form
  pub is : j ≡ document (numbered boot object.number object.born form)

pub later : (m : Meaning) (boot : ℕ) (n : Names) (log next : List Item) (key : KeyView) (j : Json) → GoesOn log next → IsFormOf m boot n log key j → IsFormOf m boot n next key j
later m boot n log next key j on f = record {
  start = f.start;
  to = goes_further f.start log next f.to on;
  object = f.object;
  there = f.there;
  v = f.v;
  version = f.version;
  form = f.form;
  pair = f.pair;
  is = f.is;
}

abbrev pub AreForms : Meaning → ℕ → Names → List Item → List Json → Type 0
AreForms m boot n log js = Each (λ j. IsFormOf m boot n log (key_of j) j) js

pub all_later : (m : Meaning) (boot : ℕ) (n : Names) (log next : List Item) (js : List Json) → GoesOn log next → AreForms m boot n log js → AreForms m boot n next js
all_later m boot n log next [] on fs = tt
all_later m boot n log next (j ∷ js) on fs = (later m boot n log next (key_of j) j on fs.0, all_later m boot n log next js on fs.1)

first_key : (j : Json) (js : List Json) (e : Stored) (es : List Stored) → map key_of (j ∷ js) ≡ map object_key (e ∷ es) → (key_of j ≡ e.key) × (map key_of js ≡ map object_key es)
first_key j js e es same = (cc, cc)

module _ (m : Meaning) (limits : Limits) (boot : ℕ) (n : Names) (far : Server) (last : List Item) (k : IsKnown m limits boot n far last) where
  -- of a page
  pub page_forms : (start log : List Item) → GoesOn start log → (v : ℕ) → IsVersion m n.version v → (es : List Stored) (js : List Json)
      → Each (λ e. find e.key (state m start).objects ≡ Some e) es → AreShown m boot v es js → map key_of js ≡ map object_key es → AreForms m boot n log js
  page_forms start log to v version [] [] there shown keys = tt
  page_forms start log to v version (e ∷ es) (j ∷ js) there shown keys =
      let parts = first_key j js e es keys in (
        record {
          start = start;
          to = to;
          object = e;
          there = ap (λ (key : KeyView). find key (state m start).objects) parts.0 ∙ there.0;
          v = v;
          version = version;
          form = shown.0.0;
          pair = shown.0.1 k.honest;
          is = shown.0.2;
        },
        page_forms start log to v version es js there.1 shown.1 parts.1,
      )
  page_forms start log to v version [] (j ∷ js) there shown keys = absurd shown
  page_forms start log to v version (e ∷ es) [] there shown keys = absurd shown

  -- of a get
  abbrev server : calls.Server
  server = record { meaning = m; limits = limits; boot = boot }

  record Gotten (log : List Item) (v : ℕ) (key : KeyView) (r : ReplyView) : Type 0 where
    object : Stored
    there : find key (state m log).objects ≡ Some object
    shows : ShowsObject m boot code_ok v object.h object.number object.born (Ok r)

  gotten : (log : List Item) (v : ℕ) (key : KeyView) (r : ReplyView) (i : Option Item) → GetReply m boot (state m log) v key (Ok r) i → Gotten log v key r
  gotten log v key r i reply = by_served (served (state m log).flags v) reply.1
    where
      by_found : (o : Option Stored) → find key (state m log).objects ≡ o → MatchOption o (Ok r ≡ Err (refusal.not_found key.name)) (λ e. ShowsObject m boot code_ok v e.h e.number e.born (Ok r)) → Gotten log v key r
      by_found None there is = cc
      by_found (Some e) there shows = record { object = e; there = there; shows = shows }

      by_served : (b : Bool)
          → MatchBool b (MatchOption (find key (state m log).objects) (Ok r ≡ Err (refusal.not_found key.name)) (λ e. ShowsObject m boot code_ok v e.h e.number e.born (Ok r))) (Ok r ≡ Err refusal.no_resource)
          → Gotten log v key r
      by_served true h = by_found (find key (state m log).objects) refl h
      by_served false h = cc

  pub get_form : (log own : List Item) (key : KeyView) (j : Json) → IsKey key → GoesOn (log ++ own) last → Answered far n (gets key) log own (given j) → IsFormOf m boot n log key j
  get_form log own key j valid r a =
      let to = goes_further log (log ++ own) last (own, refl) r in
      let c : CameTo server n (gets key) log own (given j) = k.behind.gives (gets key) valid log own j a in
      let v = c.is.0 in
      let reply : ReplyView = c.tells.0 in
      let comes = subst (λ (x : Answer). calls.Comes server (Unit {0}) c.stamp c.seen log c.asked (calls.answered x) c.item) c.tells.1 c.comes in
      let decision = decides server c.stamp c.seen log c.asked (calls.get v key) c.item (Ok reply) c.is.2 (get_request v key) (ok_decided reply) comes in
      let got = gotten log v key reply c.item (replies (GetReply m boot (state m log) v key) (Ok reply) c.item decision) in
      let e = got.object in
      let kept = each-find (IsKept m) key (state m log).objects e (kept-all m k.honest limits log (legal_before m limits log last k.legal to)) got.there in
      let x : ObjectView = got.shows.1.0 in
      let pairs : m.pair v e.h x = got.shows.1.1 k.honest in
      let stands : StandsAt m v x = k.stand.pair v e.h x c.is.1.0 kept.whole pairs in
      let shown : Json = document (numbered boot e.number e.born x) in
      let spelled : reply.text ≡ text_of shown = got.shows.1.2 in
      let sound = numbered_sound x (decimal e.number) (uid boot e.born) stands.no_number stands.no_uid stands.sound in
      let deep : depth shown ≡ depth (document x) = numbered_depth x (decimal e.number) (uid boot e.born) stands.no_number stands.no_uid in
      let levels = stands.levels in
      let reads = c.tells.2 in
      let utf8 : IsUtf8 (text_of shown) = subst (λ (bytes : List ℕ). IsUtf8 bytes) spelled reads.1.0 in
      let back = k.text_reads shown sound (omega (arith, deep, levels)) utf8 in
      record {
        start = log;
        to = ([], sym (append-nil log));
        object = e;
        there = got.there;
        v = v;
        version = c.is.1;
        form = x;
        pair = pairs;
        is = k.one_reading (text_of shown) ANSWER_LEVELS (depth shown) j shown (subst (λ (bytes : List ℕ). Reads bytes ANSWER_LEVELS j) spelled reads) back;
      }
