-- What a page that a server of a definition gave tells of the objects that stood at its list's first page.
use Rattle.std.proofs.Common.{◌≡◌, ◌∙◌, sym, ap, subst, inl, inr, refl, ℕ, ◌+◌, ◌<◌, ◌≤◌, ◌^◌, List, [], ◌∷◌, ◌++◌, length, map, Option, None, Some, append_assoc, length-append, arith}
use Rattle.std.specs.Prelude.{IsTrue}
use Rattle.kj_value.specs.Json.{Json}
use Rattle.kube_meta.specs.Key.{KeyView}
use Rattle.kube_meta.specs.Page.{Page}
use Rattle.kube_meta.specs.declared.limits.Limits.{Limits}
use Rattle.api_calls.specs.Calls as calls
use Rattle.api_calls.specs.Item.{Item}
use Rattle.api_calls.specs.Legal.{Each, legal}
use Rattle.api_calls.specs.Meaning.{Meaning}
use Rattle.api_calls.specs.Objects.{Stored, object_key}
use Rattle.api_calls.specs.Pages.{Place, place_page}
use Rattle.api_calls.specs.Pages as page
use Rattle.api_calls.specs.Replies.{AreShown}
use Rattle.api_calls.specs.State.{revision, state}
use Rattle.api_calls.specs.Token.{IsToken, token_text}
use Rattle.api_calls.specs.Versions.{KeepsKey, Stand}
use Rattle.http_routes.specs.Actions.{IsVersion}
use Rattle.http_routes.specs.Paths.{IsKey}
use Rattle.place.specs.Place.{Names}
use Rattle.wire_client.specs.Answers.{given}
use Rattle.wire_client.specs.Calls.{lists}
use Rattle.wire_client.specs.Far.{Server}
use Rattle.wire_client.specs.declared.buffer.TheConstants.{ANSWER_LEVELS}
use Rattle.far_migrate.specs.Pages.{first_limit, objects_of, token_of}
use Rattle.far_laws.specs.Answering.{Answered, GoesOn, IsBehind}
use Rattle.far_laws.proofs.Decided.{PageGiven, page_given}
use Rattle.far_laws.proofs.Histories.{few_before, first_from, goes_further, legal_before, next_from, small_before}
use Rattle.far_laws.proofs.Keyed.{given_valid, keys_in, valid_token}
use Rattle.far_laws.proofs.Listing.{IsPageOf, PageCase, last_page, more_follow, first_page, kept_items, next_page}
use Rattle.far_laws.proofs.PageForms.{AreRead, OneReading, TextReads, page_read}
use Rattle.far_laws.proofs.Upgrades.{keys_of}
use Rattle.far_laws.proofs.Values.{IsKept, each_back, kept-all}

-- What is known of a server and its last history: what its values mean, and that numbers and lists are read as they are written.
pub record IsKnown (m : Meaning) (limits : Limits) (boot : ℕ) (n : Names) (far : Server) (last : List Item) : Type 0 where
  pub honest : IsTrue m.honest
  pub legal : legal m limits last
  pub few : limits.objects < 2 ^ 63
  pub counted : revision last < 2 ^ 63
  pub behind : IsBehind (record { meaning = m; limits = limits; boot = boot }) n far
  pub stand : Stand m
  pub keeps : KeepsKey m
  pub text_reads : TextReads
  pub one_reading : OneReading

-- of the objects of a history a list goes on behind the one whose token it is
pub record Cut (m : Meaning) (start : List Item) (token : List ℕ) : Type 0 where
  pub front : List Stored
  pub rest : List Stored
  pub last_seen : Stored
  pub objects : (state m start).objects ≡ front ++ last_seen ∷ rest
  pub token_is : token ≡ token_text (revision start) last_seen.key
  pub is_token : IsToken (revision start) last_seen.key

unfoldable pub further : (m : Meaning) (start : List Item) (token next : List ℕ) → (cut : Cut m start token) → (front rest : List Stored) (e : Stored) → cut.rest ≡ front ++ e ∷ rest
    → next ≡ token_text (revision start) e.key → IsToken (revision start) e.key → Cut m start next
further m start token next cut front rest e parts token_is is_token = record {
  front = cut.front ++ cut.last_seen ∷ front;
  rest = rest;
  last_seen = e;
  objects = cut.objects ∙ ap (λ (ys : List Stored). cut.front ++ cut.last_seen ∷ ys) parts ∙ sym (append_assoc cut.front (cut.last_seen ∷ front) (e ∷ rest));
  token_is = token_is;
  is_token = is_token;
}

-- documents show these objects at the version that a place names
pub record Shows (m : Meaning) (boot : ℕ) (n : Names) (es : List Stored) (js : List Json) : Type 0 where
  pub v : ℕ
  pub version : IsVersion m n.version v
  pub shown : AreShown m boot v es js

-- what a page of these objects reads as: all of them, or a front and the token of its last one
pub data ReadsAs (m : Meaning) (boot : ℕ) (n : Names) (number : ℕ) (xs : List Stored) (j : Json) : Type 0 where
  whole : Shows m boot n xs (objects_of j) → keys_of j ≡ map object_key xs → token_of j ≡ [] → ReadsAs m boot n number xs j
  front_of : (front rest : List Stored) (e : Stored) → Shows m boot n (front ++ e ∷ []) (objects_of j) → keys_of j ≡ map object_key (front ++ e ∷ []) → xs ≡ front ++ e ∷ rest
      → token_of j ≡ token_text number e.key → IsToken number e.key → ReadsAs m boot n number xs j

last_of_keys : (P : KeyView → Type 0) (front : List Stored) (e : Stored) → Each P (map object_key (front ++ e ∷ [])) → P e.key
last_of_keys P [] e each_of = each_of.0
last_of_keys P (f ∷ fs) e each_of = last_of_keys P fs e each_of.1

module _ (m : Meaning) (limits : Limits) (boot : ℕ) (n : Names) (far : Server) (last : List Item) (k : IsKnown m limits boot n far last) where
  abbrev server : calls.Server
  server = record { meaning = m; limits = limits; boot = boot }

  page_reads : (number v : ℕ) (xs : List Stored) (p : Page Stored) (j : Json) → number < 2 ^ 64 → IsVersion m n.version v
      → IsPageOf number xs p → AreRead m k.stand k.keeps k.honest boot v j p → Each IsKey (keys_in j) → ReadsAs m boot n number xs j
  page_reads number v xs p j few version of read valid = by of.case
    where
      shows : (ys : List Stored) → p.items ≡ ys → Shows m boot n ys (objects_of j)
      shows ys items = record { v = v; version = version; shown = subst (λ (zs : List Stored). AreShown m boot v zs (objects_of j)) items read.shown }

      by : PageCase number xs p → ReadsAs m boot n number xs j
      by (last_page items none) = whole (shows xs items) (read.keys ∙ ap (λ (ys : List Stored). map object_key ys) items) (read.token ∙ none)
      by (more_follow front rest e items cut token_is) =
          let keys : keys_of j ≡ map object_key (front ++ e ∷ []) = read.keys ∙ ap (λ (ys : List Stored). map object_key ys) items in
          front_of front rest e (shows (front ++ e ∷ []) items) keys cut (read.token ∙ token_is)
          (valid_token number e.key few (last_of_keys IsKey front e (subst (λ (ks : List KeyView). Each IsKey ks) keys valid)))

  -- of a page of these objects that was given
  given_reads : (log own : List Item) (limit : ℕ) (token : List ℕ) (j : Json) (number : ℕ) (xs : List Stored) → (a : Answered far n (lists limit token) log own (given j))
      → (g : PageGiven server n log own token j) → number < 2 ^ 64 → length xs < 2 ^ 63 → Each (IsKept m) xs → IsPageOf number xs g.shown.paged → ReadsAs m boot n number xs j
  given_reads log own limit token j number xs a g few small kept of =
      let left = of.few in
      let read = page_read m k.stand k.keeps k.honest boot g.v ANSWER_LEVELS g.shown.paged g.reply j k.text_reads k.one_reading g.known.0
      (kept_items m number xs g.shown.paged kept of) (omega (arith, left, small)) g.shown.shows g.reads in
      page_reads number g.v xs g.shown.paged j few g.known of read (given_valid n limit token a.bytes j a.replies)

  -- the first page has objects that stand there
  pub first_reads : (log own : List Item) (limit : ℕ) (j : Json) → limit ≤ first_limit → GoesOn (log ++ own) last → Answered far n (lists limit []) log own (given j)
      → ReadsAs m boot n (revision log) (state m log).objects j × (own ≡ [])
  first_reads log own limit j small r a =
      let to = goes_further log (log ++ own) last (own, refl) r in
      let g = page_given server n log own limit [] j (k.behind.gives (lists limit []) (small, inl refl) log own j a) in
      let none = first_from g.from g.goes_on in
      let of : IsPageOf (revision log) (state m log).objects g.shown.paged =
      first_page m limits log g.most g.shown.paged (subst (λ (o : Option Place). place_page limits m log None g.most o ≡ page.shown g.shown.paged) none g.shown.is) in (
        given_reads log own limit [] j (revision log) (state m log).objects a g (few_before log last k.counted to) (small_before m limits log last k.few k.legal to)
            (kept-all m k.honest limits log (legal_before m limits log last k.legal to)) of,
        g.nothing,
      )

  -- a later page has those that are left behind the object of its token
  pub next_reads : (start log own : List Item) (limit : ℕ) (token : List ℕ) (j : Json) → limit ≤ first_limit → GoesOn start log → GoesOn (log ++ own) last → (cut : Cut m start token)
      → Answered far n (lists limit token) log own (given j) → ReadsAs m boot n (revision start) cut.rest j × (own ≡ [])
  next_reads start log own limit token j small p r cut a =
      let to = goes_further log (log ++ own) last (own, refl) r in
      let to_start = goes_further start log last p to in
      let legal_start = legal_before m limits start last k.legal to_start in
      let g = page_given server n log own limit token j (k.behind.gives (lists limit token) (small, inr (record { number = revision start; key = cut.last_seen.key; token = cut.is_token; spelled = cut.token_is })) log own j a) in
      let from_is = next_from token (revision start) cut.last_seen.key g.from cut.token_is cut.is_token g.goes_on in
      let shown : place_page limits m (start ++ p.0) None g.most (Some (record { number = revision start; key = cut.last_seen.key })) ≡ page.shown g.shown.paged =
      subst (λ (l : List Item). place_page limits m l None g.most (Some (record { number = revision start; key = cut.last_seen.key })) ≡ page.shown g.shown.paged) p.1
      (subst (λ (o : Option Place). place_page limits m log None g.most o ≡ page.shown g.shown.paged) from_is g.shown.is) in
      let of = next_page m limits start p.0 g.most cut.front cut.rest cut.last_seen g.shown.paged legal_start cut.objects shown in
      let kept_all : Each (IsKept m) (cut.front ++ cut.last_seen ∷ cut.rest) =
      subst (λ (ys : List Stored). Each (IsKept m) ys) cut.objects (kept-all m k.honest limits start legal_start) in
      let kept : Each (IsKept m) cut.rest = (each_back (IsKept m) cut.front (cut.last_seen ∷ cut.rest) kept_all).1 in
      let few : length (cut.front ++ cut.last_seen ∷ cut.rest) < 2 ^ 63 = subst (λ (ys : List Stored). length ys < 2 ^ 63) cut.objects (small_before m limits start last k.few k.legal to_start) in
      let parts : length (cut.front ++ cut.last_seen ∷ cut.rest) ≡ length cut.front + length (cut.last_seen ∷ cut.rest) = length-append cut.front (cut.last_seen ∷ cut.rest) in (
        given_reads log own limit token j (revision start) cut.rest a g (few_before start last k.counted to_start) (omega (arith, few, parts)) kept of,
        g.nothing,
      )
