-- Along the pages of a dump the objects so far are those of one history, up to one.
use Rattle.std.proofs.Common.{◌≡◌, ◌∙◌, refl, sym, subst, ℕ, ◌≤◌, ◌/◌, true, false, List, [], ◌∷◌, ◌++◌, append_assoc, arith}
use Rattle.kj_value.specs.Json.{Json}
use Rattle.kube_meta.specs.declared.limits.Limits.{Limits}
use Rattle.edge_io.specs.Exchanges.{Exchange}
use Rattle.api_calls.specs.Calls as calls
use Rattle.api_calls.specs.Item.{Item}
use Rattle.api_calls.specs.Meaning.{Meaning}
use Rattle.api_calls.specs.Objects.{Stored}
use Rattle.api_calls.specs.Replies.{AreShown}
use Rattle.api_calls.specs.State.{revision, state}
use Rattle.api_calls.specs.Versions.{KeepsKey, NamesDiffer, Stand}
use Rattle.place.specs.Place.{Names}
use Rattle.wire_client.specs.Answers.{given}
use Rattle.wire_client.specs.Calls.{lists}
use Rattle.wire_client.specs.Far.{Chain, Server}
use Rattle.far_migrate.specs.Answered.{Did}
use Rattle.far_migrate.specs.Pages.{first_limit, is_empty, objects_of, token_of}
use Rattle.record_dump.specs.Dumps.{Walk, after_page, at_first}
use Rattle.record_dump.specs.Told as told
use Rattle.record_dump.specs.Told.{IsWhole, Lists}
use Rattle.far_laws.specs.Answering.{Answered, GoesOn, IsBehind}
use Rattle.far_laws.proofs.Histories.{answered_at, chain_on, empty_is, goes_further, goes_nowhere, not_empty, serves_on, turned}
use Rattle.far_laws.proofs.Keyed.{token_some}
use Rattle.far_laws.proofs.PageForms.{OneReading, TextReads}
use Rattle.far_laws.proofs.Paging.{Cut, IsKnown, ReadsAs, Shows, first_reads, front_of, further, next_reads, whole}
use Rattle.far_laws.specs.Dumped as dumped
use Rattle.far_laws.specs.Dumped.{AreAll, IsDumpOf}

pub known_of : (m : Meaning) (limits : Limits) (boot : ℕ) (n : Names) (far : Server) (last : List Item) → dumped.IsKnown m limits last
    → IsBehind (record { meaning = m; limits = limits; boot = boot }) n far → Stand m → KeepsKey m → TextReads → OneReading → IsKnown m limits boot n far last
known_of m limits boot n far last known behind stand keeps text_reads one_reading = record {
  honest = known.honest;
  legal = known.legal;
  few = known.few;
  counted = known.counted;
  behind = behind;
  stand = stand;
  keeps = keeps;
  text_reads = text_reads;
  one_reading = one_reading;
}

-- objects shown one after the other
shown_append : (m : Meaning) (boot v : ℕ) (xs ys : List Stored) (js ks : List Json) → AreShown m boot v xs js → AreShown m boot v ys ks → AreShown m boot v (xs ++ ys) (js ++ ks)
shown_append m boot v [] ys [] ks first more = more
shown_append m boot v (x ∷ xs) ys (j ∷ js) ks first more = (first.0, shown_append m boot v xs ys js ks first.1 more)
shown_append m boot v [] ys (j ∷ js) ks first more = absurd first
shown_append m boot v (x ∷ xs) ys [] ks first more = absurd first

module _ (m : Meaning) (limits : Limits) (boot : ℕ) (n : Names) (far : Server) (first last : List Item) (known : IsKnown m limits boot n far last) (names : NamesDiffer m) where
  abbrev server : calls.Server
  server = record { meaning = m; limits = limits; boot = boot }

  -- both are shown at the version of the name
  both_show : (xs ys : List Stored) (js ks : List Json) → Shows m boot n xs js → Shows m boot n ys ks → Shows m boot n (xs ++ ys) (js ++ ks)
  both_show xs ys js ks a b =
      let same : b.v ≡ a.v = names.differ b.v a.v b.version.0 a.version.0 (b.version.1 ∙ sym a.version.1) in
      record { v = a.v; version = a.version; shown = shown_append m boot a.v xs ys js ks a.shown (subst (λ (v : ℕ). AreShown m boot v ys ks) same b.shown) }

  -- a list is at its first page; or it began at a history, of whose objects those up to one were listed
  record IsLeft (log : List Item) (token : List ℕ) (seen : List Json) : Type 0 where
    start : List Item
    from : GoesOn first start
    to : GoesOn start log
    cut : Cut m start token
    shown : Shows m boot n (cut.front ++ cut.last_seen ∷ []) seen

  data Place (log : List Item) : List ℕ → List Json → Type 0 where
    begin : Place log [] []
    later : (token : List ℕ) (seen : List Json) → IsLeft log token seen → Place log token seen

  place_stays : (log next : List Item) (token : List ℕ) (seen : List Json) → GoesOn log next → Place log token seen → Place next token seen
  place_stays log next _ _ on begin = begin
  place_stays log next _ _ on (later token seen left) =
      later token seen (record { start = left.start; from = left.from; to = goes_further left.start log next left.to on; cut = left.cut; shown = left.shown })

  -- all objects of a history between the two
  record IsMoment (objects : List Json) : Type 0 where
    at : List Item
    from : GoesOn first at
    to : GoesOn at last
    shown : Shows m boot n (state m at).objects objects

  -- ---- a page

  all_seen : (start : List Item) (token : List ℕ) (cut : Cut m start token) (xs : List Stored) (seen js : List Json) → Shows m boot n (cut.front ++ cut.last_seen ∷ []) seen → Shows m boot n xs js
      → Shows m boot n (cut.front ++ cut.last_seen ∷ xs) (seen ++ js)
  all_seen start token cut xs seen js a b =
      subst (λ (ys : List Stored). Shows m boot n ys (seen ++ js)) (append_assoc cut.front (cut.last_seen ∷ []) xs) (both_show (cut.front ++ cut.last_seen ∷ []) xs seen js a b)

  page_last : (at own : List Item) (limit : ℕ) (token : List ℕ) (seen : List Json) (j : Json) → limit ≤ first_limit → Place at token seen → GoesOn first at → GoesOn (at ++ own) last
      → Answered far n (lists limit token) at own (given j) → is_empty (token_of j) ≡ true → IsMoment (seen ++ objects_of j)
  page_last at own limit _ _ j small begin from to a ends = by (first_reads m limits boot n far last known at own limit j small to a).0
    where
      by : ReadsAs m boot n (revision at) (state m at).objects j → IsMoment (objects_of j)
      by (whole shows keys no_token) = record { at = at; from = from; to = goes_further at (at ++ own) last (own, refl) to; shown = shows }
      by (front_of front rest e shows keys cut token_is is_token) = absurd (token_some (revision at) e.key is_token (sym token_is ∙ empty_is (token_of j) ends))
  page_last at own limit _ _ j small (later token seen left) from to a ends =
      by (next_reads m limits boot n far last known left.start at own limit token j small left.to to left.cut a).0
    where
      by : ReadsAs m boot n (revision left.start) left.cut.rest j → IsMoment (seen ++ objects_of j)
      by (whole shows keys no_token) = record {
        at = left.start;
        from = left.from;
        to = goes_further left.start at last left.to (goes_further at (at ++ own) last (own, refl) to);
        shown = subst (λ (ys : List Stored). Shows m boot n ys (seen ++ objects_of j)) (sym left.cut.objects) (all_seen left.start token left.cut left.cut.rest seen (objects_of j) left.shown shows);
      }
      by (front_of front rest e shows keys cut token_is is_token) = absurd (token_some (revision left.start) e.key is_token (sym token_is ∙ empty_is (token_of j) ends))

  page_more : (at own : List Item) (limit : ℕ) (token : List ℕ) (seen : List Json) (j : Json) → limit ≤ first_limit → Place at token seen → GoesOn first at → GoesOn (at ++ own) last
      → Answered far n (lists limit token) at own (given j) → is_empty (token_of j) ≡ false → IsLeft (at ++ own) (token_of j) (seen ++ objects_of j)
  unfolding further
  page_more at own limit _ _ j small begin from to a more = by (first_reads m limits boot n far last known at own limit j small to a).0
    where
      by : ReadsAs m boot n (revision at) (state m at).objects j → IsLeft (at ++ own) (token_of j) (objects_of j)
      by (whole shows keys no_token) = absurd (not_empty (token_of j) no_token more)
      by (front_of front rest e shows keys parts token_is is_token) = record {
        start = at;
        from = from;
        to = (own, refl);
        cut = record { front = front; rest = rest; last_seen = e; objects = parts; token_is = token_is; is_token = is_token };
        shown = shows;
      }
  page_more at own limit _ _ j small (later token seen left) from to a more =
      by (next_reads m limits boot n far last known left.start at own limit token j small left.to to left.cut a).0
    where
      by : ReadsAs m boot n (revision left.start) left.cut.rest j → IsLeft (at ++ own) (token_of j) (seen ++ objects_of j)
      by (whole shows keys no_token) = absurd (not_empty (token_of j) no_token more)
      by (front_of front rest e shows keys parts token_is is_token) = record {
        start = left.start;
        from = left.from;
        to = goes_further left.start at (at ++ own) left.to (own, refl);
        cut = further m left.start token (token_of j) left.cut front rest e parts token_is is_token;
        shown = subst (λ (ys : List Stored). Shows m boot n ys (seen ++ objects_of j)) (sym (append_assoc left.cut.front (left.cut.last_seen ∷ front) (e ∷ [])))
            (all_seen left.start token left.cut (front ++ e ∷ []) seen (objects_of j) left.shown shows);
      }

  -- ---- all pages

  -- where a page was given, and what follows it
  record Given (log : List Item) (limit : ℕ) (token : List ℕ) (seen : List Json) (j : Json) (es : List Exchange) : Type 0 where
    at : List Item
    own : List Item
    from : GoesOn first at
    place : Place at token seen
    answered : Answered far n (lists limit token) at own (given j)
    rest : Chain far (at ++ own) es last

  given_at : (log : List Item) (limit : ℕ) (token : List ℕ) (seen : List Json) (j : Json) (e : Exchange) (es : List Exchange) → Did n (lists limit token) e (given j) → Place log token seen
      → GoesOn first log → Chain far log (e ∷ es) last → Given log limit token seen j es
  given_at log limit token seen j e es did place from chain =
      let t = turned far log e es last chain in
      let c = answered_at far n (lists limit token) log (given j) t.mid e did tt t.serves in
      record {
        at = c.at;
        own = c.own;
        from = goes_further first log c.at from c.on;
        place = place_stays log c.at token seen c.on place;
        answered = c.answered;
        rest = subst (λ (l : List Item). Chain far l es last) c.mid_is t.rest;
      }

  all_listed : (a : Walk) (es : List Exchange) (js : List Json) (log : List Item) (seen : List Json) → Lists n a es js → a.limit ≤ first_limit → Place log a.token seen → GoesOn first log
      → Chain far log es last → IsMoment (seen ++ js)
  all_listed _ _ _ log seen (told.last a j e did goes ends) small place from chain =
      let g = given_at log a.limit a.token seen j e [] did place from chain in
      page_last g.at g.own a.limit a.token seen j small g.place g.from (chain_on far (g.at ++ g.own) [] last g.rest) g.answered ends
  all_listed _ _ _ log seen (told.page a j e es js did goes more rest) small place from chain =
      let g = given_at log a.limit a.token seen j e es did place from chain in
      let to = chain_on far (g.at ++ g.own) es last g.rest in
      let left = page_more g.at g.own a.limit a.token seen j small g.place g.from to g.answered more in
      subst (λ (ks : List Json). IsMoment ks) (append_assoc seen (objects_of j) js)
      (all_listed (after_page a j) es js (g.at ++ g.own) (seen ++ objects_of j) rest small (later (token_of j) (seen ++ objects_of j) left)
      (goes_further first g.at (g.at ++ g.own) g.from (g.own, refl)) g.rest)
  all_listed _ _ _ log seen (told.shorter a e es js did some rest) small place from chain =
      let t = turned far log e es last chain in
      let on = serves_on far log e t.mid t.serves in
      all_listed (record a { limit = a.limit / 2 }) es js t.mid seen rest (omega (arith, small)) (place_stays log t.mid a.token seen on place) (goes_further first log t.mid from on) t.rest

  pub whole_dump : (es : List Exchange) (written : List ℕ) (lines : ℕ) → Chain far first es last → IsWhole n es written lines → IsDumpOf server n first last written lines
  whole_dump es written lines chain dump =
      let moment = all_listed at_first es dump.objects first [] dump.lists (omega arith) begin (goes_nowhere first) chain in
      record {
        at = moment.at;
        from = moment.from;
        to = moment.to;
        objects = dump.objects;
        all = record { v = moment.shown.v; version = moment.shown.version; shown = moment.shown.shown };
        wrote = dump.wrote;
        count = dump.count;
      }
