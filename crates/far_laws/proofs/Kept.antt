-- Along a migration each answer's own items keep all values.
use Rattle.std.proofs.Common.{◌≡◌, ◌∙◌, refl, sym, ap, subst, inl, inr, ℕ, suc, ◌<◌, ◌≤◌, ◌^◌, false, List, [], ◌∷◌, ◌++◌, append_assoc, append-nil, length, map, take, ◌+◌, Option, None, Some, decimal, arith}
use Rattle.std.specs.Prelude.{◌⊎◌, ◌/◌, option_map}
use Rattle.std.proofs.Math.Seq.{take-append_seam, take-length}
use Rattle.std.specs.Str.Parse.{digits_value}
use Rattle.std.proofs.lemmas.Fmt.{decimal_is_IsNumeral, decimal_nonempty}
use Rattle.kj_value.specs.Json.{Json}
use Rattle.kj_value.specs.Text.{text_of}
use Rattle.kube_meta.specs.Key.{KeyView}
use Rattle.kube_meta.specs.View.{ObjectView}
use Rattle.kube_meta.specs.declared.limits.Limits.{Limits}
use Rattle.edge_io.specs.Exchanges.{Exchange}
use Rattle.object_reading.specs.Parts.{not_empty}
use Rattle.api_calls.specs.Calls as calls
use Rattle.api_calls.specs.Documents.{numbered}
use Rattle.api_calls.specs.Item.{Item}
use Rattle.api_calls.specs.Legal.{Each, In}
use Rattle.api_calls.specs.Meaning.{Meaning}
use Rattle.api_calls.specs.Objects.{Stored, find}
use Rattle.api_calls.specs.Replies.{GetReply, ListReply, ReplaceReply}
use Rattle.api_calls.specs.State.{number_from, opening, revision, state}
use Rattle.api_calls.specs.Uid.{uid}
use Rattle.api_calls.specs.Token.{IsToken, token_text}
use Rattle.api_calls.specs.LegalLists.{Holds}
use Rattle.api_calls.specs.Versions.{NamesDiffer, StandsAt}
use Rattle.api_calls.specs.laws.GrowthLaws.{next_number-revision}
use Rattle.api_calls.specs.laws.SpelledLaws.{standing-writable}
use Rattle.api_calls.specs.laws.ObjectLaws.{each-find}
use Rattle.api_calls.proofs.Held.{held-all}
use Rattle.api_calls.proofs.Lists.{each}
use Rattle.api_calls.proofs.Numbers.{each_self, numbered-from, numbered-opening, one-value}
use Rattle.api_calls.proofs.Snaps.{in-find}
use Rattle.api_calls.proofs.Sound.{sound-all}
use Rattle.http_routes.specs.Actions.{IsVersion}
use Rattle.http_routes.specs.Paths.{IsKey}
use Rattle.place.specs.Place.{Names}
use Rattle.wire_client.specs.Answers.{given}
use Rattle.wire_client.specs.Calls.{Call, gets, lists, puts, request_of}
use Rattle.wire_client.specs.Far.{Chain, Server, Serves}
use Rattle.far_migrate.specs.Answered.{Did}
use Rattle.far_migrate.specs.Counts.{Counts, counted}
use Rattle.far_migrate.specs.Migrates.{Migrates}
use Rattle.far_migrate.specs.Pages as pages
use Rattle.far_migrate.specs.Pages.{Run, Runs, Step, Stop, at_first, first_limit, is_empty, objects_of, token_of}
use Rattle.far_migrate.specs.Puts as puts_of
use Rattle.far_migrate.specs.Puts.{Handled, Outcome, PutBack, PutsBack, key_of, most_puts}
use Rattle.far_laws.specs.Answering.{Answered, Entered, GoesOn, IsOfMigration, all_of}
use Rattle.far_laws.proofs.Decided.{item_or, put_of, replies}
use Rattle.far_laws.proofs.Histories.{answered_at, chain_on, few_before, goes_further, goes_nowhere, joined, legal_before, not_empty as has_token, serves_on, turned}
use Rattle.far_laws.proofs.Keyed.{given_valid}
use Rattle.far_laws.proofs.PageForms.{numbered_depth, numbered_sound}
use Rattle.far_laws.proofs.Paging.{Cut, IsKnown, ReadsAs, first_reads, front_of, further, next_reads, whole}
use Rattle.far_laws.proofs.Values.{IsKept, each_back, each_front, find_key, kept-all}
use Rattle.far_laws.specs.GivenBack.{GivesBack, IsLike, number_of, unstamped}
use Rattle.far_laws.specs.Keeping.{KeepsValues, keeping}
use Rattle.far_laws.proofs.Replaced.{AdmitsSame, keeps_none, reply_writes, writes_keep}
use Rattle.far_laws.proofs.Shown.{AreForms, IsFormOf, all_later, get_form, later, page_forms}

keeps_by : (m : Meaning) (log own : List Item) (i : Option Item) → own ≡ all_of i → KeepsValues m log (all_of i) → KeepsValues m log own
keeps_by m log own i is keeps = subst (λ (items : List Item). KeepsValues m log items) (sym is) keeps

keeps_nothing : (m : Meaning) (log own : List Item) → own ≡ [] → KeepsValues m log own
keeps_nothing m log own none = keeps_by m log own None none (keeps_none m log None refl)

-- the number that is shown is the object's
number_back : (n : ℕ) → n < 2 ^ 64 → (o : Option (List ℕ)) → o ≡ Some (decimal n) → not_empty o ≡ Some (decimal n)
number_back n few None is = cc
number_back n few (Some []) is = absurd (nothing cc)
  where
    nothing : decimal n ≡ [] → ⊥
    nothing none = let some = decimal_nonempty n few in let long : length (decimal n) ≡ 0 = ap (λ (ds : List ℕ). length ds) none in omega (arith, some, long)
number_back n few (Some (b ∷ bs)) is = is

some_one : (x y : ℕ) → Some x ≡ Some y → x ≡ y
some_one x y e = cc

module _ (m : Meaning) (limits : Limits) (boot : ℕ) (n : Names) (far : Server) (last : List Item) (k : IsKnown m limits boot n far last) (names : NamesDiffer m) (gives : GivesBack m) where
  abbrev kept : Server
  kept = keeping m far

  abbrev server : calls.Server
  server = record { meaning = m; limits = limits; boot = boot }

  -- ---- what an answer enters

  list_keeps : (limit : ℕ) (token : List ℕ) → IsOfMigration (lists limit token) → (log own bytes : _) → far.answers log (request_of n (lists limit token)) bytes own → KeepsValues m log own
  list_keeps limit token fits log own bytes a = by (k.behind.enters (lists limit token) fits log own bytes a)
    where
      by : (own ≡ []) ⊎ Entered server n (lists limit token) log own → KeepsValues m log own
      by (inl none) = keeps_nothing m log own none
      by (inr c) = by_item (item_or server c.stamp c.seen log c.asked (calls.list c.is.0 None c.is.1 c.is.2) (calls.answered c.answer) c.item c.answer c.is.5 refl c.comes)
        where
          by_item : (c.item ≡ None) ⊎ calls.Decides server c.stamp log (calls.list c.is.0 None c.is.1 c.is.2) (calls.answered c.answer) c.item → KeepsValues m log own
          by_item (inl none) = keeps_by m log own c.item c.own_is (keeps_none m log c.item none)
          by_item (inr h) = keeps_by m log own c.item c.own_is (keeps_none m log c.item (replies (ListReply m limits boot log c.is.0 None c.is.1 c.is.2) c.answer c.item h).0)

  get_keeps : (key : KeyView) → IsKey key → (log own : List Item) (bytes : List ℕ) → far.answers log (request_of n (gets key)) bytes own → KeepsValues m log own
  get_keeps key valid log own bytes a = by (k.behind.enters (gets key) valid log own bytes a)
    where
      by : (own ≡ []) ⊎ Entered server n (gets key) log own → KeepsValues m log own
      by (inl none) = keeps_nothing m log own none
      by (inr c) = by_item (item_or server c.stamp c.seen log c.asked (calls.get c.is.0 key) (calls.answered c.answer) c.item c.answer c.is.2 refl c.comes)
        where
          by_item : (c.item ≡ None) ⊎ calls.Decides server c.stamp log (calls.get c.is.0 key) (calls.answered c.answer) c.item → KeepsValues m log own
          by_item (inl none) = keeps_by m log own c.item c.own_is (keeps_none m log c.item none)
          by_item (inr h) = keeps_by m log own c.item c.own_is (keeps_none m log c.item (replies (GetReply m boot (state m log) c.is.0 key) c.answer c.item h).0)

  -- the number of an object of a history
  few_number : (log : List Item) (key : KeyView) (e : Stored) → GoesOn log last → find key (state m log).objects ≡ Some e → e.number < 2 ^ 64
  few_number log key e to there =
      let numbered = numbered-from 2 (opening m) log (numbered-opening m) in
      let below = each-find (λ f. f.number < number_from 2 log) key (state m log).objects e numbered.below there in
      let few = few_before log last k.counted to in
      let next = next_number-revision log in
      omega (arith, below, few, next)

  -- two objects of one number are one
  one_number : (log : List Item) (key : KeyView) (start : List Item) (to : GoesOn start log) (e f : Stored) → find key (state m log).objects ≡ Some e → find key (state m start).objects ≡ Some f
      → e.number ≡ f.number → e ≡ f
  one_number log key start to e f there before same =
      one-value m log (length log) (length start) e f
      (subst (λ (xs : List Item). Holds (state m xs) e) (sym (take-length log)) (held log e there))
      (subst (λ (xs : List Item). Holds (state m xs) f) (sym (ap (take (length start)) to.1 ∙ take-append_seam start to.0)) (held start f before)) same
    where
      held : (xs : List Item) (x : Stored) → find key (state m xs).objects ≡ Some x → Holds (state m xs) x
      held xs x is = subst (λ (q : KeyView). find q (state m xs).objects ≡ Some x) (sym (find_key key (state m xs).objects x is)) is

  -- what is admitted of a form over a number is the value that has it
  admits_same : (log : List Item) (key : KeyView) (j : Json) (v : ℕ) → GoesOn log last → IsFormOf m boot n log key j → IsVersion m n.version v → AdmitsSame m (state m log) (put_of v key j) key
  admits_same log key j v to f version g over e admits there at =
      let to_start = goes_further f.start log last f.to to in
      let legal_start = legal_before m limits f.start last k.legal to_start in
      let kept_one = each-find (IsKept m) key (state m f.start).objects f.object (kept-all m k.honest limits f.start legal_start) f.there in
      let same_version : v ≡ f.v = names.differ v f.v version.0 f.version.0 (version.1 ∙ sym f.version.1) in
      let stands : StandsAt m f.v f.form = k.stand.pair f.v f.object.h f.form f.version.0 kept_one.whole f.pair in
      let writable = standing-writable m f.v f.form stands in
      let own_key : f.object.key ≡ key = find_key key (state m f.start).objects f.object f.there in
      let namespace : f.form.meta.namespace ≡ key.ns =
      k.keeps.namespace f.v f.object.h f.form f.version.0 kept_one.whole f.pair ∙ ap (λ (q : KeyView). q.ns) kept_one.key ∙ ap (λ (q : KeyView). q.ns) own_key in
      let shown : ObjectView = numbered boot f.object.number f.object.born f.form in
      let number = decimal f.object.number in
      let id = uid boot f.object.born in
      let deep = numbered_depth f.form number id stands.no_number stands.no_uid in
      let levels = stands.levels in
      let like : IsLike shown f.form = record {
        same = refl;
        sound = numbered_sound f.form number id stands.no_number stands.no_uid stands.sound;
        levels = omega (arith, deep, levels);
        created = writable.created;
        deleted = writable.deleted;
      } in
      let back = gives.gives f.v f.object.h g f.form shown (put_of v key j) (Some over) f.version.0 kept_one.whole f.pair like same_version (sym namespace) (ap text_of f.is) admits in
      let few = few_number f.start key f.object to_start f.there in
      let numbers : number_of shown ≡ Some f.object.number =
      ap (option_map (digits_value 10)) (number_back f.object.number few (Some number) refl) ∙ ap Some (decimal_is_IsNumeral f.object.number few).1 in
      let same_number : e.number ≡ f.object.number = at ∙ some_one over f.object.number (back.1 ∙ numbers) in
      let same = one_number log key f.start f.to e f.object there f.there same_number in
      back.0 ∙ ap (λ (x : Stored). unstamped x.h) (sym same)

  put_keeps : (key : KeyView) (j : Json) → IsKey key → (log own : List Item) (bytes : List ℕ) → GoesOn (log ++ own) last → IsFormOf m boot n log key j
      → far.answers log (request_of n (puts key j)) bytes own → KeepsValues m log own
  put_keeps key j valid log own bytes to f a = by (k.behind.enters (puts key j) valid log own bytes a)
    where
      to_log : GoesOn log last
      to_log = goes_further log (log ++ own) last (own, refl) to

      by : (own ≡ []) ⊎ Entered server n (puts key j) log own → KeepsValues m log own
      by (inl none) = keeps_nothing m log own none
      by (inr c) = by_item (item_or server c.stamp c.seen log c.asked (calls.replace (put_of c.is.0 key j) key) (calls.answered c.answer) c.item c.answer c.is.2 refl c.comes)
        where
          by_item : (c.item ≡ None) ⊎ calls.Decides server c.stamp log (calls.replace (put_of c.is.0 key j) key) (calls.answered c.answer) c.item → KeepsValues m log own
          by_item (inl none) = keeps_by m log own c.item c.own_is (keeps_none m log c.item none)
          by_item (inr h) =
              let reply = replies (ReplaceReply m limits boot (revision log + 1) (state m log) (put_of c.is.0 key j) key) c.answer c.item h in
              keeps_by m log own c.item c.own_is (writes_keep m log key c.item
              (reply_writes m limits boot (revision log + 1) (state m log) (put_of c.is.0 key j) key c.answer c.item k.honest
              (held-all m limits log k.honest (legal_before m limits log last k.legal to_log)) (admits_same log key j c.is.0 to_log f c.is.1) reply))

  -- ---- one exchange

  abbrev Keeps : Call → List Item → Type 0
  Keeps call log = (at own : List Item) (bytes : List ℕ) → GoesOn log at → GoesOn (at ++ own) last → far.answers at (request_of n call) bytes own → KeepsValues m at own

  -- the exchange, and what follows where it leads to
  one : (call : Call) (log : List Item) (e : Exchange) (es : List Exchange) → e.request ≡ request_of n call → Keeps call log
      → ((mid : List Item) → Serves far log e.request e.answer mid → Chain far mid es last → Chain kept mid es last) → Chain far log (e ∷ es) last → Chain kept log (e ∷ es) last
  one call log e es asked keeps rest chain =
      let t = turned far log e es last chain in
      joined kept log t.mid last e es (serves t.mid (chain_on far t.mid es last t.rest) e.answer t.serves) (rest t.mid t.serves t.rest)
    where
      serves : (mid : List Item) → GoesOn mid last → (a : Option (List ℕ)) → Serves far log e.request a mid → Serves kept log e.request a mid
      serves mid to None h = h
      serves mid to (Some bytes) h =
          let to_own : GoesOn ((log ++ h.others) ++ h.own) last = subst (λ (l : List Item). GoesOn l last) h.next_is to in
          record {
            others = h.others;
            own = h.own;
            answers = (h.answers, keeps (log ++ h.others) h.own bytes (h.others, refl) to_own (subst (λ (q : List ℕ). far.answers (log ++ h.others) q bytes h.own) asked h.answers));
            next_is = h.next_is;
          }

  keeps_list : (limit : ℕ) (token : List ℕ) (log : List Item) → IsOfMigration (lists limit token) → Keeps (lists limit token) log
  keeps_list limit token log fits at own bytes on to a = list_keeps limit token fits at own bytes a

  keeps_get : (key : KeyView) (log : List Item) → IsKey key → Keeps (gets key) log
  keeps_get key log valid at own bytes on to a = get_keeps key valid at own bytes a

  keeps_put : (key : KeyView) (j : Json) (log : List Item) → IsKey key → IsFormOf m boot n log key j → Keeps (puts key j) log
  keeps_put key j log valid f at own bytes on to a = put_keeps key j valid at own bytes to (later m boot n log at key j on f) a

  -- ---- one object

  abbrev Rest : List Item → List Exchange → Type 0
  Rest log fs = (mid : List Item) → GoesOn log mid → Chain far mid fs last → Chain kept mid fs last

  -- the put of a form, and then others
  put_then : (key : KeyView) (j : Json) (log : List Item) (e : Exchange) (fs : List Exchange) → IsKey key → IsFormOf m boot n log key j → e.request ≡ request_of n (puts key j) → Rest log fs
      → Chain far log (e ∷ fs) last → Chain kept log (e ∷ fs) last
  put_then key j log e fs valid f asked rest chain =
      one (puts key j) log e fs asked (keeps_put key j log valid f) (λ mid serves more. rest mid (serves_on far log e mid serves) more) chain

  -- a put, a get, and then others
  two_then : (key : KeyView) (j : Json) (log : List Item) (e g : Exchange) (fs : List Exchange) → IsKey key → IsFormOf m boot n log key j → e.request ≡ request_of n (puts key j) → g.request ≡ request_of n (gets key)
      → Rest log fs → Chain far log (e ∷ g ∷ fs) last → Chain kept log (e ∷ g ∷ fs) last
  two_then key j log e g fs valid f asked got rest chain =
      put_then key j log e (g ∷ fs) valid f asked
      (λ mid on more. one (gets key) mid g fs got (keeps_get key mid valid) (λ next serves others. rest next (goes_further log mid next on (serves_on far mid g next serves)) others) more) chain

  put_back : (key : KeyView) (left : ℕ) (j : Json) (es : List Exchange) (o : Outcome) (log : List Item) (fs : List Exchange) → IsKey key → PutBack n key left j es o → IsFormOf m boot n log key j
      → Rest log fs → Chain far log (es ++ fs) last → Chain kept log (es ++ fs) last
  put_back key _ _ _ _ log fs valid (puts_of.same left j i e did same) f rest chain = put_then key j log e fs valid f did.request rest chain
  put_back key _ _ _ _ log fs valid (puts_of.other left j i e did other) f rest chain = put_then key j log e fs valid f did.request rest chain
  put_back key _ _ _ _ log fs valid (puts_of.nothing left j e did) f rest chain = put_then key j log e fs valid f did.request rest chain
  put_back key _ _ _ _ log fs valid (puts_of.last j e did) f rest chain = put_then key j log e fs valid f did.request rest chain
  put_back key _ _ _ _ log fs valid (puts_of.again left j i e g es o did got more) f rest chain =
      put_then key j log e (g ∷ (es ++ fs)) valid f did.request
      (λ mid on behind. one (gets key) mid g (es ++ fs) got.request (keeps_get key mid valid)
      (λ next serves others.
      let at = answered_at far n (gets key) mid (given i) next g got tt serves in
      let to_next : GoesOn (at.at ++ at.own) last = subst (λ (l : List Item). GoesOn l last) at.mid_is (chain_on far next (es ++ fs) last others) in
      let form = get_form m limits boot n far last k at.at at.own key i valid to_next at.answered in
      put_back key (suc left) i es o next fs valid more (later m boot n at.at next key i (at.own, at.mid_is) form)
      (λ last_mid further_on rest_chain. rest last_mid (goes_further log mid last_mid on (goes_further mid next last_mid (serves_on far mid g next serves) further_on)) rest_chain) others) behind) chain
  put_back key _ _ _ _ log fs valid (puts_of.lost left j e g did got) f rest chain = two_then key j log e g fs valid f did.request got.request rest chain
  put_back key _ _ _ _ log fs valid (puts_of.put_fails left j e r x did fails) f rest chain = put_then key j log e fs valid f did.request rest chain
  put_back key _ _ _ _ log fs valid (puts_of.get_fails left j e g r x did got fails) f rest chain = two_then key j log e g fs valid f did.request got.request rest chain
  put_back key _ _ _ _ log fs valid (puts_of.unput left j) f rest chain = rest log (goes_nowhere log) chain
  put_back key _ _ _ _ log fs valid (puts_of.put_unread left j e asked) f rest chain = put_then key j log e fs valid f asked rest chain
  put_back key _ _ _ _ log fs valid (puts_of.ungot left j e did) f rest chain = put_then key j log e fs valid f did.request rest chain
  put_back key _ _ _ _ log fs valid (puts_of.get_unread left j e g did asked) f rest chain = two_then key j log e g fs valid f did.request asked rest chain

  -- ---- the objects of a page

  put_all : (js : List Json) (t : Counts) (es : List Exchange) (h : Handled) (log : List Item) (fs : List Exchange) → Each IsKey (map key_of js) → PutsBack n js t es h → AreForms m boot n log js
      → Rest log fs → Chain far log (es ++ fs) last → Chain kept log (es ++ fs) last
  put_all _ _ _ _ log fs valid (puts_of.done t) forms rest chain = rest log (goes_nowhere log) chain
  put_all _ _ _ _ log fs valid (puts_of.more j js t i es gs h back others) forms rest chain =
      subst (λ (xs : List Exchange). Chain kept log xs last) (sym (append_assoc es gs fs))
      (put_back (key_of j) most_puts j es (puts_of.kind i) log (gs ++ fs) valid.0 back forms.0
      (λ mid on behind. put_all js (counted i t) gs h mid fs valid.1 others (all_later m boot n log mid js on forms.1)
      (λ next further_on left. rest next (goes_further log mid next on further_on) left) behind)
      (subst (λ (xs : List Exchange). Chain far log xs last) (append_assoc es gs fs) chain))
  put_all _ _ _ _ log fs valid (puts_of.fails j js t x es back) forms rest chain = put_back (key_of j) most_puts j es (puts_of.fault x) log fs valid.0 back forms.0 rest chain

  -- ---- pages

  -- a list is at its first page, or goes on behind an object of a history
  data Place (log : List Item) : List ℕ → Type 0 where
    begin : Place log []
    behind : (token : List ℕ) (start : List Item) → GoesOn start log → Cut m start token → Place log token

  place_later : (log next : List Item) (token : List ℕ) → GoesOn log next → Place log token → Place next token
  place_later log next _ on begin = begin
  place_later log next _ on (behind token start to cut) = behind token start (goes_further start log next to on) cut

  fits_at : (log : List Item) (limit : ℕ) (token : List ℕ) → limit ≤ first_limit → Place log token → IsOfMigration (lists limit token)
  fits_at log limit _ small begin = (small, inl refl)
  fits_at log limit _ small (behind token start to cut) =
      (small, inr (record { number = revision start; key = cut.last_seen.key; token = cut.is_token; spelled = cut.token_is }))

  -- the objects of a history stand under their keys
  each_there : (start : List Item) → GoesOn start last → Each (λ e. find e.key (state m start).objects ≡ Some e) (state m start).objects
  each_there start to =
      each (λ e. In e (state m start).objects) (λ e. find e.key (state m start).objects ≡ Some e) (state m start).objects (each_self (state m start).objects)
      (λ e there. in-find (state m start).objects e (sound-all m limits start (legal_before m limits start last k.legal to)).rising there)

  -- what a page gives: forms, and where the list goes on
  record Page (log : List Item) (j : Json) : Type 0 where
    forms : AreForms m boot n log (objects_of j)
    place : is_empty (token_of j) ≡ false → Place log (token_of j)

  page_at : (start log : List Item) → GoesOn start log → GoesOn start last → (xs : List Stored) (j : Json) → Each (λ e. find e.key (state m start).objects ≡ Some e) xs
      → ((front rest : List Stored) (e : Stored) → xs ≡ front ++ e ∷ rest → token_of j ≡ token_text (revision start) e.key → IsToken (revision start) e.key → Cut m start (token_of j))
      → ReadsAs m boot n (revision start) xs j → Page log j
  page_at start log to to_last xs j there cut_at (whole shows keys no_token) = record {
    forms = page_forms m limits boot n far last k start log to shows.v shows.version xs (objects_of j) there shows.shown keys;
    place = λ more. absurd (has_token (token_of j) no_token more);
  }
  page_at start log to to_last xs j there cut_at (front_of front rest e shows keys parts token_is is_token) = record {
    forms = page_forms m limits boot n far last k start log to shows.v shows.version (front ++ e ∷ []) (objects_of j)
        (each_front (λ x. find x.key (state m start).objects ≡ Some x) (front ++ e ∷ []) rest
        (subst (λ (ys : List Stored). Each (λ x. find x.key (state m start).objects ≡ Some x) ys) (parts ∙ sym (append_assoc front (e ∷ []) rest)) there)) shows.shown keys;
    place = λ more. behind (token_of j) start to (cut_at front rest e parts token_is is_token);
  }

  page_given : (at own : List Item) (limit : ℕ) (token : List ℕ) (j : Json) → limit ≤ first_limit → Place at token → GoesOn (at ++ own) last → Answered far n (lists limit token) at own (given j)
      → Page (at ++ own) j
  page_given at own limit _ j small begin to a =
      let to_at = goes_further at (at ++ own) last (own, refl) to in
      page_at at (at ++ own) (own, refl) to_at (state m at).objects j (each_there at to_at)
      (λ front rest e parts token_is is_token. record { front = front; rest = rest; last_seen = e; objects = parts; token_is = token_is; is_token = is_token })
      (first_reads m limits boot n far last k at own limit j small to a).0
  page_given at own limit _ j small (behind token start from cut) to a =
      let to_at = goes_further at (at ++ own) last (own, refl) to in
      let to_start = goes_further start at last from to_at in
      let all_there = subst (λ (ys : List Stored). Each (λ x. find x.key (state m start).objects ≡ Some x) ys) cut.objects (each_there start to_start) in
      page_at start (at ++ own) (goes_further start at (at ++ own) from (own, refl)) to_start cut.rest j
      (each_back (λ x. find x.key (state m start).objects ≡ Some x) cut.front (cut.last_seen ∷ cut.rest) all_there).1
      (λ front rest e parts token_is is_token. further m start token (token_of j) cut front rest e parts token_is is_token)
      (next_reads m limits boot n far last k start at own limit token j small from to cut a).0

  -- a page is listed, its objects are put back, and then others
  page_then : (a : Run) (log : List Item) (j : Json) (e : Exchange) (es fs : List Exchange) (t : Counts) (h : Handled) → a.limit ≤ first_limit → Place log a.token → Did n (lists a.limit a.token) e (given j)
      → PutsBack n (objects_of j) t es h → ((mid : List Item) → GoesOn log mid → (is_empty (token_of j) ≡ false → Place mid (token_of j)) → Chain far mid fs last → Chain kept mid fs last)
      → Chain far log (e ∷ (es ++ fs)) last → Chain kept log (e ∷ (es ++ fs)) last
  page_then a log j e es fs t h small place did back rest chain =
      one (lists a.limit a.token) log e (es ++ fs) did.request (keeps_list a.limit a.token log (fits_at log a.limit a.token small place))
      (λ mid serves more.
      let at = answered_at far n (lists a.limit a.token) log (given j) mid e did tt serves in
      let to_mid : GoesOn (at.at ++ at.own) last = subst (λ (l : List Item). GoesOn l last) at.mid_is (chain_on far mid (es ++ fs) last more) in
      let page = page_given at.at at.own a.limit a.token j small (place_later log at.at a.token at.on place) to_mid at.answered in
      let same : at.at ++ at.own ≡ mid = sym at.mid_is in
      let valid = given_valid n a.limit a.token at.answered.bytes j at.answered.replies in
      put_all (objects_of j) t es h mid fs valid back (subst (λ (l : List Item). AreForms m boot n l (objects_of j)) same page.forms)
      (λ next on others. rest next (goes_further log mid next (serves_on far log e mid serves) on)
      (λ more_pages. place_later mid next (token_of j) on (subst (λ (l : List Item). Place l (token_of j)) same (page.place more_pages))) others) more) chain

  -- a list that gives no page
  list_then : (a : Run) (log : List Item) (e : Exchange) (fs : List Exchange) → a.limit ≤ first_limit → Place log a.token → e.request ≡ request_of n (lists a.limit a.token) → Rest log fs
      → Chain far log (e ∷ fs) last → Chain kept log (e ∷ fs) last
  list_then a log e fs small place asked rest chain =
      one (lists a.limit a.token) log e fs asked (keeps_list a.limit a.token log (fits_at log a.limit a.token small place)) (λ mid serves more. rest mid (serves_on far log e mid serves) more) chain

  ended_so : (mid : List Item) → Chain far mid [] last → Chain kept mid [] last
  unfolding Chain
  ended_so mid h = h

  stop_keeps : (a : Run) (es : List Exchange) (h : Handled) (log : List Item) → a.limit ≤ first_limit → Place log a.token → Stop n a es h → Chain far log es last → Chain kept log es last
  stop_keeps a _ _ log small place (pages.last j e es t did goes ends back) chain =
      subst (λ (xs : List Exchange). Chain kept log (e ∷ xs) last) (append-nil es)
      (page_then a log j e es [] (pages.with_objects a j) (puts_of.all t) small place did back (λ mid on next more. ended_so mid more)
      (subst (λ (xs : List Exchange). Chain far log (e ∷ xs) last) (sym (append-nil es)) chain))
  stop_keeps a _ _ log small place (pages.put_fails j e es x did goes back) chain =
      subst (λ (xs : List Exchange). Chain kept log (e ∷ xs) last) (append-nil es)
      (page_then a log j e es [] (pages.with_objects a j) (puts_of.failed x) small place did back (λ mid on next more. ended_so mid more)
      (subst (λ (xs : List Exchange). Chain far log (e ∷ xs) last) (sym (append-nil es)) chain))
  stop_keeps a _ _ log small place (pages.other j e did other) chain = list_then a log e [] small place did.request (λ mid on more. ended_so mid more) chain
  stop_keeps a _ _ log small place (pages.too_long e did one_object) chain = list_then a log e [] small place did.request (λ mid on more. ended_so mid more) chain
  stop_keeps a _ _ log small place (pages.too_often e did many) chain = list_then a log e [] small place did.request (λ mid on more. ended_so mid more) chain
  stop_keeps a _ _ log small place (pages.list_fails e r x did fails) chain = list_then a log e [] small place did.request (λ mid on more. ended_so mid more) chain
  stop_keeps a _ _ log small place pages.unlisted chain = ended_so log chain
  stop_keeps a _ _ log small place (pages.unread e asked) chain = list_then a log e [] small place asked (λ mid on more. ended_so mid more) chain

  runs_keep : (a : Run) (es : List Exchange) (h : Handled) (log : List Item) → a.limit ≤ first_limit → Place log a.token → Runs n a es h → Chain far log es last → Chain kept log es last
  runs_keep _ _ _ log small place (pages.stop a es h stops) chain = stop_keeps a es h log small place stops chain
  runs_keep _ _ _ log small place (pages.step a b _ fs h (pages.page j e es t did goes more back) rest) chain =
      page_then a log j e es fs (pages.with_objects a j) (puts_of.all t) small place did back (λ mid on next others. runs_keep (pages.after_page a j t) fs h mid small (next more) rest others) chain
  runs_keep _ _ _ log small place (pages.step a b _ fs h (pages.halved e did some) rest) chain =
      list_then a log e fs small place did.request (λ mid on others. runs_keep (record a { limit = a.limit / 2 }) fs h mid (omega (arith, small)) (place_later log mid a.token on place) rest others) chain
  runs_keep _ _ _ log small place (pages.step a b _ fs h (pages.again e did few) rest) chain =
      list_then a log e fs small place did.request (λ mid on others. runs_keep (at_first a.limit (a.expired + 1)) fs h mid small begin rest others) chain

  pub all_kept : (first : List Item) (es : List Exchange) (h : Handled) → Chain far first es last → Migrates n es h → Chain kept first es last
  all_kept first es h chain runs = runs_keep (at_first first_limit 0) es h first (omega arith) begin runs chain
