-- How a migration may end, by what each of its exchanges may be replied.
use Rattle.run_laws.proofs.tallies.Holding.{Facts}
use Rattle.std.proofs.Common.{◌≡◌, ◌∙◌, refl, sym, subst, inl, inr, ℕ, suc, ◌<◌, ◌≤◌, Bool, true, false, List, [], ◌∷◌, ◌++◌, append_assoc, map, Option, Some, arith}
use Rattle.std.specs.Prelude.{◌⊎◌, IsUtf8}
use Rattle.kj_value.specs.Json.{Json}
use Rattle.kj_value.specs.Text.{text_of}
use Rattle.kube_meta.specs.Key.{KeyView}
use Rattle.kube_meta.specs.declared.limits.Limits.{Limits}
use Rattle.edge_io.specs.Exchanges.{Exchange}
use Rattle.api_calls.specs.Item.{Item}
use Rattle.api_calls.specs.Legal.{Each, In}
use Rattle.api_calls.specs.Meaning.{Meaning}
use Rattle.api_calls.specs.Objects.{Stored, find}
use Rattle.api_calls.specs.State.{revision, state}
use Rattle.api_calls.specs.Versions.{DecidesAdmission, NamesDiffer}
use Rattle.api_calls.proofs.Lists.{each}
use Rattle.api_calls.proofs.Numbers.{each_self}
use Rattle.api_calls.proofs.Snaps.{in-find}
use Rattle.api_calls.proofs.Sound.{sound-all}
use Rattle.http_routes.specs.Paths.{IsKey}
use Rattle.place.specs.Place.{Names}
use Rattle.wire_client.specs.Answers.{Reply, broken, code, given, gone as gone_reply, long, shape}
use Rattle.wire_client.specs.Calls.{Call, gets, lists, puts}
use Rattle.wire_client.specs.Far.{Chain, Server}
use Rattle.far_migrate.specs.Answered.{Did, FailsGet, FailsList, FailsPut, conflict}
use Rattle.far_migrate.specs.Counts.{Counts, Fault, answer, counted, link}
use Rattle.far_migrate.specs.Migrates.{Migrates}
use Rattle.far_migrate.specs.Pages as pages
use Rattle.far_migrate.specs.Pages.{Run, Runs, Step, Stop, at_first, first_limit, goes_on, objects_of, most_objects}
use Rattle.far_migrate.specs.Puts as puts_of
use Rattle.far_migrate.specs.Puts.{Handled, Outcome, PutBack, PutsBack, all, failed, fault, key_of, kind, most_puts}
use Rattle.far_laws.specs.Answering.{Answered, GoesOn}
use Rattle.far_laws.proofs.Histories.{chain_on, goes_further, goes_nowhere, legal_before, split, turned, IsAnswered, answered_at}
use Rattle.far_laws.proofs.Keyed.{given_valid}
use Rattle.far_laws.proofs.Paging.{Cut, IsKnown, ReadsAs, first_reads, front_of, next_reads, whole}
use Rattle.far_laws.proofs.Values.{each_back, each_front}
use Rattle.far_laws.specs.Speaking.{front}
use Rattle.far_laws.specs.TakenBack.{TakesBack}
use Rattle.far_laws.proofs.Shown.{AreForms, IsFormOf, all_later, get_form, later, page_forms}
use Rattle.run_laws.specs.Ending.{MayEnd, MayFail}
use Rattle.run_laws.specs.Reached.{IsAt, begun, within}
use Rattle.run_laws.specs.Replying.{IsUnserved, MayReply, replying}
use Rattle.run_laws.proofs.tallies.Going.{at_step, later_at, page_on}
use Rattle.run_laws.proofs.tallies.Gotten.{get_law}
use Rattle.run_laws.proofs.tallies.Listed.{list_law, placed_at, small_at}
use Rattle.run_laws.proofs.tallies.Putting.{put_law}
use Rattle.run_laws.proofs.tallies.Spelled.{AreSpelled, AreTexts}

-- ---- replies

broken_or : (r : Reply) → (r ≡ broken) ⊎ IsAnswered r
broken_or (given j) = inr tt
broken_or broken = inl refl
broken_or long = inr tt
broken_or gone_reply = inr tt
broken_or (code c) = inr tt
broken_or (shape path) = inr tt

module _ (m : Meaning) (limits : Limits) (boot : ℕ) (clock : Option (List ℕ)) (n : Names) (last : List Item) (facts : Facts m limits boot clock n last) (decides : DecidesAdmission m)
    (differ : NamesDiffer m) (takes : TakesBack m) (most : limits.objects ≤ most_objects) (first : List Item) where
  abbrev far : Server
  far = replying (front m limits boot clock)

  abbrev k : IsKnown m limits boot n far last
  k = facts.known

  -- an exchange of a call, and what follows
  record Done (call : Call) (log : List Item) (r : Reply) (es : List Exchange) : Type 0 where
    at : List Item
    own : List Item
    on : GoesOn log at
    answered : Answered far n call at own r
    rest : Chain far (at ++ own) es last
    to_at : GoesOn at last
    to : GoesOn (at ++ own) last

  done : (call : Call) (log : List Item) (r : Reply) (e : Exchange) (es : List Exchange) → Did n call e r → IsAnswered r → Chain far log (e ∷ es) last → Done call log r es
  done call log r e es did some chain =
      let t = turned far log e es last chain in
      let a = answered_at far n call log r t.mid e did some t.serves in
      let rest : Chain far (a.at ++ a.own) es last = subst (λ (l : List Item). Chain far l es last) a.mid_is t.rest in
      let to : GoesOn (a.at ++ a.own) last = chain_on far (a.at ++ a.own) es last rest in
      record { at = a.at; own = a.own; on = a.on; answered = a.answered; rest = rest; to_at = goes_further a.at (a.at ++ a.own) last (a.own, refl) to; to = to }

  -- an exchange that failed
  link_ends : (f : Fault) → f ≡ link → MayFail m n first last f
  link_ends f is = subst (λ (g : Fault). MayFail m n first last g) (sym is) tt

  -- ---- refusals

  -- 404 with where it was answered
  unserved_at : (at : List Item) → GoesOn first at → GoesOn at last → (c : ℕ) → (f : Fault) → f ≡ answer c → (c ≡ 503) ⊎ ((c ≡ 404) × IsUnserved m n at) → MayFail m n first last f
  unserved_at at from to c f is (inl starved) = subst (λ (g : Fault). MayFail m n first last g) (sym is) (inl starved)
  unserved_at at from to c f is (inr off) = subst (λ (g : Fault). MayFail m n first last g) (sym is) (inr (off.0, record { at = at; from = from; to = to; unserved = off.1 }))

  get_ends : (at : List Item) → GoesOn first at → GoesOn at last → (key : KeyView) (r : Reply) (f : Fault) → MayReply m n at (gets key) r → FailsGet r f → MayFail m n first last f
  get_ends at from to key (given j) f may fails = absurd fails
  get_ends at from to key broken f may fails = absurd may
  get_ends at from to key long f may fails = absurd may
  get_ends at from to key gone_reply f may fails = absurd fails
  get_ends at from to key (code c) f may fails = unserved_at at from to c f fails may
  get_ends at from to key (shape path) f may fails = absurd may

  put_ends : (at : List Item) → GoesOn first at → GoesOn at last → (key : KeyView) (j : Json) (r : Reply) (f : Fault) → MayReply m n at (puts key j) r → FailsPut r f → MayFail m n first last f
  put_ends at from to key j (given i) f may fails = absurd fails
  put_ends at from to key j broken f may fails = absurd may
  put_ends at from to key j long f may fails = absurd may
  put_ends at from to key j gone_reply f may fails = absurd fails
  put_ends at from to key j (code c) f (inl starved) fails = unserved_at at from to c f fails.1 (inl starved)
  put_ends at from to key j (code c) f (inr (inl off)) fails = unserved_at at from to c f fails.1 (inr off)
  put_ends at from to key j (code c) f (inr (inr conflict)) fails = absurd (fails.0 conflict)
  put_ends at from to key j (shape path) f may fails = absurd may

  list_ends : (at : List Item) → GoesOn first at → GoesOn at last → (limit : ℕ) (token : List ℕ) (r : Reply) (f : Fault) → MayReply m n at (lists limit token) r → FailsList r f → MayFail m n first last f
  list_ends at from to limit token (given i) f may fails = absurd fails
  list_ends at from to limit token broken f may fails = absurd may
  list_ends at from to limit token long f may fails = absurd fails
  list_ends at from to limit token gone_reply f may fails = absurd may
  list_ends at from to limit token (code c) f (inl starved) fails = unserved_at at from to c f fails.1 (inl starved)
  list_ends at from to limit token (code c) f (inr (inl off)) fails = unserved_at at from to c f fails.1 (inr off)
  list_ends at from to limit token (code c) f (inr (inr old)) fails = absurd (fails.0 old)
  list_ends at from to limit token (shape path) f may fails = absurd may

  -- ---- one object

  -- an object that is put back ends the migration so, if it does
  abbrev MayCome : Outcome → Type 0
  MayCome (kind c) = Unit {0}
  MayCome (fault f) = MayFail m n first last f

  put_at : (key : KeyView) (j : Json) (log : List Item) (r : Reply) (e : Exchange) (es : List Exchange) → IsKey key → IsFormOf m boot n log key j → IsUtf8 (text_of j)
      → (did : Did n (puts key j) e r) → (some : IsAnswered r) → (chain : Chain far log (e ∷ es) last) → MayReply m n (done (puts key j) log r e es did some chain).at (puts key j) r
  put_at key j log r e es valid form utf8 did some chain =
      let d = done (puts key j) log r e es did some chain in
      put_law m limits boot clock n last facts decides differ takes key valid j d.at d.own d.to_at (later m boot n log d.at key j d.on form) utf8 r d.answered

  put_end : (key : KeyView) (left : ℕ) (j : Json) (es : List Exchange) (o : Outcome) (log : List Item) → IsKey key → PutBack n key left j es o → IsFormOf m boot n log key j → IsUtf8 (text_of j)
      → GoesOn first log → Chain far log es last → MayCome o
  put_end key _ _ _ _ log valid (puts_of.same left j i e did same) form utf8 from chain = tt
  put_end key _ _ _ _ log valid (puts_of.other left j i e did other) form utf8 from chain = tt
  put_end key _ _ _ _ log valid (puts_of.nothing left j e did) form utf8 from chain = tt
  put_end key _ _ _ _ log valid (puts_of.last j e did) form utf8 from chain = tt
  put_end key _ _ _ _ log valid (puts_of.again left j i e g es o did got more) form utf8 from chain =
      let d = done (puts key j) log (code conflict) e (g ∷ es) did tt chain in
      let c = done (gets key) (d.at ++ d.own) (given i) g es got tt d.rest in
      let tells = get_law m limits boot clock n last facts key valid c.at c.own c.to_at (given i) c.answered in
      let form_there = get_form m limits boot n far last k c.at c.own key i valid c.to c.answered in
      let from_there = goes_further first log c.at from (goes_further log d.at c.at d.on (goes_further d.at (d.at ++ d.own) c.at (d.own, refl) c.on)) in
      put_end key (suc left) i es o (c.at ++ c.own) valid more (later m boot n c.at (c.at ++ c.own) key i (c.own, refl) form_there) tells.1
      (goes_further first c.at (c.at ++ c.own) from_there (c.own, refl)) c.rest
  put_end key _ _ _ _ log valid (puts_of.lost left j e g did got) form utf8 from chain = tt
  put_end key _ _ _ _ log valid (puts_of.put_fails left j e r x did fails) form utf8 from chain = by (broken_or r)
    where
      by : (r ≡ broken) ⊎ IsAnswered r → MayFail m n first last x
      by (inl is) = link_ends x (subst (λ (q : Reply). FailsPut q x) is fails)
      by (inr some) =
          let d = done (puts key j) log r e [] did some chain in
          put_ends d.at (goes_further first log d.at from d.on) d.to_at key j r x (put_at key j log r e [] valid form utf8 did some chain) fails
  put_end key _ _ _ _ log valid (puts_of.get_fails left j e g r x did got fails) form utf8 from chain = by (broken_or r)
    where
      by : (r ≡ broken) ⊎ IsAnswered r → MayFail m n first last x
      by (inl is) = link_ends x (subst (λ (q : Reply). FailsGet q x) is fails)
      by (inr some) =
          let d = done (puts key j) log (code conflict) e (g ∷ []) did tt chain in
          let c = done (gets key) (d.at ++ d.own) r g [] got some d.rest in
          let from_there = goes_further first log c.at from (goes_further log d.at c.at d.on (goes_further d.at (d.at ++ d.own) c.at (d.own, refl) c.on)) in
          let tells = get_law m limits boot clock n last facts key valid c.at c.own c.to_at r c.answered in
          get_ends c.at from_there c.to_at key r x tells.0 fails
  put_end key _ _ _ _ log valid (puts_of.unput left j) form utf8 from chain = tt
  put_end key _ _ _ _ log valid (puts_of.put_unread left j e asked) form utf8 from chain = tt
  put_end key _ _ _ _ log valid (puts_of.ungot left j e did) form utf8 from chain = tt
  put_end key _ _ _ _ log valid (puts_of.get_unread left j e g did asked) form utf8 from chain = tt

  -- ---- the objects of a page

  all_end : (js : List Json) (t : Counts) (es : List Exchange) (h : Handled) (log : List Item) → Each IsKey (map key_of js) → PutsBack n js t es h → AreForms m boot n log js → AreTexts js
      → GoesOn first log → Chain far log es last → MayEnd m n first last h
  all_end _ _ _ _ log valid (puts_of.done t) forms texts from chain = tt
  all_end _ _ _ _ log valid (puts_of.more j js t i es gs h back others) forms texts from chain =
      let parts = split far log es gs last chain in
      let on = chain_on far log es parts.mid parts.front in
      all_end js (counted i t) gs h parts.mid valid.1 others (all_later m boot n log parts.mid js on forms.1) texts.1 (goes_further first log parts.mid from on) parts.back
  all_end _ _ _ _ log valid (puts_of.fails j js t x es back) forms texts from chain =
      put_end (key_of j) most_puts j es (fault x) log valid.0 back forms.0 texts.0 from chain

  -- ---- a page

  -- the objects of a history stand under their keys
  each_there : (start : List Item) → GoesOn start last → Each (λ e. find e.key (state m start).objects ≡ Some e) (state m start).objects
  each_there start to =
      each (λ e. In e (state m start).objects) (λ e. find e.key (state m start).objects ≡ Some e) (state m start).objects (each_self (state m start).objects)
      (λ e there. in-find (state m start).objects e (sound-all m limits start (legal_before m limits start last k.legal to)).rising there)

  forms_of : (start log : List Item) → GoesOn start log → (xs : List Stored) (j : Json) → Each (λ e. find e.key (state m start).objects ≡ Some e) xs → ReadsAs m boot n (revision start) xs j
      → AreForms m boot n log (objects_of j)
  forms_of start log to xs j there (whole shows keys no_token) = page_forms m limits boot n far last k start log to shows.v shows.version xs (objects_of j) there shows.shown keys
  forms_of start log to xs j there (front_of ys rest e shows keys parts token_is is_token) =
      page_forms m limits boot n far last k start log to shows.v shows.version (ys ++ e ∷ []) (objects_of j)
      (each_front (λ x. find x.key (state m start).objects ≡ Some x) (ys ++ e ∷ []) rest
      (subst (λ (zs : List Stored). Each (λ x. find x.key (state m start).objects ≡ Some x) zs) (parts ∙ sym (append_assoc ys (e ∷ []) rest)) there)) shows.shown keys

  page_forms_at : (at own : List Item) (b : Run) (j : Json) → IsAt m at b → GoesOn (at ++ own) last → Answered far n (lists b.limit b.token) at own (given j) → AreForms m boot n (at ++ own) (objects_of j)
  page_forms_at at own b j (begun small h) to a =
      let to_at = goes_further at (at ++ own) last (own, refl) to in
      forms_of at (at ++ own) (own, refl) (state m at).objects j (each_there at to_at)
      (first_reads m limits boot n far last k at own b.limit j small to (subst (λ (token : List ℕ). Answered far n (lists b.limit token) at own (given j)) h.token_is a)).0
  page_forms_at at own b j (within small w) to a =
      let to_at = goes_further at (at ++ own) last (own, refl) to in
      let to_start = goes_further w.start at last w.to to_at in
      let all_there = subst (λ (ys : List Stored). Each (λ x. find x.key (state m w.start).objects ≡ Some x) ys) w.objects (each_there w.start to_start) in
      let cut : Cut m w.start b.token = record { front = w.front; rest = w.rest; last_seen = w.last_seen; objects = w.objects; token_is = w.token_is; is_token = w.is_token } in
      forms_of w.start (at ++ own) (goes_further w.start at (at ++ own) w.to (own, refl)) w.rest j
      (each_back (λ x. find x.key (state m w.start).objects ≡ Some x) w.front (w.last_seen ∷ w.rest) all_there).1
      (next_reads m limits boot n far last k w.start at own b.limit b.token j small w.to to cut a).0

  -- ---- a list

  list_at : (b : Run) (log at own : List Item) (r : Reply) → IsAt m log b → GoesOn log at → GoesOn at last → Answered far n (lists b.limit b.token) at own r
      → MayReply m n at (lists b.limit b.token) r × AreSpelled r
  list_at b log at own r where_it_is on to a =
      let here_at = later_at m limits boot n far last k log at b on where_it_is in
      list_law m limits boot clock n last facts b.limit b.token (small_at m at b here_at) at own (placed_at m at b here_at) to r a

  never : (b : Bool) → b ≡ true → b ≡ false → ⊥
  never true p q = cc
  never false p q = cc

  -- ---- the end

  stop_ends : (b : Run) (es : List Exchange) (h : Handled) (log : List Item) → IsAt m log b → 0 < b.limit → Stop n b es h → GoesOn first log → Chain far log es last
      → MayEnd m n first last h
  stop_ends b _ _ log where_it_is some_limit (pages.last j e es t did goes ends back) from chain = tt
  stop_ends b _ _ log where_it_is some_limit (pages.put_fails j e es x did goes back) from chain =
      let d = done (lists b.limit b.token) log (given j) e es did tt chain in
      let tells = list_at b log d.at d.own (given j) where_it_is d.on d.to_at d.answered in
      let forms = page_forms_at d.at d.own b j (later_at m limits boot n far last k log d.at b d.on where_it_is) d.to d.answered in
      all_end (objects_of j) (pages.with_objects b j) es (failed x) (d.at ++ d.own) (given_valid n b.limit b.token d.answered.bytes j d.answered.replies) back forms tells.1
      (goes_further first log (d.at ++ d.own) from (goes_further log d.at (d.at ++ d.own) d.on (d.own, refl))) d.rest
  stop_ends b _ _ log where_it_is some_limit (pages.other j e did stray) from chain =
      let d = done (lists b.limit b.token) log (given j) e [] did tt chain in
      absurd (never (goes_on b j) (page_on m limits boot n far last k d.at d.own b j most d.to (later_at m limits boot n far last k log d.at b d.on where_it_is) d.answered) stray)
  stop_ends b _ _ log where_it_is some_limit (pages.too_long e did one_object) from chain =
      let d = done (lists b.limit b.token) log long e [] did tt chain in
      let tells = list_at b log d.at d.own long where_it_is d.on d.to_at d.answered in
      absurd (tells.0 (omega (arith, some_limit, one_object)))
  stop_ends b _ _ log where_it_is some_limit (pages.too_often e did many) from chain = tt
  stop_ends b _ _ log where_it_is some_limit (pages.list_fails e r x did fails) from chain = by (broken_or r)
    where
      by : (r ≡ broken) ⊎ IsAnswered r → MayFail m n first last x
      by (inl is) = link_ends x (subst (λ (q : Reply). FailsList q x) is fails)
      by (inr some) =
          let d = done (lists b.limit b.token) log r e [] did some chain in
          let tells = list_at b log d.at d.own r where_it_is d.on d.to_at d.answered in
          list_ends d.at (goes_further first log d.at from d.on) d.to_at b.limit b.token r x tells.0 fails
  stop_ends b _ _ log where_it_is some_limit pages.unlisted from chain = tt
  stop_ends b _ _ log where_it_is some_limit (pages.unread e asked) from chain = tt

  -- a step leaves some limit
  limit_stays : (a b : Run) (es : List Exchange) → Step n a es b → 0 < a.limit → 0 < b.limit
  limit_stays a _ _ (pages.page j e es t did goes more back) some = some
  limit_stays a _ _ (pages.halved e did many) some = omega (arith, many)
  limit_stays a _ _ (pages.again e did few) some = some

  runs_end : (a : Run) (es : List Exchange) (h : Handled) (log : List Item) → IsAt m log a → 0 < a.limit → Runs n a es h → GoesOn first log → Chain far log es last
      → MayEnd m n first last h
  runs_end _ _ _ log where_it_is some_limit (pages.stop a es h stops) from chain = stop_ends a es h log where_it_is some_limit stops from chain
  runs_end _ _ _ log where_it_is some_limit (pages.step a b es fs h one rest) from chain =
      let parts = split far log es fs last chain in
      let on = chain_on far log es parts.mid parts.front in
      let to = chain_on far parts.mid fs last parts.back in
      let there = at_step m limits boot n far last k a b es log parts.mid one where_it_is to parts.front in
      runs_end b fs h parts.mid there (limit_stays a b es one some_limit) rest (goes_further first log parts.mid from on) parts.back

  pub ends_law : (es : List Exchange) (h : Handled) → Chain far first es last → Migrates n es h → MayEnd m n first last h
  ends_law es h chain runs =
      runs_end (at_first first_limit 0) es h first (begun (omega arith) (record { token_is = refl; last_is = refl; listed = refl })) (omega arith) runs (goes_nowhere first) chain
