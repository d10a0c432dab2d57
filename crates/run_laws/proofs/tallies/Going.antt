-- Each page that a server of a definition gives goes on with its list.
use Rattle.std.proofs.Common.{◌≡◌, ◌∙◌, refl, sym, ap, subst, ℕ, suc, ◌+◌, ◌/◌, ◌≤◌, Bool, true, false, not, List, [], ◌∷◌, ◌++◌, length, map, Option, None, Some, append_assoc, length-append, arith}
use Rattle.std.specs.Prelude.{◌&&◌, ◌||◌, nat_le}
use Rattle.std.proofs.lemmas.Bool.Decides.{nat_tests}
use Rattle.std.specs.Ordering.{match_ordering}
use Rattle.std.specs.declared.cmp.Ordering.{Ordering}
use Rattle.std.specs.declared.cmp.Ordering.TheVariants.{Less}
use Rattle.kj_value.specs.Json.{Json}
use Rattle.kube_meta.specs.Key.{KeyView, key_cmp}
use Rattle.kube_meta.specs.declared.limits.Limits.{Limits}
use Rattle.edge_io.specs.Exchanges.{Exchange}
use Rattle.api_calls.specs.Item.{Item}
use Rattle.api_calls.specs.Legal.{Each}
use Rattle.api_calls.specs.LegalLists.{IsRising}
use Rattle.api_calls.specs.Meaning.{Meaning}
use Rattle.api_calls.specs.Objects.{Stored, object_key}
use Rattle.api_calls.specs.State.{revision, state}
use Rattle.api_calls.proofs.Sound.{sound-all}
use Rattle.far_laws.proofs.legal_lists.Limits.{within-all}
use Rattle.place.specs.Place.{Names}
use Rattle.wire_client.specs.Answers.{given}
use Rattle.wire_client.specs.Calls.{lists}
use Rattle.wire_client.specs.Far.{Chain, Server}
use Rattle.far_migrate.specs.Counts.{Counts, counted, Kind, contested, gone, unchanged, written}
use Rattle.far_migrate.specs.Pages as pages
use Rattle.far_migrate.specs.Pages.{Run, Step, after_page, at_first, first_limit, goes_on, goes_on_from, is_behind, is_empty, last_key, most_objects, objects_of, rise_behind, token_of, with_objects}
use Rattle.far_migrate.specs.Puts as puts_of
use Rattle.far_migrate.specs.Puts.{Handled, PutsBack, all, key_of}
use Rattle.far_laws.specs.Answering.{Answered, GoesOn}
use Rattle.far_laws.proofs.Histories.{answered_at, chain_on, ended, goes_further, legal_before, not_empty, split, turned}
use Rattle.far_laws.proofs.Paging.{Cut, IsKnown, ReadsAs, first_reads, front_of, next_reads, whole}
use Rattle.far_laws.proofs.Values.{each_front}
use Rattle.run_laws.specs.Reached.{IsAt, IsBegun, IsWithin, Reaches, begun, here, step, within}

-- ---- keys that rise

abbrev IsPast : Option KeyView → List Stored → Type 0
IsPast None es = Unit {0}
IsPast (Some l) es = Each (λ f. key_cmp l f.key ≡ Less) es

first_keys : (j : Json) (js : List Json) (e : Stored) (es : List Stored) → map key_of (j ∷ js) ≡ map object_key (e ∷ es) → (key_of j ≡ e.key) × (map key_of js ≡ map object_key es)
first_keys j js e es same = (cc, cc)

both_true : (a b : Bool) → a ≡ true → b ≡ true → (a && b) ≡ true
both_true true b p q = q
both_true false b p q = p

less_behind : (l k : KeyView) → key_cmp l k ≡ Less → is_behind (Some l) k ≡ true
less_behind l k less = ap (λ (o : Ordering). match_ordering o true false false) less

past_first : (last : Option KeyView) (e : Stored) (es : List Stored) → IsPast last (e ∷ es) → is_behind last e.key ≡ true
past_first None e es past = refl
past_first (Some l) e es past = less_behind l e.key past.0

rises : (last : Option KeyView) (js : List Json) (es : List Stored) → map key_of js ≡ map object_key es → IsPast last es → IsRising es → rise_behind last js ≡ true
rises last [] es keys past rising = refl
rises last (j ∷ js) [] keys past rising = cc
rises last (j ∷ js) (e ∷ es) keys past rising =
    let parts = first_keys j js e es keys in
    both_true (is_behind last (key_of j)) (rise_behind (Some (key_of j)) js) (ap (λ (k : KeyView). is_behind last k) parts.0 ∙ past_first last e es past)
    (ap (λ (k : KeyView). rise_behind (Some k) js) parts.0 ∙ rises (Some e.key) js es parts.1 rising.0 rising.1)

rising_front : (xs ys : List Stored) → IsRising (xs ++ ys) → IsRising xs
rising_front [] ys rising = tt
rising_front (x ∷ xs) ys rising = (each_front (λ f. key_cmp x.key f.key ≡ Less) xs ys rising.0, rising_front xs ys rising.1)

rising_back : (xs ys : List Stored) → IsRising (xs ++ ys) → IsRising ys
rising_back [] ys rising = rising
rising_back (x ∷ xs) ys rising = rising_back xs ys rising.1

same_long : (js : List Json) (es : List Stored) → map key_of js ≡ map object_key es → length js ≡ length es
same_long [] [] keys = refl
same_long [] (e ∷ es) keys = cc
same_long (j ∷ js) [] keys = cc
same_long (j ∷ js) (e ∷ es) keys = ap (λ (k : ℕ). suc k) (same_long js es (first_keys j js e es keys).1)

-- the last key is that of the last object
last_is_of : (last : Option KeyView) (js : List Json) (front : List Stored) (e : Stored) → map key_of js ≡ map object_key (front ++ e ∷ []) → last_key last js ≡ Some e.key
last_is_of last [] [] e keys = cc
last_is_of last [] (f ∷ fs) e keys = cc
last_is_of last (j ∷ []) [] e keys = ap (λ (k : KeyView). Some k) (first_keys j [] e [] keys).0
last_is_of last (j ∷ i ∷ js) [] e keys = absurd (none (first_keys j (i ∷ js) e [] keys).1)
  where
    none : map key_of (i ∷ js) ≡ [] → ⊥
    none is = cc
last_is_of last (j ∷ js) (f ∷ fs) e keys = last_is_of (Some (key_of j)) js fs e (first_keys j js f (fs ++ e ∷ []) keys).1

-- ---- a page

three : (a b c : Bool) → a ≡ true → b ≡ true → c ≡ true → (a && b && c) ≡ true
three true true true p q r = refl
three true true false p q r = r
three true false c p q r = q
three false b c p q r = p

ends_or : (token : List ℕ) (js : List Json) → token ≡ [] → (is_empty token || not (is_empty js)) ≡ true
ends_or [] js is = refl
ends_or (b ∷ bs) js is = cc

some_or : (token : List ℕ) (js : List Json) (front : List Stored) (e : Stored) → map key_of js ≡ map object_key (front ++ e ∷ []) → (is_empty token || not (is_empty js)) ≡ true
some_or [] js front e keys = refl
some_or (b ∷ bs) [] [] e keys = cc
some_or (b ∷ bs) [] (f ∷ fs) e keys = cc
some_or (b ∷ bs) (j ∷ js) front e keys = refl

few_enough : (k : ℕ) → k ≤ most_objects → nat_le k most_objects ≡ true
few_enough k few = grind (arith, nat_tests)

-- a page of objects that rise behind the last key, and aren't too many
on_with : (last : Option KeyView) (listed : ℕ) (j : Json) (es : List Stored) → map key_of (objects_of j) ≡ map object_key es → IsPast last es → IsRising es
    → (is_empty (token_of j) || not (is_empty (objects_of j))) ≡ true → listed + length es ≤ most_objects → goes_on_from last listed (objects_of j) (token_of j) ≡ true
on_with last listed j es keys past rising some few =
    let long : length (objects_of j) ≡ length es = same_long (objects_of j) es keys in
    three (rise_behind last (objects_of j)) (is_empty (token_of j) || not (is_empty (objects_of j))) (nat_le (listed + length (objects_of j)) most_objects)
    (rises last (objects_of j) es keys past rising) some (few_enough (listed + length (objects_of j)) (omega (arith, long, few)))

more_counted : (kind : Kind) (t : Counts) → (counted kind t).listed ≡ t.listed
more_counted written t = refl
more_counted unchanged t = refl
more_counted gone t = refl
more_counted contested t = refl

-- objects that are put back aren't counted as listed once more
listed_stays : (n : Names) (js : List Json) (t u : Counts) (es : List Exchange) (h : Handled) → PutsBack n js t es h → h ≡ all u → u.listed ≡ t.listed
listed_stays n _ _ u _ _ (puts_of.done t) is = let same : t ≡ u = cc in ap (λ (c : Counts). c.listed) (sym same)
listed_stays n _ _ u _ _ (puts_of.more j js t kind es fs h back others) is = listed_stays n js (counted kind t) u fs h others is ∙ more_counted kind t
listed_stays n _ _ u _ _ (puts_of.fails j js t f es back) is = cc

module _ (m : Meaning) (limits : Limits) (boot : ℕ) (n : Names) (far : Server) (last : List Item) (k : IsKnown m limits boot n far last) where
  rising_at : (start : List Item) → GoesOn start last → IsRising (state m start).objects
  rising_at start to = (sound-all m limits start (legal_before m limits start last k.legal to)).rising

  long_at : (start : List Item) → GoesOn start last → length (state m start).objects ≤ limits.objects
  long_at start to = (within-all m limits start (legal_before m limits start last k.legal to)).objects

  abbrev cut_of : (log : List Item) (a : Run) → (w : IsWithin m log a) → Cut m w.start a.token
  cut_of log a w = record { front = w.front; rest = w.rest; last_seen = w.last_seen; objects = w.objects; token_is = w.token_is; is_token = w.is_token }

  first_given : (log own : List Item) (a : Run) (j : Json) → a.limit ≤ first_limit → IsBegun a → GoesOn (log ++ own) last → Answered far n (lists a.limit a.token) log own (given j)
      → ReadsAs m boot n (revision log) (state m log).objects j
  first_given log own a j small b to answered =
      (first_reads m limits boot n far last k log own a.limit j small to (subst (λ (token : List ℕ). Answered far n (lists a.limit token) log own (given j)) b.token_is answered)).0

  next_given : (log own : List Item) (a : Run) (j : Json) → a.limit ≤ first_limit → (w : IsWithin m log a) → GoesOn (log ++ own) last → Answered far n (lists a.limit a.token) log own (given j)
      → ReadsAs m boot n (revision w.start) w.rest j
  next_given log own a j small w to answered = (next_reads m limits boot n far last k w.start log own a.limit a.token j small w.to to (cut_of log a w) answered).0

  -- ---- it goes on

  on_first : (log : List Item) (a : Run) (j : Json) → limits.objects ≤ most_objects → IsBegun a → GoesOn log last → ReadsAs m boot n (revision log) (state m log).objects j → goes_on a j ≡ true
  on_first log a j most b to reads =
      ap (λ (l : Option KeyView). goes_on_from l a.counts.listed (objects_of j) (token_of j)) b.last_is
      ∙ ap (λ (c : ℕ). goes_on_from None c (objects_of j) (token_of j)) b.listed ∙ by reads
    where
      long : length (state m log).objects ≤ limits.objects
      long = long_at log to

      by : ReadsAs m boot n (revision log) (state m log).objects j → goes_on_from None 0 (objects_of j) (token_of j) ≡ true
      by (whole shows keys no_token) = on_with None 0 j (state m log).objects keys tt (rising_at log to) (ends_or (token_of j) (objects_of j) no_token) (omega (arith, long, most))
      by (front_of front rest e shows keys cut token_is is_token) =
          let split : (state m log).objects ≡ (front ++ e ∷ []) ++ rest = cut ∙ sym (append_assoc front (e ∷ []) rest) in
          let parts : length ((front ++ e ∷ []) ++ rest) ≡ length (front ++ e ∷ []) + length rest = length-append (front ++ e ∷ []) rest in
          let same : length (state m log).objects ≡ length ((front ++ e ∷ []) ++ rest) = ap (λ (ys : List Stored). length ys) split in
          on_with None 0 j (front ++ e ∷ []) keys tt (rising_front (front ++ e ∷ []) rest (subst IsRising split (rising_at log to)))
          (some_or (token_of j) (objects_of j) front e keys) (omega (arith, long, most, same, parts))

  on_next : (log : List Item) (a : Run) (j : Json) → limits.objects ≤ most_objects → (w : IsWithin m log a) → GoesOn log last → ReadsAs m boot n (revision w.start) w.rest j → goes_on a j ≡ true
  on_next log a j most w to reads =
      ap (λ (l : Option KeyView). goes_on_from l a.counts.listed (objects_of j) (token_of j)) w.last_is
      ∙ ap (λ (c : ℕ). goes_on_from (Some w.last_seen.key) c (objects_of j) (token_of j)) w.listed ∙ by reads
    where
      to_start : GoesOn w.start last
      to_start = goes_further w.start log last w.to to

      long : length (state m w.start).objects ≤ limits.objects
      long = long_at w.start to_start

      split : (state m w.start).objects ≡ (w.front ++ w.last_seen ∷ []) ++ w.rest
      split = w.objects ∙ sym (append_assoc w.front (w.last_seen ∷ []) w.rest)

      same : length (state m w.start).objects ≡ length (w.front ++ w.last_seen ∷ []) + length w.rest
      same = ap (λ (ys : List Stored). length ys) split ∙ length-append (w.front ++ w.last_seen ∷ []) w.rest

      behind : IsRising (w.last_seen ∷ w.rest)
      behind = rising_back w.front (w.last_seen ∷ w.rest) (subst IsRising w.objects (rising_at w.start to_start))

      by : ReadsAs m boot n (revision w.start) w.rest j → goes_on_from (Some w.last_seen.key) (length (w.front ++ w.last_seen ∷ [])) (objects_of j) (token_of j) ≡ true
      by (whole shows keys no_token) =
          on_with (Some w.last_seen.key) (length (w.front ++ w.last_seen ∷ [])) j w.rest keys behind.0 behind.1 (ends_or (token_of j) (objects_of j) no_token) (omega (arith, long, most, same))
      by (front_of front rest e shows keys cut token_is is_token) =
          let piece : w.rest ≡ (front ++ e ∷ []) ++ rest = cut ∙ sym (append_assoc front (e ∷ []) rest) in
          let parts : length w.rest ≡ length (front ++ e ∷ []) + length rest = ap (λ (ys : List Stored). length ys) piece ∙ length-append (front ++ e ∷ []) rest in
          on_with (Some w.last_seen.key) (length (w.front ++ w.last_seen ∷ [])) j (front ++ e ∷ []) keys
          (each_front (λ f. key_cmp w.last_seen.key f.key ≡ Less) (front ++ e ∷ []) rest (subst (λ (ys : List Stored). Each (λ f. key_cmp w.last_seen.key f.key ≡ Less) ys) piece behind.0))
          (rising_front (front ++ e ∷ []) rest (subst IsRising piece behind.1)) (some_or (token_of j) (objects_of j) front e keys) (omega (arith, long, most, same, parts))

  pub page_on : (log own : List Item) (a : Run) (j : Json) → limits.objects ≤ most_objects → GoesOn (log ++ own) last → IsAt m log a → Answered far n (lists a.limit a.token) log own (given j)
      → goes_on a j ≡ true
  page_on log own a j most to (begun small b) answered = on_first log a j most b (goes_further log (log ++ own) last (own, refl) to) (first_given log own a j small b to answered)
  page_on log own a j most to (within small w) answered = on_next log a j most w (goes_further log (log ++ own) last (own, refl) to) (next_given log own a j small w to answered)

  -- ---- where the next page is

  pub later_at : (log next : List Item) (a : Run) → GoesOn log next → IsAt m log a → IsAt m next a
  later_at log next a on (begun small b) = begun small b
  later_at log next a on (within small w) = within small (record {
    start = w.start;
    to = goes_further w.start log next w.to on;
    front = w.front;
    last_seen = w.last_seen;
    rest = w.rest;
    objects = w.objects;
    token_is = w.token_is;
    is_token = w.is_token;
    last_is = w.last_is;
    listed = w.listed;
  })

  next_at : (log own : List Item) (a : Run) (j : Json) (t : Counts) → GoesOn (log ++ own) last → IsAt m log a → Answered far n (lists a.limit a.token) log own (given j)
      → is_empty (token_of j) ≡ false → t.listed ≡ (with_objects a j).listed → IsAt m (log ++ own) (after_page a j t)
  next_at log own a j t to (begun small b) answered more listed = by (first_given log own a j small b to answered)
    where
      by : ReadsAs m boot n (revision log) (state m log).objects j → IsAt m (log ++ own) (after_page a j t)
      by (whole shows keys no_token) = absurd (not_empty (token_of j) no_token more)
      by (front_of front rest e shows keys cut token_is is_token) =
          let long : length (objects_of j) ≡ length (front ++ e ∷ []) = same_long (objects_of j) (front ++ e ∷ []) keys in
          let none = b.listed in
          within small (record {
            start = log;
            to = (own, refl);
            front = front;
            last_seen = e;
            rest = rest;
            objects = cut;
            token_is = token_is;
            is_token = is_token;
            last_is = last_is_of a.last (objects_of j) front e keys;
            listed = omega (arith, listed, long, none);
          })
  next_at log own a j t to (within small w) answered more listed = by (next_given log own a j small w to answered)
    where
      by : ReadsAs m boot n (revision w.start) w.rest j → IsAt m (log ++ own) (after_page a j t)
      by (whole shows keys no_token) = absurd (not_empty (token_of j) no_token more)
      by (front_of front rest e shows keys cut token_is is_token) =
          let long : length (objects_of j) ≡ length (front ++ e ∷ []) = same_long (objects_of j) (front ++ e ∷ []) keys in
          let before = w.listed in
          let whole_front : (w.front ++ w.last_seen ∷ front) ++ e ∷ [] ≡ (w.front ++ w.last_seen ∷ []) ++ (front ++ e ∷ []) =
          append_assoc w.front (w.last_seen ∷ front) (e ∷ []) ∙ sym (append_assoc w.front (w.last_seen ∷ []) (front ++ e ∷ [])) in
          let parts : length ((w.front ++ w.last_seen ∷ front) ++ e ∷ []) ≡ length (w.front ++ w.last_seen ∷ []) + length (front ++ e ∷ []) =
          ap (λ (ys : List Stored). length ys) whole_front ∙ length-append (w.front ++ w.last_seen ∷ []) (front ++ e ∷ []) in
          within small (record {
            start = w.start;
            to = goes_further w.start log (log ++ own) w.to (own, refl);
            front = w.front ++ w.last_seen ∷ front;
            last_seen = e;
            rest = rest;
            objects = w.objects ∙ ap (λ (ys : List Stored). w.front ++ w.last_seen ∷ ys) cut ∙ sym (append_assoc w.front (w.last_seen ∷ front) (e ∷ rest));
            token_is = token_is;
            is_token = is_token;
            last_is = last_is_of a.last (objects_of j) front e keys;
            listed = omega (arith, listed, long, before, parts);
          })

  -- ---- along a migration

  pub at_step : (a b : Run) (es : List Exchange) (log next : List Item) → Step n a es b → IsAt m log a → GoesOn next last → Chain far log es next → IsAt m next b
  at_step a _ _ log next (pages.page j e es t did goes more back) at to chain =
      let turn = turned far log e es next chain in
      let rest_on = chain_on far turn.mid es next turn.rest in
      let one = answered_at far n (lists a.limit a.token) log (given j) turn.mid e did tt turn.serves in
      let to_mid : GoesOn (one.at ++ one.own) last = subst (λ (l : List Item). GoesOn l last) one.mid_is (goes_further turn.mid next last rest_on to) in
      let placed : IsAt m (one.at ++ one.own) (after_page a j t) =
      next_at one.at one.own a j t to_mid (later_at log one.at a one.on at) one.answered more (listed_stays n (objects_of j) (with_objects a j) t es (all t) back refl) in
      later_at turn.mid next (after_page a j t) rest_on (subst (λ (l : List Item). IsAt m l (after_page a j t)) (sym one.mid_is) placed)
  at_step a _ _ log next (pages.halved e did some) (begun small b) to chain =
      begun (omega (arith, small)) (record { token_is = b.token_is; last_is = b.last_is; listed = b.listed })
  at_step a _ _ log next (pages.halved e did some) (within small w) to chain =
      later_at log next (record a { limit = a.limit / 2 }) (chain_on far log (e ∷ []) next chain)
      (within (omega (arith, small)) (record {
        start = w.start;
        to = w.to;
        front = w.front;
        last_seen = w.last_seen;
        rest = w.rest;
        objects = w.objects;
        token_is = w.token_is;
        is_token = w.is_token;
        last_is = w.last_is;
        listed = w.listed;
      }))
  at_step a _ _ log next (pages.again e did few) at to chain = begun (small_at a at) (record { token_is = refl; last_is = refl; listed = refl })
    where
      small_at : (b : Run) → IsAt m log b → b.limit ≤ first_limit
      small_at b (begun small begins) = small
      small_at b (within small w) = small

  at_reached : (a b : Run) (es : List Exchange) (log next : List Item) → Reaches n a es b → IsAt m log a → GoesOn next last → Chain far log es next → IsAt m next b
  at_reached _ _ _ log next (here a) at to chain = later_at log next a (ended far log next chain) at
  at_reached _ _ _ log next (step a b c es fs one more) at to chain =
      let parts = split far log es fs next chain in
      at_reached b c fs parts.mid next more (at_step a b es log parts.mid one at (goes_further parts.mid next last (chain_on far parts.mid fs next parts.back) to) parts.front) to parts.back

  pub reached_at : (first log : List Item) (es : List Exchange) (a : Run) → GoesOn log last → Chain far first es log → Reaches n (at_first first_limit 0) es a → IsAt m log a
  reached_at first log es a to chain reaches =
      at_reached (at_first first_limit 0) a es first log reaches (begun (omega arith) (record { token_is = refl; last_is = refl; listed = refl })) to chain
