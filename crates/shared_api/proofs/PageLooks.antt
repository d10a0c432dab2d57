-- What a turn that copies a page comes to.
use Rattle.std.proofs.Common.{◌≡◌, ℕ, ◌+◌, ◌-◌, ◌≤◌, ◌<◌, ◌^◌, List, [], ◌∷◌, Option, None, Some, Ok, Err, Bool, true, false, length, map, take, zero, suc, inl, inr, ap, sym, subst, refl, ◌∙◌, arith}
use Rattle.std.specs.Prelude.{Result, IfOk, IfErr, filter, not, nat_eq, nat_lt, if◌then◌else◌}
use Rattle.kube_meta.specs.Key.{KeyView}
use Rattle.kube_meta.specs.Page.{Page as PageOf, listed}
use Rattle.kube_meta.specs.WindowPairs.{AllPair}
use Rattle.kube_meta.specs.declared.limits.Limits.{Limits}
use Rattle.api_calls.specs.Calls.{Told, answered, Failure, no_memory, converter, Fails, failure_refusal, list}
use Rattle.api_calls.specs.laws.GrowthLaws.{next_number-revision}
use Rattle.api_calls.specs.Item.{Item, entry, note, items}
use Rattle.api_calls.specs.Legal.{Each, In}
use Rattle.api_calls.specs.Meaning.{Meaning}
use Rattle.api_calls.specs.Objects.{Stored}
use Rattle.api_calls.specs.Pages.{PageEnd, Place, page_decision, place_page}
use Rattle.api_calls.specs.Pages as page
use Rattle.api_calls.specs.Replies.{Answer, ListReply, Pages}
use Rattle.api_calls.specs.Snap.{floor, page_at, snap, upto}
use Rattle.api_calls.specs.State.{next_number, number_from, opening, revision, served, state}
use Rattle.api_calls.specs.Versions.{IsStored}
use Rattle.api_calls.specs.declared.flags.Flags.{Flags}
use Rattle.api_core.specs.CoreOf.{CoreOf, StandsFor}
use Rattle.api_core.specs.Keeps.{KeepsObject}
use Rattle.api_core.specs.Pages.{RefusesPage, ShowsPage}
use Rattle.api_core.specs.Prepared.{seen_item}
use Rattle.api_core.specs.declared.page_ends.Page.{Page}
use Rattle.api_core.specs.declared.page_ends.PageFault.{PageFault}
use Rattle.api_core.specs.declared.seen.Seen.{Seen}
use Rattle.turn_cell.specs.declared.view.View.{View}
use Rattle.turn_cell.specs.declared.view.Stage.TheVariants.{Holds}
use Rattle.turn_cell.specs.Views.{set_stage, Later}
use Rattle.turn_cell.specs.Turns.{Gives}
use Rattle.call_texts.specs.Told.{Came}
use Rattle.shared_api.specs.Answered.{CallsOn}
use Rattle.shared_api.specs.Base.{StandsCell, base_of, server_of}
use Rattle.call_texts.specs.Cached.{AreCached, Stood, WasSeen}
use Rattle.call_texts.specs.Listing.{IsSeen}
use Rattle.shared_api.specs.inner.PageTurns.{LooksPage}
use Rattle.shared_api.specs.inner.Turning.{Reads}
use Rattle.shared_api.specs.declared.cell.CoreBase.{CoreBase}
use Rattle.call_texts.proofs.Born.{BornBelow, born-from, later}
use Rattle.call_texts.proofs.IfOk.{if_ok}
use Rattle.form_cache.specs.Forms.{Form}
use Rattle.shared_api.proofs.Caches.{prefix-cached}
use Rattle.shared_api.proofs.Turns.{reads, reads_calls}

-- ---- births of the objects of a page

each-take : {X : Type 0} (P : X → Type 0) (n : ℕ) (xs : List X) → Each P xs → Each P (take n xs)
each-take P zero xs h = tt
each-take P (suc n) [] h = tt
each-take P (suc n) (x ∷ xs) h = (h.0, each-take P n xs h.1)

each-filter : {X : Type 0} (P : X → Type 0) (f : X → Bool) (xs : List X) → Each P xs → Each P (filter f xs)
each-filter P f [] h = tt
each-filter P f (x ∷ xs) h = by (f x) (each-filter P f xs h.1)
  where
    by : (b : Bool) → Each P (filter f xs) → Each P (if b then x ∷ filter f xs else filter f xs)
    by true more = (h.0, more)
    by false more = more

number-grows : (n : ℕ) (log : List Item) → n ≤ number_from n log
number-grows n [] = omega arith
number-grows n (entry e ∷ log) = let more = number-grows (n + 1) log in omega (arith, more)
number-grows n (note x ∷ log) = number-grows n log

number-upto : (n r : ℕ) (log : List Item) → number_from n (upto n r log) ≤ number_from n log
number-upto n r [] = omega arith
number-upto n r (entry e ∷ log) = by (nat_lt r n) (number-upto (n + 1) r log)
  where
    by : (b : Bool) → number_from (n + 1) (upto (n + 1) r log) ≤ number_from (n + 1) log → number_from n (if b then [] else entry e ∷ upto (n + 1) r log) ≤ number_from (n + 1) log
    by true more = let grows = number-grows (n + 1) log in omega (arith, grows)
    by false more = more
number-upto n r (note x ∷ log) = number-upto n r log

snap-born : (m : Meaning) (log : List Item) (r : ℕ) → Each (BornBelow (next_number log)) (snap m log r)
snap-born m log r = later (next_number (upto 2 r log)) (next_number log) (number-upto 2 r log) (snap m log r) (born-from 2 (opening m) (upto 2 r log) tt)

-- what holds of each object at a number holds of each object of a page
page-each : (P : Stored → Type 0) (m : Meaning) (log : List Item) (ns : Option (List ℕ)) (after : Option KeyView) (r limit : ℕ) → Each P (snap m log r)
    → Each P (page_at m log ns after r limit).items
page-each P m log ns after r limit h = by (nat_eq limit 0)
  where
    of_ns : List Stored
    of_ns = listed (λ (e : Stored). e.key) ns after (snap m log r)

    holds : Each P of_ns
    holds = each-filter P _ (snap m log r) h

    of_items : PageOf Stored → Type 0
    of_items p = Each P p.items

    by : (b : Bool) → of_items (if b then record { number = r; items = of_ns; remaining = 0 } else record { number = r; items = take limit of_ns; remaining = length of_ns - limit })
    by true = holds
    by false = each-take P limit of_ns holds

-- ---- the objects of a page stood after a beginning of the list

upto-take : (n r : ℕ) (log : List Item) → (i : ℕ) × (take i log ≡ upto n r log)
upto-take n r [] = (0, refl)
upto-take n r (note x ∷ log) = let (i, is) = upto-take n r log in (suc i, ap (λ (is : List Item). note x ∷ is) is)
upto-take n r (entry e ∷ log) = by (nat_lt r n) (upto-take (n + 1) r log)
  where
    by : (b : Bool) → (i : ℕ) × (take i log ≡ upto (n + 1) r log) → (i : ℕ) × (take i (entry e ∷ log) ≡ (if b then [] else entry e ∷ upto (n + 1) r log))
    by true more = (0, refl)
    by false (i, is) = (suc i, ap (λ (is : List Item). entry e ∷ is) is)

all-in : {X : Type 0} (P : X → Type 0) (xs : List X) → ((x : X) → In x xs → P x) → Each P xs
all-in P [] f = tt
all-in P (x ∷ xs) f = (f x (inl refl), all-in P xs (λ y h. f y (inr h)))

snap-stood : (m : Meaning) (log : List Item) (r : ℕ) → Each (Stood m log) (snap m log r)
snap-stood m log r =
    let (i, is) = upto-take 2 r log in
    subst (λ (l : List Item). Each (Stood m log) (state m l).objects) is (all-in (Stood m log) (state m (take i log)).objects (λ e h. record { until = i; there = h }))

-- what is known of each object of a page
abbrev Kept : Meaning → List Item → List Stored → Type 0
Kept m log es = Each (BornBelow (next_number log)) es × Each (Stood m log) es

page-kept : (m : Meaning) (log : List Item) (ns : Option (List ℕ)) (after : Option KeyView) (r limit : ℕ) → Kept m log (page_at m log ns after r limit).items
page-kept m log ns after r limit = (
  page-each (BornBelow (next_number log)) m log ns after r limit (snap-born m log r),
  page-each (Stood m log) m log ns after r limit (snap-stood m log r),
)

-- ---- a page that is decided

-- the version is served, and the objects were created before the next entry and stood after a beginning of the list
record IsDecided (m : Meaning) (log : List Item) (at : ℕ) (q : PageOf Stored) : Type 0 where
  served : served (state m log).flags at ≡ true
  kept : Kept m log q.items

same-page : (p q : PageOf Stored) → page.shown p ≡ page.shown q → p ≡ q
same-page p q is = cc

decided-page : (limits : Limits) (m : Meaning) (log : List Item) (at : ℕ) (ns : Option (List ℕ)) (limit : ℕ) (token : Option Place) (q : PageOf Stored)
    → page_decision limits m log at ns limit token ≡ page.shown q → IsDecided m log at q
decided-page limits m log at ns limit token q is = by (served (state m log).flags at) refl is
  where
    Held : PageOf Stored → Type 0
    Held p = Kept m log p.items

    at_token : (t : Place) (a b : Bool)
        → (if a then page.ahead (revision log) else if b then page.expired (floor limits m log) else page.shown (page_at m log ns (Some t.key) t.number limit)) ≡ page.shown q → Held q
    at_token t true b is = absurd (cc)
    at_token t false true is = absurd (cc)
    at_token t false false is = subst Held (same-page (page_at m log ns (Some t.key) t.number limit) q is) (page-kept m log ns (Some t.key) t.number limit)

    at_place : (t : Option Place) → place_page limits m log ns limit t ≡ page.shown q → Held q
    at_place None is = subst Held (same-page (page_at m log ns None (revision log) limit) q is) (page-kept m log ns None (revision log) limit)
    at_place (Some t) is = at_token t (nat_lt (revision log) t.number) (nat_lt t.number (floor limits m log)) is

    by : (b : Bool) → served (state m log).flags at ≡ b → (if not b then page.unserved else place_page limits m log ns limit token) ≡ page.shown q → IsDecided m log at q
    by true may is = record { served = may; kept = at_place token is }
    by false may is = absurd (cc)

are-seen : (m : Meaning) (n : ℕ) (ss : List Seen) (es : List Stored) → n ≤ 2 ^ 62 → AllPair (KeepsObject m) (map seen_item ss) es → Each (BornBelow n) es → Each (IsSeen m) ss
are-seen m n [] [] few keeps born = tt
are-seen m n (s ∷ ss) (e ∷ es) few keeps born = (
  record {
    value = keeps.0.text.value;
    stored = subst (λ (a : ℕ). IsStored m a keeps.0.text.value s.bytes.bytes) (sym keeps.0.at) keeps.0.text.stored;
    born = let same = keeps.0.born in let below = born.0 in omega (arith, same, below, few);
  },
  are-seen m n ss es few keeps.1 born.1,
)
are-seen m n [] (e ∷ es) few keeps born = absurd keeps
are-seen m n (s ∷ ss) [] few keeps born = absurd keeps

were-seen : (m : Meaning) (log : List Item) (ss : List Seen) (es : List Stored) → AllPair (KeepsObject m) (map seen_item ss) es → Each (Stood m log) es → Each (WasSeen m log) ss
were-seen m log [] [] keeps stood = tt
were-seen m log (s ∷ ss) (e ∷ es) keeps stood = (record { object = e; stood = stood.0; keeps = keeps.0 }, were-seen m log ss es keeps.1 stood.1)
were-seen m log [] (e ∷ es) keeps stood = absurd keeps
were-seen m log (s ∷ ss) [] keeps stood = absurd keeps

-- what is known of a page that is shown
record IsKnown (m : Meaning) (log : List Item) (at : ℕ) (p : Page) : Type 0 where
  known : at < m.count
  stored : Each (IsSeen m) p.items
  was : Each (WasSeen m log) p.items

known-page : (limits : Limits) (m : Meaning) (log : List Item) (at : ℕ) (ns : Option (List ℕ)) (limit : ℕ) (token : Option Place) (p : Page)
    → (served (state m log).flags at ≡ true → at < m.count) → revision log ≤ 2 ^ 61 → ShowsPage m p (page_decision limits m log at ns limit token) → IsKnown m log at p
known-page limits m log at ns limit token p may few shows = by (page_decision limits m log at ns limit token) refl shows
  where
    by : (d : PageEnd) → page_decision limits m log at ns limit token ≡ d → ShowsPage m p d → IsKnown m log at p
    by (page.shown q) is keeps =
        let decided = decided-page limits m log at ns limit token q is in
        let next = next_number-revision log in
        record {
          known = may decided.served;
          stored = are-seen m (next_number log) p.items q.items (omega (arith, next, few)) keeps.records decided.kept.0;
          was = were-seen m log p.items q.items keeps.records decided.kept.1;
        }
    by page.unserved is keeps = absurd keeps
    by (page.ahead n) is keeps = absurd keeps
    by (page.expired n) is keeps = absurd keeps
    by page.no_memory is keeps = absurd keeps

-- ---- the turn

if_err : {A E : Type 0} (P Q : E → Type 0) (r : Result A E) → ((e : E) → P e → Q e) → IfErr r P → IfErr r Q
if_err P Q (Ok a) f p = p
if_err P Q (Err e) f p = f e p

-- a turn that copied a page
pub looks_page : {V : Type 0} (meaning : V → Meaning) (c : CoreOf V) (b : CoreBase V) (v w z : View (CoreBase V)) (at : ℕ) (ns : Option (List ℕ)) (limit : ℕ) (token : Option Place)
    (r : Result Page PageFault) (f : Flags)
    → v.base ≡ Some (base_of c) → v.base ≡ Some b → (t : ℕ) × (w ≡ set_stage v w.seen (Holds t 0)) → Later v w.seen
    → StandsCell meaning c w.seen → length w.seen < 2 ^ 61 → Gives w z
    → IfOk r (λ p. (log : List Item) → StandsFor meaning c log → ShowsPage (meaning c.versions) p (page_decision c.view.limits (meaning c.versions) log at ns limit token))
    → IfErr r (λ e. (log : List Item) → StandsFor meaning c log → RefusesPage e (page_decision c.view.limits (meaning c.versions) log at ns limit token))
    → f ≡ c.view.flags → (served f at ≡ true → at < (meaning c.versions).count)
    → LooksPage (server_of meaning b) v z at ns limit token r
looks_page {V = V} meaning c b v w z at ns limit token r f based is took behind stands short given shows refuses flags may =
    let same : base_of c ≡ b = cc (based, is) in
    subst (λ (x : CoreBase V). LooksPage (server_of meaning x) v z at ns limit token r) same (record {
      log = w.seen;
      reads = turn;
      known = if_ok showing (λ p. at < m.count) r (λ p s. (known p s).known) here;
      stored = if_ok showing (λ p. Each (IsSeen m) p.items) r (λ p s. (known p s).stored) here;
      was = if_ok showing (λ p. Each (WasSeen m (items w.seen)) p.items) r (λ p s. (known p s).was) here;
      shows = here;
      refuses = if_err (λ e. (log : List Item) → StandsFor meaning c log → RefusesPage e (page_decision c.view.limits m log at ns limit token))
          (λ e. RefusesPage e (page_decision c.view.limits m (items w.seen) at ns limit token)) r (λ e s. s (items w.seen) stands.0) refuses;
    })
  where
    m : Meaning
    m = meaning c.versions

    showing : Page → Type 0
    showing p = ShowsPage m p (page_decision c.view.limits m (items w.seen) at ns limit token)

    turn : Reads (server_of meaning (base_of c)) v z w.seen
    turn = reads meaning c v w z took behind stands short given

    here : IfOk r showing
    here = if_ok (λ p. (log : List Item) → StandsFor meaning c log → ShowsPage m p (page_decision c.view.limits m log at ns limit token)) showing r (λ p s. s (items w.seen) stands.0) shows

    known : (p : Page) → showing p → IsKnown m (items w.seen) at p
    known p s =
        let same_flags : f ≡ (state m (items w.seen)).flags = flags ∙ stands.0.present.flags in
        known-page c.view.limits m (items w.seen) at ns limit token p (subst (λ (x : Flags). served x at ≡ true → at < m.count) same_flags may) turn.few s

-- ---- the call

list_fails : (place : ℕ) (ns : Option (List ℕ)) (limit : ℕ) (token : Option Place) (f : Failure) → Fails f (list place ns limit token) (answered (Err (failure_refusal f)))
list_fails place ns limit token no_memory = refl
list_fails place ns limit token converter = refl

pub list_calls : {V : Type 0} (meaning : V → Meaning) (b : CoreBase V) (it : V) (boot : ℕ) (rose : Type 0) (v z : View (CoreBase V)) (place : ℕ) (ns : Option (List ℕ)) (limit : ℕ)
    (token : Option Place) (r : Result Page PageFault) (d : Answer) (t : Told) (fs : List Form)
    → it ≡ b.versions → boot ≡ b.boot → LooksPage (server_of meaning b) v z place ns limit token r → AreCached (meaning b.versions) b.boot (items v.seen) fs
    → ((log : List Item) (e : PageEnd) → IfOk r (λ p. Each (WasSeen (meaning it) log) p.items) → AreCached (meaning it) boot log fs
    → IfOk r (λ p. ShowsPage (meaning it) p e) → IfErr r (λ f. RefusesPage f e) → Came rose (λ a i. (i ≡ None) × Pages (meaning it) boot place e a) d None)
    → t ≡ answered d
    → CallsOn (server_of meaning b) rose [] v z (list place ns limit token) t
list_calls {V = V} meaning b it boot rose v z place ns limit token r d t fs same booted looked cached came told =
    let log : List Item = items looked.log in
    let e : PageEnd = page_decision b.limits (meaning b.versions) log place ns limit token in
    let here = prefix-cached (meaning b.versions) b.boot fs v.seen looked.log looked.reads.turned.0 cached in
    let by_boot = subst
    (λ (n : ℕ). (l : List Item) (q : PageEnd) → IfOk r (λ p. Each (WasSeen (meaning it) l) p.items) → AreCached (meaning it) n l fs
    → IfOk r (λ p. ShowsPage (meaning it) p q) → IfErr r (λ f. RefusesPage f q) → Came rose (λ a i. (i ≡ None) × Pages (meaning it) n place q a) d None) booted came in
    let by_it = subst
    (λ (x : V). (l : List Item) (q : PageEnd) → IfOk r (λ p. Each (WasSeen (meaning x) l) p.items) → AreCached (meaning x) b.boot l fs
    → IfOk r (λ p. ShowsPage (meaning x) p q) → IfErr r (λ f. RefusesPage f q) → Came rose (λ a i. (i ≡ None) × Pages (meaning x) b.boot place q a) d None) same by_boot in
    reads_calls (server_of meaning b) rose v z looked.log (list place ns limit token) (ListReply (meaning b.versions) b.limits b.boot log place ns limit token)
    (λ a i h. (a, refl, h)) (list_fails place ns limit token) (λ h. tt) d t looked.reads (by_it log e looked.was here looked.shows looked.refuses) told
