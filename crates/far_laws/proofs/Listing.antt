-- What a page of a list tells of the objects that stood at the list's first page.
use Rattle.std.proofs.Common.{◌≡◌, ◌∙◌, refl, sym, ap, subst, append_assoc, ℕ, zero, suc, ◌+◌, ◌-◌, ◌<◌, ◌≤◌, Bool, true, false, not, List, [], ◌∷◌, ◌++◌, length, take, Option, None, Some, Ok, nat_lt, arith}
use Rattle.std.specs.Prelude.{nat_eq, if◌then◌else◌}
use Rattle.std.proofs.lemmas.Bool.Decides.{nat_tests}
use Rattle.kube_meta.specs.Page.{Page, listed, page_of}
use Rattle.kube_meta.specs.declared.limits.Limits.{Limits}
use Rattle.api_calls.specs.laws.GrowthLaws.{next_number-revision}
use Rattle.api_calls.specs.Item.{Item, entry, note}
use Rattle.api_calls.specs.Legal.{Each, legal}
use Rattle.api_calls.specs.Meaning.{Meaning}
use Rattle.api_calls.specs.Objects.{Stored, object_key}
use Rattle.api_calls.specs.Pages.{PageEnd, Place, page_decision, place_page}
use Rattle.api_calls.specs.Pages as page
use Rattle.api_calls.specs.Replies.{IsList, Pages, last_token, next_token}
use Rattle.api_calls.specs.Reply.{ReplyView}
use Rattle.api_calls.specs.Snap.{floor, page_at, snap, upto}
use Rattle.api_calls.specs.State.{entries, number_from, opening, revision, served, state}
use Rattle.api_calls.specs.Token.{token_text}
use Rattle.api_calls.proofs.Snaps.{stays-from}
use Rattle.api_calls.proofs.Sound.{sound-all}
use Rattle.far_laws.proofs.legal_lists.Pages.{left}
use Rattle.far_laws.proofs.Values.{IsKept, each_front}

-- ---- the objects at the number of a history

upto_all : (n r : ℕ) (log : List Item) → n + entries log ≤ r + 1 → upto n r log ≡ log
upto_all n r [] h = refl
upto_all n r (note x ∷ log) h = ap (λ (l : List Item). note x ∷ l) (upto_all n r log h)
upto_all n r (entry e ∷ log) h =
    let no : nat_lt r n ≡ false = grind (arith, nat_tests) in
    let more : n + 1 + entries log ≤ r + 1 = omega (arith, h) in
    ap (λ (b : Bool). if b then [] else entry e ∷ upto (n + 1) r log) no ∙ ap (λ (l : List Item). entry e ∷ l) (upto_all (n + 1) r log more)

pub snap_now : (m : Meaning) (log : List Item) → snap m log (revision log) ≡ (state m log).objects
snap_now m log = ap (λ (l : List Item). (state m l).objects) (upto_all 2 (revision log) log (omega arith))

pub snap_later : (m : Meaning) (log more : List Item) → snap m (log ++ more) (revision log) ≡ (state m log).objects
snap_later m log more =
    let next = next_number-revision log in
    let few : revision log < number_from 2 log = omega (arith, next) in
    stays-from 2 (revision log) (opening m) log more few ∙ snap_now m log

-- ---- pages

listed_all : (xs : List Stored) → listed object_key None None xs ≡ xs
listed_all [] = refl
listed_all (x ∷ xs) = ap (λ (ys : List Stored). x ∷ ys) (listed_all xs)

take_all : (k : ℕ) (xs : List Stored) → length xs ≤ k → take k xs ≡ xs
take_all zero [] h = refl
take_all zero (x ∷ xs) h = absurd (omega (arith, h))
take_all (suc k) [] h = refl
take_all (suc k) (x ∷ xs) h = ap (λ (ys : List Stored). x ∷ ys) (take_all k xs (omega (arith, h)))

-- a front that ends in an object
record Cut (k : ℕ) (xs : List Stored) : Type 0 where
  front : List Stored
  last : Stored
  rest : List Stored
  taken : take k xs ≡ front ++ last ∷ []
  whole : xs ≡ front ++ last ∷ rest

cut : (k : ℕ) (x : Stored) (xs : List Stored) → k < length (x ∷ xs) → Cut (suc k) (x ∷ xs)
cut zero x [] h = record { front = []; last = x; rest = []; taken = refl; whole = refl }
cut zero x (y ∷ ys) h = record { front = []; last = x; rest = y ∷ ys; taken = refl; whole = refl }
cut (suc k) x [] h = absurd (omega (arith, h))
cut (suc k) x (y ∷ ys) h =
    let c = cut k y ys (omega (arith, h)) in
    record {
      front = x ∷ c.front;
      last = c.last;
      rest = c.rest;
      taken = ap (λ (zs : List Stored). x ∷ zs) c.taken;
      whole = ap (λ (zs : List Stored). x ∷ zs) c.whole;
    }

cut_within : (k : ℕ) (xs : List Stored) → 0 < k → k < length xs → Cut k xs
cut_within zero xs some h = absurd (omega (arith, some))
cut_within (suc k) [] some h = absurd (omega (arith, h))
cut_within (suc k) (x ∷ xs) some h = cut k x xs (omega (arith, h))

token_of_last : (number : ℕ) (front : List Stored) (e : Stored) → last_token number (front ++ e ∷ []) ≡ token_text number e.key
token_of_last number [] e = refl
token_of_last number (f ∷ []) e = refl
token_of_last number (f ∷ g ∷ fs) e = token_of_last number (g ∷ fs) e

-- A page of these objects is all of them, and has no token; or it is a front of them, and has the token of its last one.
pub data PageCase (number : ℕ) (xs : List Stored) (p : Page Stored) : Type 0 where
  last_page : p.items ≡ xs → next_token p ≡ [] → PageCase number xs p
  more_follow : (front rest : List Stored) (last : Stored) → p.items ≡ front ++ last ∷ [] → xs ≡ front ++ last ∷ rest → next_token p ≡ token_text number last.key
      → PageCase number xs p

page_cases : (number limit : ℕ) (xs : List Stored) → PageCase number xs (page_of number limit xs)
page_cases number limit xs = by_limit (nat_eq limit 0) refl
  where
    token_at : Bool → List ℕ
    token_at b = if b then [] else last_token number (take limit xs)

    by_left : (b : Bool) → nat_eq limit 0 ≡ false → nat_eq (length xs - limit) 0 ≡ b → PageCase number xs (record { number = number; items = take limit xs; remaining = length xs - limit })
    by_left true some is =
        let few : length xs ≤ limit = grind (arith, nat_tests) in
        last_page (take_all limit xs few) (ap token_at is)
    by_left false some is =
        let one : 0 < limit = grind (arith, nat_tests) in
        let many : limit < length xs = grind (arith, nat_tests) in
        let c = cut_within limit xs one many in
        more_follow c.front c.rest c.last c.taken c.whole (ap token_at is ∙ ap (λ (ys : List Stored). last_token number ys) c.taken ∙ token_of_last number c.front c.last)

    by_limit : (b : Bool) → nat_eq limit 0 ≡ b
        → PageCase number xs (if b then record { number = number; items = xs; remaining = 0 } else record { number = number; items = take limit xs; remaining = length xs - limit })
    by_limit true is = last_page refl refl
    by_limit false is = by_left (nat_eq (length xs - limit) 0) is refl

-- such a page, of which no more is left than the objects are
pub record IsPageOf (number : ℕ) (xs : List Stored) (p : Page Stored) : Type 0 where
  pub case : PageCase number xs p
  pub few : p.remaining ≤ length xs

few_left : (number limit : ℕ) (xs : List Stored) → (page_of number limit xs).remaining ≤ length xs
few_left number limit xs = by (nat_eq limit 0)
  where
    left_of : Page Stored → ℕ
    left_of p = p.remaining

    by : (b : Bool) → left_of (if b then record { number = number; items = xs; remaining = 0 } else record { number = number; items = take limit xs; remaining = length xs - limit }) ≤ length xs
    by true = omega arith
    by false = omega arith

is_page_of : (number limit : ℕ) (xs : List Stored) → IsPageOf number xs (page_of number limit xs)
is_page_of number limit xs = record { case = page_cases number limit xs; few = few_left number limit xs }

-- what holds of objects holds of those of their page
pub kept_items : (m : Meaning) (number : ℕ) (xs : List Stored) (p : Page Stored) → Each (IsKept m) xs → IsPageOf number xs p → Each (IsKept m) p.items
kept_items m number xs p kept of = by of.case
  where
    by : PageCase number xs p → Each (IsKept m) p.items
    by (last_page items none) = subst (λ (ys : List Stored). Each (IsKept m) ys) (sym items) kept
    by (more_follow front rest e items cut token_is) =
        let here : Each (IsKept m) (front ++ e ∷ rest) = subst (λ (ys : List Stored). Each (IsKept m) ys) cut kept in
        let one : e ∷ rest ≡ (e ∷ []) ++ rest = refl in
        subst (λ (ys : List Stored). Each (IsKept m) ys) (sym items)
        (each_front (IsKept m) (front ++ e ∷ []) rest (subst (λ (ys : List Stored). Each (IsKept m) ys) (sym (append_assoc front (e ∷ []) rest)) here))

-- ---- a page that was shown

-- the page of an answer to a list
pub record Shown (m : Meaning) (limits : Limits) (boot : ℕ) (log : List Item) (v limit : ℕ) (from : Option Place) (r : ReplyView) : Type 0 where
  pub paged : Page Stored
  pub is : place_page limits m log None limit from ≡ page.shown paged
  pub shows : IsList m boot v paged (Ok r)

pub shown_by : (m : Meaning) (limits : Limits) (boot : ℕ) (log : List Item) (v limit : ℕ) (from : Option Place) (r : ReplyView)
    → Pages m boot v (page_decision limits m log v None limit from) (Ok r) → Shown m limits boot log v limit from r
shown_by m limits boot log v limit from r answers = by_served (served (state m log).flags v) answers
  where
    by_end : (e : PageEnd) → place_page limits m log None limit from ≡ e → Pages m boot v e (Ok r) → Shown m limits boot log v limit from r
    by_end (page.shown p) is h = record { paged = p; is = is; shows = h }
    by_end page.unserved is h = cc
    by_end (page.ahead number) is h = cc
    by_end (page.expired number) is h = cc
    by_end page.no_memory is h = absurd h

    by_served : (b : Bool) → Pages m boot v (if not b then page.unserved else place_page limits m log None limit from) (Ok r) → Shown m limits boot log v limit from r
    by_served true h = by_end (place_page limits m log None limit from) refl h
    by_served false h = cc

same_page : (p q : Page Stored) → page.shown p ≡ page.shown q → p ≡ q
same_page p q e = cc

-- the first page is one of the objects that stand there
pub first_page : (m : Meaning) (limits : Limits) (log : List Item) (limit : ℕ) (p : Page Stored) → place_page limits m log None limit None ≡ page.shown p
    → IsPageOf (revision log) (state m log).objects p
first_page m limits log limit p is =
    let objects : listed object_key None None (snap m log (revision log)) ≡ (state m log).objects = listed_all (snap m log (revision log)) ∙ snap_now m log in
    subst (λ (q : Page Stored). IsPageOf (revision log) (state m log).objects q) (same_page (page_at m log None None (revision log) limit) p is)
    (subst (λ (xs : List Stored). IsPageOf (revision log) (state m log).objects (page_of (revision log) limit xs)) (sym objects)
    (is_page_of (revision log) limit (state m log).objects))

-- a later page is one of those that are left behind the object of its token
pub next_page : (m : Meaning) (limits : Limits) (start more : List Item) (limit : ℕ) (front rest : List Stored) (last : Stored) (p : Page Stored) → legal m limits start
    → (state m start).objects ≡ front ++ last ∷ rest
    → place_page limits m (start ++ more) None limit (Some (record { number = revision start; key = last.key })) ≡ page.shown p → IsPageOf (revision start) rest p
next_page m limits start more limit front rest last p l objects is = by_ahead (nat_lt (revision log) (revision start)) is
  where
    log : List Item
    log = start ++ more

    left_over : listed object_key None (Some last.key) (snap m log (revision start)) ≡ rest
    left_over =
        ap (λ (xs : List Stored). listed object_key None (Some last.key) xs) (snap_later m start more)
        ∙ left None None (state m start).objects front rest last (sound-all m limits start l).rising (listed_all (state m start).objects ∙ objects)

    by_floor : (b : Bool) → (if b then page.expired (floor limits m log) else page.shown (page_at m log None (Some last.key) (revision start) limit)) ≡ page.shown p
        → IsPageOf (revision start) rest p
    by_floor true h = cc
    by_floor false h =
        subst (λ (q : Page Stored). IsPageOf (revision start) rest q) (same_page (page_at m log None (Some last.key) (revision start) limit) p h)
        (subst (λ (xs : List Stored). IsPageOf (revision start) rest (page_of (revision start) limit xs)) (sym left_over) (is_page_of (revision start) limit rest))

    by_ahead : (b : Bool)
        → (if b then page.ahead (revision log)
        else if nat_lt (revision start) (floor limits m log) then page.expired (floor limits m log)
        else page.shown (page_at m log None (Some last.key) (revision start) limit)) ≡ page.shown p
        → IsPageOf (revision start) rest p
    by_ahead true h = cc
    by_ahead false h = by_floor (nat_lt (revision start) (floor limits m log)) h
