-- Laws of lists that go on: how their items and numbers are counted, and that a number names one object in every beginning, also in what stood at an old number.
use Rattle.std.specs.Prelude.{◌≡◌, ◌⊎◌, ℕ, ◌+◌, ◌-◌, ◌≤◌, ◌&&◌, not, Bool, cond, filter, true, false, List, [], ◌∷◌, ◌++◌, Option, None, Some, length, take, nat_eq, nat_lt, if◌then◌else◌}
use Rattle.std.proofs.Common.{refl, ap, ◌∙◌, sym, subst, arith, inl, inr, zero, suc, append-nil, length-append}
use Rattle.kube_meta.specs.Key.{KeyView}
use Rattle.kube_meta.specs.Page.{Page, in_namespace, bound_after}
use Rattle.kube_meta.specs.Plan.{passed}
use Rattle.kube_meta.specs.declared.limits.Limits.{Limits}
use Rattle.api_calls.specs.Meaning.{Meaning}
use Rattle.api_calls.specs.Item.{Entry, Item, entry, note, Logged, items, items_of}
use Rattle.api_calls.specs.Objects.{Stored, find}
use Rattle.api_calls.specs.State.{entries, opening, revision, state}
use Rattle.api_calls.specs.Legal.{In, guard, legal, CountsFrom, IsLegal}
use Rattle.api_calls.specs.Ends.{grown}
use Rattle.api_calls.specs.Snap.{upto, snap, page_at}
use Rattle.api_calls.specs.laws.GrowthLaws.{legal-more, legal-front}
use Rattle.api_calls.proofs.Numbers.{one-value, one-from, numbered-opening}

-- ---- counts

pub length-grown : (log : List Item) (o : Option Item) → length (grown log o) ≤ length log + 1
length-grown log None = omega arith
length-grown log (Some i) = let more = length-append log (i ∷ []) in omega (arith, more)

-- a grown list goes on from the list
pub grown-goes_on : (log : List Item) (o : Option Item) → (more : List Item) × (grown log o ≡ log ++ more)
grown-goes_on log None = ([], sym (append-nil log))
grown-goes_on log (Some i) = (i ∷ [], refl)

pub legal-grown : (m : Meaning) (limits : Limits) (log : List Item) (o : Option Item) → legal m limits log → ((i : Item) → o ≡ Some i → guard m limits (state m log) i)
    → legal m limits (grown log o)
legal-grown m limits log None l may = l
legal-grown m limits log (Some i) l may = legal-more m limits log i l (may i refl)

pub entries-append : (xs ys : List Item) → entries (xs ++ ys) ≡ entries xs + entries ys
entries-append [] ys = omega arith
entries-append (entry e ∷ xs) ys = let more = entries-append xs ys in omega (arith, more)
entries-append (note x ∷ xs) ys = entries-append xs ys

-- no list has more entries than items
pub entries-few : (log : List Item) → entries log ≤ length log
entries-few [] = omega arith
entries-few (entry e ∷ log) = let more = entries-few log in omega (arith, more)
entries-few (note x ∷ log) = let more = entries-few log in omega (arith, more)

-- the revision never falls, and rises by one with each entry
pub revision-append : (log more : List Item) → revision (log ++ more) ≡ revision log + entries more
revision-append log more = let all = entries-append log more in omega (arith, all)

pub revision-entry : (log : List Item) (e : Entry) → revision (log ++ entry e ∷ []) ≡ revision log + 1
revision-entry log e = let all = entries-append log (entry e ∷ []) in omega (arith, all)

-- ---- lists of passes

pub items-append : (xs ys : List Logged) → items (xs ++ ys) ≡ items xs ++ items ys
items-append [] ys = refl
items-append (l ∷ xs) ys = ap (λ (is : List Item). l.item ∷ is) (items-append xs ys)

pub items_of-append : (p : ℕ) (xs ys : List Logged) → items_of p (xs ++ ys) ≡ items_of p xs ++ items_of p ys
items_of-append p [] ys = refl
items_of-append p (l ∷ xs) ys = by (nat_eq l.by p) (items_of-append p xs ys)
  where
    by : (b : Bool) → items_of p (xs ++ ys) ≡ items_of p xs ++ items_of p ys
        → (if b then l ∷ items_of p (xs ++ ys) else items_of p (xs ++ ys)) ≡ (if b then l ∷ items_of p xs else items_of p xs) ++ items_of p ys
    by true more = ap (λ (ls : List Logged). l ∷ ls) more
    by false more = more

counts-front : (n : ℕ) (xs ys : List Logged) → CountsFrom n (xs ++ ys) → CountsFrom n xs
counts-front n [] ys c = tt
counts-front n (l ∷ xs) ys c = (c.0, counts-front (n + 1) xs ys c.1)

-- a beginning of a legal list of passes is legal
pub is_legal-front : (m : Meaning) (limits : Limits) (log more : List Logged) → IsLegal m limits (log ++ more) → IsLegal m limits log
is_legal-front m limits log more h = record {
  guards = legal-front m limits (items log) (items more) (subst (legal m limits) (items-append log more) h.guards);
  counts = λ p. counts-front 0 (items_of p log) (items_of p more) (subst (CountsFrom 0) (items_of-append p log more) (h.counts p));
}

-- ---- a number names one object

front-take : (xs ys : List Item) → (i : ℕ) × (take i (xs ++ ys) ≡ xs)
front-take [] ys = (0, refl)
front-take (x ∷ xs) ys = let (i, is) = front-take xs ys in (suc i, ap (λ (is : List Item). x ∷ is) is)

upto-take : (n r : ℕ) (log : List Item) → (i : ℕ) × (take i log ≡ upto n r log)
upto-take n r [] = (0, refl)
upto-take n r (note x ∷ log) = let (i, is) = upto-take n r log in (suc i, ap (λ (is : List Item). note x ∷ is) is)
upto-take n r (entry e ∷ log) = by (nat_lt r n) (upto-take (n + 1) r log)
  where
    by : (b : Bool) → (i : ℕ) × (take i log ≡ upto (n + 1) r log) → (i : ℕ) × (take i (entry e ∷ log) ≡ (if b then [] else entry e ∷ upto (n + 1) r log))
    by true more = (0, refl)
    by false (i, is) = (suc i, ap (λ (is : List Item). entry e ∷ is) is)

-- in what stood at two numbers
pub snaps-one_value : (m : Meaning) (log : List Item) (r q : ℕ) (e f : Stored) → find e.key (snap m log r) ≡ Some e → find f.key (snap m log q) ≡ Some f → e.number ≡ f.number → e ≡ f
snaps-one_value m log r q e f a b is =
    let (i, first) = upto-take 2 r log in
    let (j, second) = upto-take 2 q log in
    one-value m log i j e f
    (ap (λ (l : List Item). find e.key (state m l).objects) first ∙ a)
    (ap (λ (l : List Item). find f.key (state m l).objects) second ∙ b) is

-- in what stood at a number, and in a state that was seen before or is seen now
pub snap-one_value : (m : Meaning) (log more : List Item) (r : ℕ) (e f : Stored) → find e.key (snap m (log ++ more) r) ≡ Some e → find f.key (state m log).objects ≡ Some f → e.number ≡ f.number
    → e ≡ f
snap-one_value m log more r e f a b is =
    let (i, first) = upto-take 2 r (log ++ more) in
    let (j, second) = front-take log more in
    one-value m (log ++ more) i j e f
    (ap (λ (l : List Item). find e.key (state m l).objects) first ∙ a)
    (ap (λ (l : List Item). find f.key (state m l).objects) second ∙ b) is

-- in two states of one history
pub states-one_value : (m : Meaning) (log more : List Item) (e f : Stored) → find e.key (state m log).objects ≡ Some e → find f.key (state m (log ++ more)).objects ≡ Some f → e.number ≡ f.number
    → e ≡ f
states-one_value m log more e f a b is =
    let (i, first) = front-take log more in
    let (j, second) = front-take (log ++ more) [] in
    one-value m (log ++ more) i j e f
    (ap (λ (l : List Item). find e.key (state m l).objects) first ∙ a)
    (ap (λ (l : List Item). find f.key (state m l).objects) (ap (take j) (sym (append-nil (log ++ more))) ∙ second) ∙ b) is

-- in any two lists that stood at numbers, also where one is a page's
pub one_value-in : (m : Meaning) (log : List Item) (r q : ℕ) (e f : Stored) → In e (snap m log r) → In f (snap m log q) → e.number ≡ f.number → e ≡ f
one_value-in m log r q e f a b is =
    let (i, first) = upto-take 2 r log in
    let (j, second) = upto-take 2 q log in
    one-from 2 (opening m) log i j e f (numbered-opening m)
    (subst (λ (l : List Item). In e (state m l).objects) (sym first) a)
    (subst (λ (l : List Item). In f (state m l).objects) (sym second) b) is

in-filter : {X : Type 0} (p : X → Bool) (x : X) (xs : List X) → In x (filter p xs) → In x xs
in-filter p x [] h = h
in-filter p x (y ∷ ys) h = by (p y) h (in-filter p x ys)
  where
    by : (b : Bool) → In x (cond b (y ∷ filter p ys) (filter p ys)) → (In x (filter p ys) → In x ys) → (x ≡ y) ⊎ In x ys
    by true (inl same) more = inl same
    by true (inr later) more = inr (more later)
    by false h more = inr (more h)

in-take : {X : Type 0} (n : ℕ) (x : X) (xs : List X) → In x (take n xs) → In x xs
in-take zero x xs h = absurd h
in-take (suc n) x [] h = h
in-take (suc n) x (y ∷ ys) (inl same) = inl same
in-take (suc n) x (y ∷ ys) (inr later) = inr (in-take n x ys later)

-- what a page shows stood at its number
pub page-in : (m : Meaning) (log : List Item) (ns : Option (List ℕ)) (after : Option KeyView) (r limit : ℕ) (e : Stored) → In e (page_at m log ns after r limit).items → In e (snap m log r)
page-in m log ns after r limit e h =
    in-filter (λ (x : Stored). in_namespace ns x.key && not (passed (bound_after after) x.key)) e (snap m log r) (by (nat_eq limit 0) h)
  where
    found : List Stored
    found = filter (λ (x : Stored). in_namespace ns x.key && not (passed (bound_after after) x.key)) (snap m log r)

    page : Bool → Page Stored
    page b = if b then record { number = r; items = found; remaining = 0 } else record { number = r; items = take limit found; remaining = length found - limit }

    by : (b : Bool) → In e (page b).items → In e found
    by true h = h
    by false h = in-take limit e found h
