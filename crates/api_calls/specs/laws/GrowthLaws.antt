-- How a list goes on by one item: its number, its state, its guard, what was superseded, and its counts.
use Rattle.std.specs.Prelude.{◌≡◌, ℕ, ◌+◌, Bool, true, false, List, [], ◌∷◌, ◌++◌, length, nat_eq, if◌then◌else◌}
use Rattle.std.proofs.Common.{refl, ◌∙◌, ap, sym, subst, arith, append_assoc}
use Rattle.std.proofs.lemmas.Bool.Decides.{nat_tests}
use Rattle.kube_meta.specs.declared.limits.Limits.{Limits}
use Rattle.api_calls.specs.Meaning.{Meaning}
use Rattle.api_calls.specs.Item.{Item, entry, note, Logged, items, items_of}
use Rattle.api_calls.specs.State.{State, effect, number_after, number_from, next_number, entries, revision, opening, state_from, state}
use Rattle.api_calls.specs.Legal.{guard, legal_from, legal, CountsFrom, IsLegal}
use Rattle.api_calls.specs.Snap.{Past, item_past, superseded_from, superseded}

-- ---- numbers

number_from-more : (n : ℕ) (log : List Item) (i : Item) → number_from n (log ++ i ∷ []) ≡ number_after (number_from n log) i
number_from-more n [] i = refl
number_from-more n (j ∷ log) i = number_from-more (number_after n j) log i

pub next_number-more : (log : List Item) (i : Item) → next_number (log ++ i ∷ []) ≡ number_after (next_number log) i
next_number-more log i = number_from-more 2 log i

number_from-entries : (n : ℕ) (log : List Item) → number_from n log ≡ n + entries log
number_from-entries n [] = omega arith
number_from-entries n (entry e ∷ log) = let more = number_from-entries (n + 1) log in omega (arith, more)
number_from-entries n (note x ∷ log) = number_from-entries n log

-- the next entry's number is the revision and one more
pub next_number-revision : (log : List Item) → next_number log ≡ revision log + 1
next_number-revision log = let e = number_from-entries 2 log in omega (arith, e)

-- ---- states

state_from-more : (n : ℕ) (s : State) (log : List Item) (i : Item) → state_from n s (log ++ i ∷ []) ≡ effect (number_from n log) i (state_from n s log)
state_from-more n s [] i = refl
state_from-more n s (j ∷ log) i = state_from-more (number_after n j) (effect n j s) log i

pub state-more : (m : Meaning) (log : List Item) (i : Item) → state m (log ++ i ∷ []) ≡ effect (next_number log) i (state m log)
state-more m log i = state_from-more 2 (opening m) log i

-- ---- guards

legal_from-more : (m : Meaning) (limits : Limits) (n : ℕ) (s : State) (log : List Item) (i : Item) → legal_from m limits n s log → guard m limits (state_from n s log) i
    → legal_from m limits n s (log ++ i ∷ [])
legal_from-more m limits n s [] i l g = (g, tt)
legal_from-more m limits n s (j ∷ log) i l g = (l.0, legal_from-more m limits (number_after n j) (effect n j s) log i l.1 g)

pub legal-more : (m : Meaning) (limits : Limits) (log : List Item) (i : Item) → legal m limits log → guard m limits (state m log) i → legal m limits (log ++ i ∷ [])
legal-more m limits log i l g = legal_from-more m limits 2 (opening m) log i l g

legal_from-front : (m : Meaning) (limits : Limits) (n : ℕ) (s : State) (log more : List Item) → legal_from m limits n s (log ++ more) → legal_from m limits n s log
legal_from-front m limits n s [] more l = tt
legal_from-front m limits n s (i ∷ log) more l = (l.0, legal_from-front m limits (number_after n i) (effect n i s) log more l.1)

-- a beginning of a legal list is legal
pub legal-front : (m : Meaning) (limits : Limits) (log more : List Item) → legal m limits (log ++ more) → legal m limits log
legal-front m limits log more l = legal_from-front m limits 2 (opening m) log more l

-- ---- what was superseded

superseded_from-more : (n : ℕ) (s : State) (log : List Item) (i : Item)
    → superseded_from n s (log ++ i ∷ []) ≡ superseded_from n s log ++ item_past (number_from n log) i (state_from n s log)
superseded_from-more n s [] i = append-none (item_past n i s)
  where
    append-none : (ps : List Past) → ps ++ [] ≡ ps
    append-none [] = refl
    append-none (p ∷ ps) = ap (λ (qs : List Past). p ∷ qs) (append-none ps)
superseded_from-more n s (j ∷ log) i =
    ap (λ (ps : List Past). item_past n j s ++ ps) (superseded_from-more (number_after n j) (effect n j s) log i)
    ∙ sym (append_assoc (item_past n j s) (superseded_from (number_after n j) (effect n j s) log)
    (item_past (number_from (number_after n j) log) i (state_from (number_after n j) (effect n j s) log)))

pub superseded-more : (m : Meaning) (log : List Item) (i : Item) → superseded m (log ++ i ∷ []) ≡ superseded m log ++ item_past (next_number log) i (state m log)
superseded-more m log i = superseded_from-more 2 (opening m) log i

-- ---- counts

pub items-more : (log : List Logged) (l : Logged) → items (log ++ l ∷ []) ≡ items log ++ l.item ∷ []
items-more [] l = refl
items-more (k ∷ log) l = ap (λ (is : List Item). k.item ∷ is) (items-more log l)

-- the items of a pass that adds none stay, and those of the pass that adds one go on by it
pub items_of-other : (p : ℕ) (log : List Logged) (l : Logged) → nat_eq l.by p ≡ false → items_of p (log ++ l ∷ []) ≡ items_of p log
items_of-other p [] l is = rw is refl
items_of-other p (k ∷ log) l is = by (nat_eq k.by p) (items_of-other p log l is)
  where
    by : (b : Bool) → items_of p (log ++ l ∷ []) ≡ items_of p log
        → (if b then k ∷ items_of p (log ++ l ∷ []) else items_of p (log ++ l ∷ [])) ≡ (if b then k ∷ items_of p log else items_of p log)
    by true more = ap (λ (ls : List Logged). k ∷ ls) more
    by false more = more

pub items_of-same : (p : ℕ) (log : List Logged) (l : Logged) → nat_eq l.by p ≡ true → items_of p (log ++ l ∷ []) ≡ items_of p log ++ l ∷ []
items_of-same p [] l is = rw is refl
items_of-same p (k ∷ log) l is = by (nat_eq k.by p) (items_of-same p log l is)
  where
    by : (b : Bool) → items_of p (log ++ l ∷ []) ≡ items_of p log ++ l ∷ []
        → (if b then k ∷ items_of p (log ++ l ∷ []) else items_of p (log ++ l ∷ [])) ≡ (if b then k ∷ items_of p log else items_of p log) ++ l ∷ []
    by true more = ap (λ (ls : List Logged). k ∷ ls) more
    by false more = more

counts_from-more : (n : ℕ) (log : List Logged) (l : Logged) → CountsFrom n log → l.nth ≡ n + length log → CountsFrom n (log ++ l ∷ [])
counts_from-more n [] l c is = (omega (arith, is), tt)
counts_from-more n (k ∷ log) l c is = (c.0, counts_from-more (n + 1) log l c.1 (omega (arith, is)))

nat_eq-same : (m n : ℕ) → nat_eq m n ≡ true → m ≡ n
nat_eq-same m n h = grind (arith, nat_tests)

-- a legal list goes on by an item whose guard holds, with the count of its pass
pub is_legal-more : (m : Meaning) (limits : Limits) (log : List Logged) (l : Logged) → IsLegal m limits log → guard m limits (state m (items log)) l.item
    → l.nth ≡ length (items_of l.by log) → IsLegal m limits (log ++ l ∷ [])
is_legal-more m limits log l h g is = record {
  guards = subst (legal m limits) (sym (items-more log l)) (legal-more m limits (items log) l.item h.guards g);
  counts = λ p. by p (nat_eq l.by p) refl;
}
  where
    same : (p : ℕ) → nat_eq l.by p ≡ true → l.nth ≡ length (items_of p log)
    same p is_p = let e : l.by ≡ p = (nat_eq-same l.by p is_p) in is ∙ ap (λ (q : ℕ). length (items_of q log)) e

    by : (p : ℕ) (b : Bool) → nat_eq l.by p ≡ b → CountsFrom 0 (items_of p (log ++ l ∷ []))
    by p true is_p =
        let count = same p is_p in
        subst (CountsFrom 0) (sym (items_of-same p log l is_p)) (counts_from-more 0 (items_of p log) l (h.counts p) (omega (arith, count)))
    by p false is_p = subst (CountsFrom 0) (sym (items_of-other p log l is_p)) (h.counts p)
