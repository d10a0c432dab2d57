-- What stands behind a key in a rising list.
use Rattle.std.proofs.Common.{◌≡◌, ◌∙◌, refl, sym, ap, subst, ℕ, ◌+◌, Bool, true, false, not, List, [], ◌∷◌, ◌++◌, Option, None, Some, nat_lt, arith}
use Rattle.std.specs.Prelude.{◌&&◌, filter, cond, if◌then◌else◌}
use Rattle.std.specs.Ordering.{is_gt}
use Rattle.std.specs.declared.cmp.Ordering.{Ordering}
use Rattle.std.specs.declared.cmp.Ordering.TheVariants.{Less, Equal, Greater}
use Rattle.std.proofs.lemmas.Bool.{and_parts, and_right, cond-true, cond-false, not-true}
use Rattle.kube_meta.specs.Key.{KeyView, key_cmp}
use Rattle.kube_meta.specs.Page.{bound_after, in_namespace, listed, page_of}
use Rattle.kube_meta.specs.Plan.{After, passed}
use Rattle.kube_meta.specs.declared.limits.Limits.{Limits}
use Rattle.api_calls.specs.laws.GrowthLaws.{legal-front}
use Rattle.api_calls.specs.Item.{Item, entry, note}
use Rattle.api_calls.specs.LegalLists.{IsRising}
use Rattle.api_calls.specs.Legal.{Each, legal}
use Rattle.api_calls.specs.Meaning.{Meaning}
use Rattle.api_calls.specs.Objects.{Stored, object_key}
use Rattle.api_calls.specs.Snap.{snap, upto}
use Rattle.api_calls.specs.Snap as at_number
use Rattle.api_calls.proofs.Order.{chain, flipped, itself, turned}
use Rattle.api_calls.proofs.Sound.{sound-all}

-- an object is of the namespace and behind the key
abbrev chosen : Option (List ℕ) → Option KeyView → Stored → Bool
chosen ns after x = in_namespace ns x.key && not (passed (bound_after after) x.key)

greater : (o : Ordering) → is_gt o ≡ true → o ≡ Greater
greater Less is = cc
greater Equal is = cc
greater Greater is = refl

-- an object before the key, or under it, isn't behind it
before : (ns : Option (List ℕ)) (k : KeyView) (x : Stored) → key_cmp x.key k ≡ Less → chosen ns (Some k) x ≡ false
before ns k x less = and_right (in_namespace ns x.key) _ (ap (λ (o : Ordering). not (not (is_gt o))) less)

under : (ns : Option (List ℕ)) (e : Stored) → chosen ns (Some e.key) e ≡ false
under ns e = and_right (in_namespace ns e.key) _ (ap (λ (o : Ordering). not (not (is_gt o))) (itself e.key))

-- what is behind a key is behind whatever that is behind
passed_over : (ns : Option (List ℕ)) (after : Option KeyView) (e y : Stored) → key_cmp e.key y.key ≡ Less → chosen ns after e ≡ true
    → passed (bound_after after) y.key ≡ false
passed_over ns None e y less is = refl
passed_over ns (Some a) e y less is =
    let open_ : not (not (is_gt (key_cmp e.key a))) ≡ true = (and_parts (in_namespace ns e.key) _ is).1 in
    let more : is_gt (key_cmp e.key a) ≡ true = elim (is_gt (key_cmp e.key a)) as (λ b. not (not b) ≡ true → b ≡ true) [ true ↦ λ p. refl | false ↦ λ p. p ] open_ in
    let first = turned e.key a (greater (key_cmp e.key a) more) in
    ap not (flipped a y.key (chain a e.key y.key first less))

same_choice : (ns : Option (List ℕ)) (after : Option KeyView) (e y : Stored) → key_cmp e.key y.key ≡ Less → chosen ns after e ≡ true
    → chosen ns (Some e.key) y ≡ chosen ns after y
same_choice ns after e y less is =
    ap (λ (b : Bool). in_namespace ns y.key && not b) (ap not (flipped e.key y.key less) ∙ sym (passed_over ns after e y less is))

-- objects behind e are chosen by both
tail_same : (ns : Option (List ℕ)) (after : Option KeyView) (e : Stored) (ys : List Stored) → Each (λ y. key_cmp e.key y.key ≡ Less) ys → chosen ns after e ≡ true
    → filter (chosen ns (Some e.key)) ys ≡ filter (chosen ns after) ys
tail_same ns after e [] less is = refl
tail_same ns after e (y ∷ ys) less is =
    let more = tail_same ns after e ys less.1 is in
    ap (λ (b : Bool). cond b (y ∷ filter (chosen ns (Some e.key)) ys) (filter (chosen ns (Some e.key)) ys)) (same_choice ns after e y less.0 is)
    ∙ ap (λ (zs : List Stored). cond (chosen ns after y) (y ∷ zs) zs) more

each_chosen : (P : Stored → Type 0) (test : Stored → Bool) (xs : List Stored) → Each P xs → Each P (filter test xs)
each_chosen P test [] all = tt
each_chosen P test (x ∷ xs) all = by (test x) (each_chosen P test xs all.1)
  where
    by : (b : Bool) → Each P (filter test xs) → Each P (cond b (x ∷ filter test xs) (filter test xs))
    by true more = (all.0, more)
    by false more = more

each_middle : (P : Stored → Type 0) (front rest : List Stored) (e : Stored) → Each P (front ++ e ∷ rest) → P e
each_middle P [] rest e all = all.0
each_middle P (f ∷ fs) rest e all = each_middle P fs rest e all.1

one_of : (P : Stored → Type 0) (test : Stored → Bool) (xs front rest : List Stored) (e : Stored) → Each P xs → filter test xs ≡ front ++ e ∷ rest → P e
one_of P test xs front rest e all is = each_middle P front rest e (subst (λ (zs : List Stored). Each P zs) is (each_chosen P test xs all))

none_left : (front rest : List Stored) (e : Stored) → [] ≡ front ++ e ∷ rest → ⊥
none_left [] rest e is = cc
none_left (f ∷ fs) rest e is = cc

pub left : (ns : Option (List ℕ)) (after : Option KeyView) (es front rest : List Stored) (e : Stored) → IsRising es
    → listed object_key ns after es ≡ front ++ e ∷ rest → listed object_key ns (Some e.key) es ≡ rest
left ns after [] front rest e rising is = absurd (none_left front rest e is)
left ns after (x ∷ xs) front rest e rising is =
    by (chosen ns after x) refl front is (λ fs left_is. left ns after xs fs rest e rising.1 left_is)
  where
    -- x stands before e
    skipped : (fs : List Stored) → filter (chosen ns after) xs ≡ fs ++ e ∷ rest → filter (chosen ns (Some e.key)) xs ≡ rest → filter (chosen ns (Some e.key)) (x ∷ xs) ≡ rest
    skipped fs there more =
        let less = one_of (λ f. key_cmp x.key f.key ≡ Less) (chosen ns after) xs fs rest e rising.0 there in
        cond-false (chosen ns (Some e.key) x) _ _ (before ns e.key x less) ∙ more

    -- x is e
    here : x ≡ e → filter (chosen ns after) xs ≡ rest → chosen ns after x ≡ true → filter (chosen ns (Some e.key)) (x ∷ xs) ≡ rest
    here same there is =
        let tail = tail_same ns after x xs rising.0 is in
        subst (λ (q : Stored). filter (chosen ns (Some q.key)) (x ∷ xs) ≡ rest) same (cond-false (chosen ns (Some x.key) x) _ _ (under ns x) ∙ tail ∙ there)

    by : (b : Bool) → chosen ns after x ≡ b → (front : List Stored) → cond b (x ∷ filter (chosen ns after) xs) (filter (chosen ns after) xs) ≡ front ++ e ∷ rest
        → ((fs : List Stored) → filter (chosen ns after) xs ≡ fs ++ e ∷ rest → filter (chosen ns (Some e.key)) xs ≡ rest)
        → filter (chosen ns (Some e.key)) (x ∷ xs) ≡ rest
    by false b_is front is more = skipped front is (more front is)
    by true b_is [] is more = let same : x ≡ e = cc in let there : filter (chosen ns after) xs ≡ rest = cc in here same there b_is
    by true b_is (f ∷ fs) is more = let there : filter (chosen ns after) xs ≡ fs ++ e ∷ rest = cc in skipped fs there (more fs there)

-- ---- the objects at a number

pub front_from : (n r : ℕ) (log : List Item) → (more : List Item) × (log ≡ upto n r log ++ more)
front_from n r [] = ([], refl)
front_from n r (note x ∷ log) = let rest = front_from n r log in (rest.0, ap (λ (is : List Item). note x ∷ is) rest.1)
front_from n r (entry e ∷ log) = by (nat_lt r n) (front_from (n + 1) r log)
  where
    by : (b : Bool) → (more : List Item) × (log ≡ upto (n + 1) r log ++ more)
        → (more : List Item) × (entry e ∷ log ≡ (if b then [] else entry e ∷ upto (n + 1) r log) ++ more)
    by true rest = (entry e ∷ log, refl)
    by false rest = (rest.0, ap (λ (is : List Item). entry e ∷ is) rest.1)

pub front_of : (m : Meaning) (limits : Limits) (log : List Item) (r : ℕ) → legal m limits log
    → (more : List Item) × (log ≡ upto 2 r log ++ more) × legal m limits (upto 2 r log)
front_of m limits log r l =
    let front = front_from 2 r log in
    (front.0, front.1, legal-front m limits (upto 2 r log) front.0 (subst (λ (is : List Item). legal m limits is) front.1 l))

pub rises : (m : Meaning) (limits : Limits) (log : List Item) (r : ℕ) → legal m limits log → IsRising (snap m log r)
rises m limits log r l = (sound-all m limits (upto 2 r log) (front_of m limits log r l).2).rising

pub behind : (m : Meaning) (limits : Limits) (log : List Item) (ns : Option (List ℕ)) (after : Option KeyView) (r limit : ℕ) (front rest : List Stored) (e : Stored)
    → legal m limits log → listed object_key ns after (snap m log r) ≡ front ++ e ∷ rest → at_number.page_at m log ns (Some e.key) r limit ≡ page_of r limit rest
behind m limits log ns after r limit front rest e l is =
    ap (λ (xs : List Stored). page_of r limit xs) (left ns after (snap m log r) front rest e (rises m limits log r l) is)
