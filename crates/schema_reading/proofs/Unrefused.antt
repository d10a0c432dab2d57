-- No first refusal is the same as tries that pass, and not too many nodes.
use Rattle.std.proofs.Common.{◌≡◌, ℕ, suc, ◌+◌, ◌<◌, ◌≤◌, List, [], ◌∷◌, Bool, true, false, ◌&&◌, cond, Some, None, option_map, refl, arith}
use Rattle.std.specs.Prelude.{nat_lt}
use Rattle.std.specs.List.{list_all}
use Rattle.std.proofs.lemmas.Bool.Decides.{nat_tests}
use Rattle.struct_schema.specs.Path.{Step}
use Rattle.struct_schema.specs.Fault.{or_else}
use Rattle.schema_reading.specs.Words.{limit_word}
use Rattle.schema_reading.specs.Visit.{Tried, entered, keyword, Visit, counted, denied, refused_at, after, first}
use Rattle.schema_reading.specs.declared.walk.TheConstants.{MAX_NESTING, MAX_NODES}

abbrev pub is_fine : Tried → Bool
is_fine (entered d) = nat_lt d (suc MAX_NESTING)
is_fine (keyword k b) = b

abbrev pub fine : List Visit → Bool
fine vs = list_all (λ v. is_fine v.tried) vs

abbrev pub Fine : ℕ → List Visit → Type 0
Fine n vs = (fine vs ≡ true) × (after n vs ≤ MAX_NODES)

more : (n : ℕ) (t : Tried) → n ≤ counted n t
more n (entered d) = omega arith
more n (keyword k b) = omega arith

pub at_least : (n : ℕ) (vs : List Visit) → n ≤ after n vs
at_least n [] = omega arith
at_least n (v ∷ vs) = omega (arith, more n v.tried, at_least (counted n v.tried) vs)

below : (n m : ℕ) → nat_lt n m ≡ true → n < m
below n m h = grind (arith, nat_tests)

above : (n m : ℕ) → n < m → nat_lt n m ≡ true
above n m h = grind (arith, nat_tests)

one_fine : (n : ℕ) (p : List Step) (t : Tried) (vs : List Visit) → n ≤ MAX_NODES → ((m : ℕ) → m ≤ MAX_NODES → first m vs ≡ None → Fine m vs) → or_else (option_map (refused_at p) (denied n t)) (first (counted n t) vs) ≡ None
    → (is_fine t && list_all (λ v. is_fine v.tried) vs ≡ true) × (after (counted n t) vs ≤ MAX_NODES)
one_fine n p (entered d) vs h later e = by_test (nat_lt n MAX_NODES) (nat_lt d (suc MAX_NESTING)) (below n MAX_NODES) e
  where
    by_test : (b c : Bool) → (b ≡ true → n < MAX_NODES) → or_else (option_map (refused_at p) (cond (b && c) None (Some limit_word))) (first (n + 1) vs) ≡ None → (c && list_all (λ v. is_fine v.tried) vs ≡ true) × (after (n + 1) vs ≤ MAX_NODES)
    by_test true true q f = later (n + 1) (let r : n < MAX_NODES = q refl in omega arith) f
    by_test true false q f = absurd (cc)
    by_test false c q f = absurd (cc)
one_fine n p (keyword k b) vs h later e = by_test b e
  where
    by_test : (b : Bool) → or_else (option_map (refused_at p) (cond b None (Some k))) (first n vs) ≡ None → (b && list_all (λ v. is_fine v.tried) vs ≡ true) × (after n vs ≤ MAX_NODES)
    by_test true f = later n h f
    by_test false f = absurd (cc)

pub all_fine : (n : ℕ) (vs : List Visit) → n ≤ MAX_NODES → first n vs ≡ None → Fine n vs
all_fine n [] h e = (refl, h)
all_fine n (v ∷ vs) h e = one_fine n v.path v.tried vs h (λ m g f. all_fine m vs g f) e

one_none : (n : ℕ) (p : List Step) (t : Tried) (vs : List Visit) → ((m : ℕ) → Fine m vs → first m vs ≡ None) → is_fine t && list_all (λ v. is_fine v.tried) vs ≡ true → after (counted n t) vs ≤ MAX_NODES
    → or_else (option_map (refused_at p) (denied n t)) (first (counted n t) vs) ≡ None
one_none n p (entered d) vs later e h =
    by_test (nat_lt n MAX_NODES) (nat_lt d (suc MAX_NESTING)) (above n MAX_NODES (omega (arith, at_least (n + 1) vs, h))) e
  where
    by_test : (b c : Bool) → b ≡ true → c && list_all (λ v. is_fine v.tried) vs ≡ true → or_else (option_map (refused_at p) (cond (b && c) None (Some limit_word))) (first (n + 1) vs) ≡ None
    by_test true true q f = later (n + 1) (f, h)
    by_test true false q f = absurd (cc)
    by_test false c q f = absurd (cc)
one_none n p (keyword k b) vs later e h = by_test b e
  where
    by_test : (b : Bool) → b && list_all (λ v. is_fine v.tried) vs ≡ true → or_else (option_map (refused_at p) (cond b None (Some k))) (first n vs) ≡ None
    by_test true f = later n (f, h)
    by_test false f = absurd (cc)

pub all_none : (n : ℕ) (vs : List Visit) → Fine n vs → first n vs ≡ None
all_none n [] h = refl
all_none n (v ∷ vs) h = one_none n v.path v.tried vs (λ m g. all_none m vs g) h.0 h.1
