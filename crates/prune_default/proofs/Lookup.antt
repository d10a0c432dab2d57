-- What stands at a name in an object.
use Rattle.std.proofs.Common.{◌≡◌, ℕ, List, [], ◌∷◌, ◌++◌, Bool, true, false, cond, Option, Some, Ordering, Less, Equal, Greater, nat_cmp, refl, ap, sym, subst, ◌∙◌}
use Rattle.std.specs.Ordering.{is_eq, match_ordering}
use Rattle.std.specs.Cmp.Lexicographic.{slice_cmp}
use Rattle.kj_value.specs.Json.{Json, Members, no_members, member, members_of}
use Rattle.kj_value.specs.Fields.{Pairs, with_field}
use Rattle.kj_value.specs.Sound.{IsSoundJson, AreRising}
use Rattle.struct_schema.specs.Names.{is_name, value_at}
use Rattle.struct_schema.specs.laws.NameLaws.{one_name, own_name}

-- ---- with a value at a name

-- the tests of two names, of which one alone may hold
swapped : (a b : Bool) (v x y : Option Json) → (a ≡ true → b ≡ true → ⊥) → cond a v (cond b x y) ≡ cond b x (cond a v y)
swapped true true v x y h = absurd (h refl refl)
swapped true false v x y h = refl
swapped false true v x y h = refl
swapped false false v x y h = refl

covered : (a b : Bool) (v x y : Option Json) → a ≡ b → cond b v y ≡ cond a v (cond b x y)
covered true true v x y h = refl
covered true false v x y h = absurd (cc)
covered false true v x y h = absurd (cc)
covered false false v x y h = refl

not_both : (n k l : List ℕ) → slice_cmp nat_cmp k l ≡ Greater → is_name n l ≡ true → is_name n k ≡ true → ⊥
not_both n k l g h p =
    let same : k ≡ l = sym (one_name n k p) ∙ one_name n l h in
    let named : is_name k l ≡ true = subst (λ (m : List ℕ). is_name k m ≡ true) same (own_name k) in
    let other : is_name k l ≡ false = ap is_eq g in
    cc

pub value_at-with : (n k : List ℕ) (v : Json) (es : Pairs) → value_at n (members_of (with_field k v es)) ≡ cond (is_name n k) (Some v) (value_at n (members_of es))
value_at-with n k v [] = refl
value_at-with n k v (e ∷ es) = by_order (slice_cmp nat_cmp k e.0) refl (value_at-with n k v es)
  where
    by_order : (o : Ordering) → slice_cmp nat_cmp k e.0 ≡ o → value_at n (members_of (with_field k v es)) ≡ cond (is_name n k) (Some v) (value_at n (members_of es))
        → value_at n (members_of (match_ordering o ((k, v) ∷ e ∷ es) ((e.0, v) ∷ es) (e ∷ with_field k v es))) ≡ cond (is_name n k) (Some v) (cond (is_name n e.0) (Some e.1) (value_at n (members_of es)))
    by_order Less q later = refl
    by_order Equal q later =
        covered (is_name n k) (is_name n e.0) (Some v) (Some e.1) (value_at n (members_of es)) (ap (is_name n) (one_name k e.0 (ap is_eq q)))
    by_order Greater q later =
        ap (cond (is_name n e.0) (Some e.1)) later ∙ swapped (is_name n e.0) (is_name n k) (Some e.1) (Some v) (value_at n (members_of es)) (λ a b. not_both n k e.0 q a b)

-- ---- names that rise

-- the end of an object whose names rise
pub rising_end : (done rest : Pairs) → AreRising (members_of (done ++ rest)) → AreRising (members_of rest)
rising_end [] rest h = h
rising_end (e ∷ done) rest h = rising_end done rest h.2

pub sound_at : (n : List ℕ) (ms : Members) (v : Json) → AreRising ms → value_at n ms ≡ Some v → IsSoundJson v
sound_at n no_members v h e = absurd (cc)
sound_at n (member l j ms) v h e = by_test (is_name n l) e (λ q. sound_at n ms v h.2 q)
  where
    by_test : (b : Bool) → cond b (Some j) (value_at n ms) ≡ Some v → (value_at n ms ≡ Some v → IsSoundJson v) → IsSoundJson v
    by_test true f later =
        let same : j ≡ v = cc in
        subst IsSoundJson same h.1
    by_test false f later = later f
