-- An `object` rule by the places of its names, and how deep what stands at a place is.
use Rattle.std.proofs.Common.{◌≡◌, ◌<◌, ◌≤◌, ◌+◌, ℕ, zero, suc, List, [], ◌∷◌, ◌++◌, Result, Ok, Err, Option, Some, None, Ordering, Less, Equal, Greater, nat_cmp, max, refl, ap, sym, subst, ◌∙◌, arith}
use Rattle.std.specs.Ordering.{match_ordering}
use Rattle.std.specs.Cmp.Lexicographic.{slice_cmp}
use Rattle.kj_value.specs.Json.{Json, null, boolean, whole, text, list, object, Members, no_members, member, depth, members_depth}
use Rattle.hub_cells.specs.Level.{Name}
use Rattle.hub_rules.specs.Rule.{Rule, within, rule_depth, inner_depth, rules_of}
use Rattle.rule_reading.specs.Words.{word}
use Rattle.struct_schema.specs.PathText.{Path, here, in_name}
use Rattle.rule_reading.specs.Tried.{under_name, both}
use Rattle.rule_reading.specs.Shapes.{field_at, at_name, named_value, read_in, field_read, beyond, ended, names_read}
use Rattle.rule_reading.specs.RuleRead.{one_field, rule_size, rules_size, plain_read, rule_by, rule_read, within_by, within_read, rules_read}
use Rattle.rule_reading.proofs.Plains.{first_stops, second_stops, beyond_stops}
use Rattle.std.specs.Str.{bytes_eq}
use Rattle.std.proofs.lemmas.Bool.Decides.{nat_tests}
use Rattle.std.specs.Prelude.{Bool, true, cond, nat_lt}
use Rattle.hub_rules.specs.declared.rules.TheConstants.{MAX_OBJECTS}
use Rattle.rule_reading.specs.declared.rules.TheConstants.{MAX_RULES}
use Rattle.rule_reading.specs.declared.words.Word.TheVariants as w

pub field_is : {A : Type 0} (x k : Name) (j : Json) (f : Json → Result A Path) → read_in x f (at_name x k (Ok j)) ≡ at_name x k (under_name x (f j))
field_is {A = A} x k j f = by_order (slice_cmp nat_cmp k x)
  where
    by_order : (o : Ordering) → read_in x f (match_ordering o (Err (in_name k here)) (Ok j) (Err (in_name x here))) ≡ match_ordering o (Err (in_name k here)) (under_name x (f j)) (Err (in_name x here))
    by_order Less = refl
    by_order Equal = refl
    by_order Greater = refl

ended-none : {A : Type 0} (r : Result A Path) → ended None r ≡ r
ended-none {A = A} (Ok a) = refl
ended-none {A = A} (Err p) = refl

pub within_is : (d n : ℕ) (ms : Members)
    → within_read d n (object ms) ≡ ended (beyond (field_at 2 ms)) (within_by (both (field_read (word w.Names) names_read 0 ms) (field_read (word w.Rules) (rules_read d n) 1 ms)))
within_is d n no_members = refl
within_is d n (member k j no_members) =
    ap (λ (a : Result (Name × Name) Path). within_by (both a (Err (in_name (word w.Rules) here)))) (sym (field_is (word w.Names) k j names_read)) ∙ sym (ended-none _)
within_is d n (member k j (member l i ms)) =
    ap (λ (a : Result (Name × Name) Path). ended (beyond (field_at 0 ms)) (within_by (both a (at_name (word w.Rules) l (under_name (word w.Rules) (rules_read d n i)))))) (sym (field_is (word w.Names) k j names_read))
    ∙ ap (λ (a : Result (List Rule) Path). ended (beyond (field_at 0 ms)) (within_by (both (field_read (word w.Names) names_read 0 (member k j (member l i ms))) a))) (sym (field_is (word w.Rules) l i (rules_read d n)))

pub within_ok : (d n : ℕ) (ms : Members) (a : Name × Name) (j : Json) (rs : List Rule) → Ok a ≡ field_read (word w.Names) names_read 0 ms → Ok j ≡ named_value (word w.Rules) (field_at 1 ms) → Ok rs ≡ rules_read d n j → None ≡ beyond (field_at 2 ms)
    → Ok (within a.0 a.1 (rules_of rs)) ≡ within_read d n (object ms)
within_ok d n ms a j rs e1 e2 e3 e4 =
    let T : Result Rule Path = Ok (within a.0 a.1 (rules_of rs)) in
    let s3 = subst (λ (r : Result (List Rule) Path). T ≡ ended None (within_by (both (Ok a) (under_name (word w.Rules) r)))) e3 refl in
    let s2 = subst (λ (v : Result Json Path). T ≡ ended None (within_by (both (Ok a) (read_in (word w.Rules) (rules_read d n) v)))) e2 s3 in
    let s1 = subst (λ (x : Result (Name × Name) Path). T ≡ ended None (within_by (both x (field_read (word w.Rules) (rules_read d n) 1 ms)))) e1 s2 in
    let s0 = subst (λ (o : Option Path). T ≡ ended o (within_by (both (field_read (word w.Names) names_read 0 ms) (field_read (word w.Rules) (rules_read d n) 1 ms)))) e4 s1 in
    s0 ∙ sym (within_is d n ms)

-- where something of it is refused

pub within_first : (d n : ℕ) (ms : Members) {p : Path} → Err p ≡ field_read (word w.Names) names_read 0 ms → Err p ≡ within_read d n (object ms)
within_first d n ms e1 =
    first_stops (λ p. within p.0.0 p.0.1 (rules_of p.1)) (beyond (field_at 2 ms)) (field_read (word w.Names) names_read 0 ms) (field_read (word w.Rules) (rules_read d n) 1 ms) e1 ∙ sym (within_is d n ms)

pub within_second : (d n : ℕ) (ms : Members) {a : Name × Name} {p : Path} → Ok a ≡ field_read (word w.Names) names_read 0 ms → Err p ≡ named_value (word w.Rules) (field_at 1 ms) → Err p ≡ within_read d n (object ms)
within_second d n ms e1 e2 =
    second_stops (λ p. within p.0.0 p.0.1 (rules_of p.1)) (beyond (field_at 2 ms)) (field_read (word w.Names) names_read 0 ms) (field_read (word w.Rules) (rules_read d n) 1 ms) e1 (ap (read_in (word w.Rules) (rules_read d n)) e2)
    ∙ sym (within_is d n ms)

pub within_beyond : (d n : ℕ) (ms : Members) {a : Name × Name} {j : Json} {rs : List Rule} {p : Path} → Ok a ≡ field_read (word w.Names) names_read 0 ms → Ok j ≡ named_value (word w.Rules) (field_at 1 ms)
    → Ok rs ≡ rules_read d n j → Some p ≡ beyond (field_at 2 ms) → Err p ≡ within_read d n (object ms)
within_beyond d n ms e1 e2 e3 e4 =
    beyond_stops (λ p. within p.0.0 p.0.1 (rules_of p.1)) (beyond (field_at 2 ms)) (field_read (word w.Names) names_read 0 ms) (field_read (word w.Rules) (rules_read d n) 1 ms) e1
    (ap (under_name (word w.Rules)) e3 ∙ ap (read_in (word w.Rules) (rules_read d n)) e2) e4
    ∙ sym (within_is d n ms)

-- a rule by its one name
pub rule_is : (d n : ℕ) (j : Json) (f : Name × Json) → one_field j ≡ Some f → rule_read d n j ≡ rule_by d n f.0 f.1 (within_read (d + 1) (n + 1) f.1)
rule_is d n null f e = absurd (cc)
rule_is d n (boolean b) f e = absurd (cc)
rule_is d n (whole z) f e = absurd (cc)
rule_is d n (text t) f e = absurd (cc)
rule_is d n (list js) f e = absurd (cc)
rule_is d n (object no_members) f e = absurd (cc)
rule_is d n (object (member k j no_members)) f e =
    let same : (k, j) ≡ f = cc in
    ap (λ (g : Name × Json). rule_by d n g.0 g.1 (within_read (d + 1) (n + 1) g.1)) same
rule_is d n (object (member k j (member l i ms))) f e = absurd (cc)

pub rule_is_none : (d n : ℕ) (j : Json) → one_field j ≡ None → rule_read d n j ≡ Err here
rule_is_none d n null e = refl
rule_is_none d n (boolean b) e = refl
rule_is_none d n (whole z) e = refl
rule_is_none d n (text t) e = refl
rule_is_none d n (list js) e = refl
rule_is_none d n (object no_members) e = refl
rule_is_none d n (object (member k j no_members)) e = absurd (cc)
rule_is_none d n (object (member k j (member l i ms))) e = refl

pub one_depth : (j : Json) (f : Name × Json) → one_field j ≡ Some f → depth f.1 < depth j
one_depth null f e = absurd (cc)
one_depth (boolean b) f e = absurd (cc)
one_depth (whole z) f e = absurd (cc)
one_depth (text t) f e = absurd (cc)
one_depth (list js) f e = absurd (cc)
one_depth (object no_members) f e = absurd (cc)
one_depth (object (member k j no_members)) f e =
    let same : (k, j) ≡ f = cc in
    let deep : depth j ≡ depth f.1 = ap (λ (g : Name × Json). depth g.1) same in
    omega (arith, deep)
one_depth (object (member k j (member l i ms))) f e = absurd (cc)

at_name_depth : (x k : Name) (i j : Json) → at_name x k (Ok i) ≡ Ok j → i ≡ j
at_name_depth x k i j e = by_order (slice_cmp nat_cmp k x) e
  where
    by_order : (o : Ordering) → match_ordering o (Err (in_name k here)) (Ok i) (Err (in_name x here)) ≡ Ok j → i ≡ j
    by_order Less q = absurd (cc)
    by_order Equal q = cc
    by_order Greater q = absurd (cc)

pub value_depth : (x : Name) (i : ℕ) (ms : Members) (j : Json) → named_value x (field_at i ms) ≡ Ok j → depth j ≤ members_depth ms
value_depth x i no_members j e = absurd (cc)
value_depth x zero (member k v ms) j e =
    let deep : depth v ≡ depth j = ap depth (at_name_depth x k v j e) in
    omega (arith, deep)
value_depth x (suc i) (member k v ms) j e = omega (arith, value_depth x i ms j e)

-- ---- rules with one more at the end

pub depth_push : (rs : List Rule) (r : Rule) → inner_depth (rules_of (rs ++ r ∷ [])) ≤ max (inner_depth (rules_of rs)) (rule_depth r)
depth_push [] r = omega arith
depth_push (x ∷ rs) r = omega (arith, depth_push rs r)

pub size_push : (rs : List Rule) (r : Rule) → rules_size (rules_of (rs ++ r ∷ [])) ≡ rules_size (rules_of rs) + rule_size r
size_push [] r = omega arith
size_push (x ∷ rs) r = omega (arith, size_push rs r)

-- ---- an `object` rule that is neither one too many nor too deep

pub rule_by_ok : (d n : ℕ) (k : Name) (j : Json) (r : Rule) → n < MAX_RULES → bytes_eq k (word w.Object) ≡ true → d < MAX_OBJECTS → Ok r ≡ rule_by d n k j (Ok r)
rule_by_ok d n k j r few is_object shallow =
    let a : nat_lt n MAX_RULES ≡ true = grind (arith, nat_tests) in
    let b : nat_lt d MAX_OBJECTS ≡ true = grind (arith, nat_tests) in
    let s2 = subst (λ (x : Bool). Ok r ≡ cond x (under_name k (Ok r)) (Err here)) (sym b) refl in
    let s1 = subst (λ (x : Bool). Ok r ≡ cond x (cond (nat_lt d MAX_OBJECTS) (under_name k (Ok r)) (Err here)) (under_name k (plain_read k j))) (sym is_object) s2 in
    subst (λ (x : Bool). Ok r ≡ cond x (cond (bytes_eq k (word w.Object)) (cond (nat_lt d MAX_OBJECTS) (under_name k (Ok r)) (Err here)) (under_name k (plain_read k j))) (Err here)) (sym a) s1
