-- What holds of each field of an object.
use Rattle.std.proofs.Common.{◌≡◌, ℕ, suc, ◌+◌, ◌≤◌, List, [], ◌∷◌, Bool, true, false, cond, Some, Less, nat_cmp, refl, ap, sym, subst, ◌∙◌, arith}
use Rattle.std.specs.Cmp.Lexicographic.{slice_cmp}
use Rattle.std.proofs.lemmas.Cmp.{nat_list_cmp_total}
use Rattle.kj_value.specs.Json.{Json, depth, members_depth, members_of}
use Rattle.kj_value.specs.Fields.{Pairs, field}
use Rattle.kj_value.specs.Sound.{IsSoundJson, ComesFirst, AreRising}
use Rattle.struct_schema.specs.Names.{is_name}
use Rattle.struct_schema.specs.laws.NameLaws.{one_name, own_name, other_name}
use Rattle.hub_cells.specs.Level.{Name}
use Rattle.hub_cells.specs.Fit.{has_name}
use Rattle.keep_laws.specs.Entry.{all_named}
use Rattle.keep_laws.specs.Known.{IsBelow, IsRising}
use Rattle.keep_laws.proofs.Tests.{both_true, and_true, none_some, some_is}

abbrev pub Each : (Name → Json → Type 0) → Pairs → Type 0
Each P [] = Unit {0}
Each P (p ∷ ps) = P p.0 p.1 × Each P ps

pub at_field : (P : Name → Json → Type 0) (x : Pairs) (k : Name) (j : Json) → Each P x → field k x ≡ Some j → P k j
at_field P [] k j h e = absurd (none_some j e)
at_field P (p ∷ ps) k j h e = by_test (is_name k p.0) refl e (λ q. at_field P ps k j h.1 q)
  where
    by_test : (t : Bool) → is_name k p.0 ≡ t → cond t (Some p.1) (field k ps) ≡ Some j → (field k ps ≡ Some j → P k j) → P k j
    by_test true q f later = subst (λ (l : Name). P l j) (sym (one_name k p.0 q)) (subst (λ (i : Json). P p.0 i) (some_is p.1 j f) h.0)
    by_test false q f later = later f

found_below : (k : Name) (x : Pairs) (l : Name) (j : Json) → IsBelow k x → field l x ≡ Some j → slice_cmp nat_cmp k l ≡ Less
found_below k [] l j b e = absurd (none_some j e)
found_below k (p ∷ ps) l j b e = by_test (is_name l p.0) refl e (λ q. found_below k ps l j b.1 q)
  where
    by_test : (t : Bool) → is_name l p.0 ≡ t → cond t (Some p.1) (field l ps) ≡ Some j → (field l ps ≡ Some j → slice_cmp nat_cmp k l ≡ Less) → slice_cmp nat_cmp k l ≡ Less
    by_test true q f later = subst (λ (m : Name). slice_cmp nat_cmp k m ≡ Less) (sym (one_name l p.0 q)) b.0
    by_test false q f later = later f

pub each_field : (P : Name → Json → Type 0) (x : Pairs) → IsRising x → ((k : Name) (j : Json) → field k x ≡ Some j → P k j) → Each P x
each_field P [] r h = tt
each_field P (p ∷ ps) r h = (
  h p.0 p.1 (ap (λ (t : Bool). cond t (Some p.1) (field p.0 ps)) (own_name p.0)),
  each_field P ps r.1 (λ k j e. h k j (ap (λ (t : Bool). cond t (Some p.1) (field k ps)) (other_name p.0 k (found_below p.0 ps k j r.0 e)) ∙ e)),
)

-- ---- names that rise, and values that are sound

below_all : (k n : Name) (ps : Pairs) → slice_cmp nat_cmp k n ≡ Less → IsBelow n ps → IsBelow k ps
below_all k n [] l b = tt
below_all k n (p ∷ ps) l b = (nat_list_cmp_total.trans k n p.0 l b.0, below_all k n ps l b.1)

below_first : (k : Name) (x : Pairs) → ComesFirst k (members_of x) → IsRising x → IsBelow k x
below_first k [] c r = tt
below_first k (p ∷ ps) c r = (c, below_all k p.0 ps c r.0)

pub rising_fields : (x : Pairs) → AreRising (members_of x) → IsRising x
rising_fields [] h = tt
rising_fields (p ∷ ps) h = (below_first p.0 ps h.0 (rising_fields ps h.2), rising_fields ps h.2)

pub sound_each : (x : Pairs) → AreRising (members_of x) → Each (λ k j. IsSoundJson j) x
sound_each [] h = tt
sound_each (p ∷ ps) h = (h.1, sound_each ps h.2)

-- ---- the names of a list, and depths

pub each_named : (ns : List Name) (x : Pairs) → Each (λ k j. has_name k ns ≡ true) x → all_named ns x ≡ true
each_named ns [] h = refl
each_named ns (p ∷ ps) h = and_true (has_name p.0 ns) (all_named ns ps) h.0 (each_named ns ps h.1)

pub named_each : (ns : List Name) (x : Pairs) → all_named ns x ≡ true → Each (λ k j. has_name k ns ≡ true) x
named_each ns [] h = tt
named_each ns (p ∷ ps) h =
    let q = both_true (has_name p.0 ns) (all_named ns ps) h in
    (q.0, named_each ns ps q.1)

pub depth_each : (n m : ℕ) (x : Pairs) → n + suc (members_depth (members_of x)) ≤ m → Each (λ k j. n + suc (depth j) ≤ m) x
depth_each n m [] h = tt
depth_each n m (p ∷ ps) h = (omega arith, depth_each n m ps (omega arith))

pub each_depth : (n m : ℕ) (x : Pairs) → Each (λ k j. n + suc (depth j) ≤ m) x → n + 1 ≤ m → n + suc (members_depth (members_of x)) ≤ m
each_depth n m [] h r = omega arith
each_depth n m (p ∷ ps) h r =
    let here : n + suc (depth p.1) ≤ m = h.0 in
    let rest : n + suc (members_depth (members_of ps)) ≤ m = each_depth n m ps h.1 r in
    omega arith
