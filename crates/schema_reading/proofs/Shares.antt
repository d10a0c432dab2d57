-- Each name stands in one part, or is one of the keywords that are tried by themselves.
use Rattle.std.proofs.Common.{◌≡◌, ℕ, List, [], ◌∷◌, Bool, true, false, ◌&&◌, cond, Option, Ordering, Less, Equal, Greater, nat_cmp, refl, ap, sym, subst, ◌∙◌}
use Rattle.std.specs.Prelude.{◌||◌}
use Rattle.std.specs.Ordering.{is_eq, is_lt, ordering_reverse}
use Rattle.std.specs.Cmp.Lexicographic.{slice_cmp}
use Rattle.std.specs.Str.{bytes_eq}
use Rattle.std.proofs.lemmas.Cmp.{nat_list_cmp_total}
use Rattle.std.proofs.lemmas.Slice.Eq.{bytes_eq-Decides}
use Rattle.std.proofs.lemmas.Map.Text.{is_eq-slice_cmp}
use Rattle.kj_value.specs.Json.{Json, Members, no_members, member}
use Rattle.struct_schema.specs.declared.kind.NodeKind.{NodeKind}
use Rattle.schema_reading.specs.Words.{word}
use Rattle.schema_reading.specs.Allowed.{is_allowed}
use Rattle.schema_reading.specs.Visit.{keyword}
use Rattle.schema_reading.specs.Visits.{in_part, part_visits}
use Rattle.schema_reading.specs.Accepted.{name_allowed, names_allowed, meta_names}
use Rattle.schema_reading.specs.declared.words.Keyword.TheVariants.{Additional, Items as ItemsWord, Kind as TypeWord}
use Rattle.schema_reading.specs.declared.words.Scope.{Scope}
use Rattle.schema_reading.specs.declared.words.Scope.TheVariants.{Node, Meta}
use Rattle.schema_reading.specs.declared.words.Part.{Part}
use Rattle.schema_reading.specs.declared.words.Part.TheVariants.{BeforeAdditional, BeforeItems, BeforeType, AfterType, AnyBeforeType}
use Rattle.schema_reading.proofs.Unrefused.{fine}
use Rattle.schema_reading.proofs.Bools.{assoc, second_first}

-- ---- the order of the three

additional_items : slice_cmp nat_cmp (word Additional) (word ItemsWord) ≡ Less
unfolding word
additional_items = refl

items_type : slice_cmp nat_cmp (word ItemsWord) (word TypeWord) ≡ Less
unfolding word
items_type = refl

turned : (k l : List ℕ) → slice_cmp nat_cmp l k ≡ ordering_reverse (slice_cmp nat_cmp k l)
turned k l = nat_list_cmp_total.antisymm l k

spelled : (k l : List ℕ) → bytes_eq k l ≡ is_eq (slice_cmp nat_cmp k l)
spelled k l = sym (is_eq-slice_cmp k l)

-- a name that isn't above the first of two is below the second
up_to : (k l m : List ℕ) → slice_cmp nat_cmp l m ≡ Less → (o : Ordering) → slice_cmp nat_cmp k l ≡ o → is_lt (ordering_reverse o) ≡ false → slice_cmp nat_cmp k m ≡ Less
up_to k l m p Less e h = nat_list_cmp_total.trans k l m e p
up_to k l m p Equal e h =
    let same : k ≡ l = (bytes_eq-Decides k l).0 (spelled k l ∙ ap is_eq e) in
    subst (λ (n : List ℕ). slice_cmp nat_cmp n m ≡ Less) (sym same) p
up_to k l m p Greater e h = absurd (cc)

-- ---- one name

part_fine : (p : Part) (s : Scope) (k : List ℕ) (j : Json) (ms : Members) (b : Bool) → in_part p k ≡ b → fine (part_visits p s (member k j ms)) ≡ cond b (is_allowed s k j && fine (part_visits p s ms)) (fine (part_visits p s ms))
part_fine p s k j ms b e = by_test (in_part p k) b e
  where
    by_test : (c b : Bool) → c ≡ b → fine (cond c (record { path = []; tried = keyword k (is_allowed s k j) } ∷ part_visits p s ms) (part_visits p s ms)) ≡ cond b (is_allowed s k j && fine (part_visits p s ms)) (fine (part_visits p s ms))
    by_test true true q = refl
    by_test false false q = refl
    by_test true false q = absurd (cc)
    by_test false true q = absurd (cc)

-- by how the name compares with each of the three
one_share : (a i t : Ordering) (x r1 r2 r3 r4 : Bool) → (is_lt (ordering_reverse a) ≡ false → i ≡ Less) → (is_lt (ordering_reverse i) ≡ false → t ≡ Less)
    → cond (is_lt a) (x && r1) r1 && (cond (is_lt (ordering_reverse a) && is_lt i) (x && r2) r2 && (cond (is_lt (ordering_reverse i) && is_lt t) (x && r3) r3 && cond (is_lt (ordering_reverse t)) (x && r4) r4)) ≡ (is_eq a || (is_eq i || (is_eq t || x))) && (r1 && (r2 && (r3 && r4)))
one_share Less Less Less x r1 r2 r3 r4 p q = assoc x r1 (r2 && (r3 && r4))
one_share Equal Less Less x r1 r2 r3 r4 p q = refl
one_share Greater Less Less x r1 r2 r3 r4 p q =
    ap (λ (b : Bool). r1 && b) (assoc x r2 (r3 && r4)) ∙ second_first r1 x (r2 && (r3 && r4))
one_share Greater Equal Less x r1 r2 r3 r4 p q = refl
one_share Greater Greater Less x r1 r2 r3 r4 p q =
    ap (λ (b : Bool). r1 && (r2 && b)) (assoc x r3 r4) ∙ ap (λ (b : Bool). r1 && b) (second_first r2 x (r3 && r4)) ∙ second_first r1 x (r2 && (r3 && r4))
one_share Greater Greater Equal x r1 r2 r3 r4 p q = refl
one_share Greater Greater Greater x r1 r2 r3 r4 p q =
    ap (λ (b : Bool). r1 && (r2 && b)) (second_first r3 x r4) ∙ ap (λ (b : Bool). r1 && b) (second_first r2 x (r3 && r4)) ∙ second_first r1 x (r2 && (r3 && r4))
one_share Less Equal t x r1 r2 r3 r4 p q =
    let e : Equal ≡ Less = p refl in
    absurd (cc)
one_share Less Greater t x r1 r2 r3 r4 p q =
    let e : Greater ≡ Less = p refl in
    absurd (cc)
one_share Equal Equal t x r1 r2 r3 r4 p q =
    let e : Equal ≡ Less = p refl in
    absurd (cc)
one_share Equal Greater t x r1 r2 r3 r4 p q =
    let e : Greater ≡ Less = p refl in
    absurd (cc)
one_share a Less Equal x r1 r2 r3 r4 p q =
    let e : Equal ≡ Less = q refl in
    absurd (cc)
one_share a Less Greater x r1 r2 r3 r4 p q =
    let e : Greater ≡ Less = q refl in
    absurd (cc)
one_share a Equal Equal x r1 r2 r3 r4 p q =
    let e : Equal ≡ Less = q refl in
    absurd (cc)
one_share a Equal Greater x r1 r2 r3 r4 p q =
    let e : Greater ≡ Less = q refl in
    absurd (cc)

two_shares : (t : Ordering) (x r s : Bool) → cond (is_lt t) (x && r) r && cond (is_lt (ordering_reverse t)) (x && s) s ≡ (is_eq t || x) && (r && s)
two_shares Less x r s = assoc x r s
two_shares Equal x r s = refl
two_shares Greater x r s = second_first r x s

-- ---- all names

below_is : (k l : List ℕ) → is_lt (slice_cmp nat_cmp l k) ≡ is_lt (ordering_reverse (slice_cmp nat_cmp k l))
below_is k l = ap is_lt (turned k l)

pub shares : (d : Option NodeKind) (ms : Members) → fine (part_visits BeforeAdditional (Node d) ms) && (fine (part_visits BeforeItems (Node d) ms) && (fine (part_visits BeforeType (Node d) ms) && fine (part_visits AfterType (Node d) ms))) ≡ names_allowed d ms
shares d no_members = refl
shares d (member k j ms) =
    let a : Ordering = slice_cmp nat_cmp k (word Additional) in
    let i : Ordering = slice_cmp nat_cmp k (word ItemsWord) in
    let t : Ordering = slice_cmp nat_cmp k (word TypeWord) in
    let x : Bool = is_allowed (Node d) k j in
    let r1 : Bool = fine (part_visits BeforeAdditional (Node d) ms) in
    let r2 : Bool = fine (part_visits BeforeItems (Node d) ms) in
    let r3 : Bool = fine (part_visits BeforeType (Node d) ms) in
    let r4 : Bool = fine (part_visits AfterType (Node d) ms) in
    let e1 : fine (part_visits BeforeAdditional (Node d) (member k j ms)) ≡ cond (is_lt a) (x && r1) r1 = part_fine BeforeAdditional (Node d) k j ms (is_lt a) refl in
    let e2 : fine (part_visits BeforeItems (Node d) (member k j ms)) ≡ cond (is_lt (ordering_reverse a) && is_lt i) (x && r2) r2 = part_fine BeforeItems (Node d) k j ms (is_lt (ordering_reverse a) && is_lt i) (ap (λ (b : Bool). b && is_lt i) (below_is k (word Additional))) in
    let e3 : fine (part_visits BeforeType (Node d) (member k j ms)) ≡ cond (is_lt (ordering_reverse i) && is_lt t) (x && r3) r3 = part_fine BeforeType (Node d) k j ms (is_lt (ordering_reverse i) && is_lt t) (ap (λ (b : Bool). b && is_lt t) (below_is k (word ItemsWord))) in
    let e4 : fine (part_visits AfterType (Node d) (member k j ms)) ≡ cond (is_lt (ordering_reverse t)) (x && r4) r4 = part_fine AfterType (Node d) k j ms (is_lt (ordering_reverse t)) (below_is k (word TypeWord)) in
    let one : cond (is_lt a) (x && r1) r1 && (cond (is_lt (ordering_reverse a) && is_lt i) (x && r2) r2 && (cond (is_lt (ordering_reverse i) && is_lt t) (x && r3) r3 && cond (is_lt (ordering_reverse t)) (x && r4) r4)) ≡ (is_eq a || (is_eq i || (is_eq t || x))) && (r1 && (r2 && (r3 && r4)))
    = one_share a i t x r1 r2 r3 r4 (up_to k (word Additional) (word ItemsWord) additional_items a refl) (up_to k (word ItemsWord) (word TypeWord) items_type i refl) in
    let split : fine (part_visits BeforeAdditional (Node d) (member k j ms)) && (fine (part_visits BeforeItems (Node d) (member k j ms)) && (fine (part_visits BeforeType (Node d) (member k j ms)) && fine (part_visits AfterType (Node d) (member k j ms)))) ≡ cond (is_lt a) (x && r1) r1 && (cond (is_lt (ordering_reverse a) && is_lt i) (x && r2) r2 && (cond (is_lt (ordering_reverse i) && is_lt t) (x && r3) r3 && cond (is_lt (ordering_reverse t)) (x && r4) r4))
    = four e1 e2 e3 e4 in
    let names : is_eq a || (is_eq i || (is_eq t || x)) ≡ name_allowed d k j = sym (ap (λ (b : Bool). b || (bytes_eq k (word ItemsWord) || (bytes_eq k (word TypeWord) || x))) (spelled k (word Additional)) ∙ ap (λ (b : Bool). is_eq a || (b || (bytes_eq k (word TypeWord) || x))) (spelled k (word ItemsWord)) ∙ ap (λ (b : Bool). is_eq a || (is_eq i || (b || x))) (spelled k (word TypeWord))) in
    split ∙ one ∙ ap (λ (b : Bool). b && (r1 && (r2 && (r3 && r4)))) names ∙ ap (λ (b : Bool). name_allowed d k j && b) (shares d ms)
  where
    four : {a b c d e f g h : Bool} → a ≡ e → b ≡ f → c ≡ g → d ≡ h → a && (b && (c && d)) ≡ e && (f && (g && h))
    four p q r s = cc

pub meta_shares : (ms : Members) → fine (part_visits AnyBeforeType Meta ms) && fine (part_visits AfterType Meta ms) ≡ meta_names ms
meta_shares no_members = refl
meta_shares (member k j ms) =
    let t : Ordering = slice_cmp nat_cmp k (word TypeWord) in
    let x : Bool = is_allowed Meta k j in
    let r : Bool = fine (part_visits AnyBeforeType Meta ms) in
    let s : Bool = fine (part_visits AfterType Meta ms) in
    let e : fine (part_visits AnyBeforeType Meta (member k j ms)) ≡ cond (is_lt t) (x && r) r = part_fine AnyBeforeType Meta k j ms (is_lt t) refl in
    let f : fine (part_visits AfterType Meta (member k j ms)) ≡ cond (is_lt (ordering_reverse t)) (x && s) s = part_fine AfterType Meta k j ms (is_lt (ordering_reverse t)) (below_is k (word TypeWord)) in
    both e f ∙ two_shares t x r s ∙ ap (λ (b : Bool). (b || x) && (r && s)) (sym (spelled k (word TypeWord))) ∙ ap (λ (b : Bool). (bytes_eq k (word TypeWord) || x) && b) (meta_shares ms)
  where
    both : {a b c d : Bool} → a ≡ c → b ≡ d → a && b ≡ c && d
    both p q = cc
