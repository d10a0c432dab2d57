-- How large lists and objects are as they are built.
use Rattle.std.proofs.Common.{◌≡◌, ◌≤◌, ◌<◌, ◌+◌, ℕ, List, [], ◌∷◌, ◌++◌, length, Option, Some, None, Ordering, Less, Equal, Greater, nat_cmp, refl, ap, arith}
use Rattle.std.specs.Prelude.{MatchOption}
use Rattle.std.specs.Ordering.{is_eq, match_ordering}
use Rattle.std.specs.Cmp.Lexicographic.{slice_cmp}
use Rattle.kj_value.specs.Json.{Json, null, boolean, whole, text, list, object, items_of, members_of}
use Rattle.kj_value.specs.Fields.{Pairs, with_field}
use Rattle.struct_schema.specs.laws.NameLaws.{one_name}
use Rattle.prune_default.specs.Size.{size, items_size, members_size, maybe_size}

-- no value is without size
pub size-some : (j : Json) → 1 ≤ size j
size-some null = omega arith
size-some (boolean b) = omega arith
size-some (whole z) = omega arith
size-some (text s) = omega arith
size-some (list js) = omega arith
size-some (object ms) = omega arith

pub items_size-push : (js : List Json) (j : Json) → items_size (items_of (js ++ j ∷ [])) ≡ items_size (items_of js) + (1 + size j)
items_size-push [] j = omega arith
items_size-push (x ∷ js) j = omega (arith, items_size-push js j)

-- a name that is new adds its field, and one that is there gives its value up
pub members_size-with : (k : List ℕ) (v : Json) (es : Pairs) → members_size (members_of (with_field k v es)) ≤ members_size (members_of es) + (length k + 4 + size v)
members_size-with k v [] = omega arith
members_size-with k v (e ∷ es) = by_order (slice_cmp nat_cmp k e.0) refl (members_size-with k v es)
  where
    by_order : (o : Ordering) → slice_cmp nat_cmp k e.0 ≡ o → members_size (members_of (with_field k v es)) ≤ members_size (members_of es) + (length k + 4 + size v)
        → members_size (members_of (match_ordering o ((k, v) ∷ e ∷ es) ((e.0, v) ∷ es) (e ∷ with_field k v es))) ≤ (length e.0 + 4 + size e.1 + members_size (members_of es)) + (length k + 4 + size v)
    by_order Less q later = omega arith
    by_order Equal q later =
        let same : length k ≡ length e.0 = ap length (one_name k e.0 (ap is_eq q)) in
        omega (arith, same)
    by_order Greater q later = omega (arith, later)

pub kept_within : (k : List ℕ) (w : Option Json) (v : Json) (es fs : Pairs) → w ≡ Some v → fs ≡ with_field k v es → members_size (members_of fs) ≤ members_size (members_of es) + (length k + 4 + maybe_size w)
kept_within k w v es fs is set =
    let same : members_size (members_of fs) ≡ members_size (members_of (with_field k v es)) = ap (λ (x : Pairs). members_size (members_of x)) set in
    let some : maybe_size w ≡ size v = ap maybe_size is in
    omega (arith, members_size-with k v es, same, some)

-- a field for which room was taken
pub set_within : (k l : List ℕ) (v d : Json) (es fs : Pairs) (old new : ℕ) → fs ≡ with_field l d es → l ≡ k → d ≡ v → new + (length k + 4 + size v) ≡ old
    → members_size (members_of fs) + new ≤ members_size (members_of es) + old
set_within k l v d es fs old new set named is taken =
    let same : members_size (members_of fs) ≡ members_size (members_of (with_field l d es)) = ap (λ (x : Pairs). members_size (members_of x)) set in
    let name : length l ≡ length k = ap length named in
    let value : size d ≡ size v = ap size is in
    omega (arith, members_size-with l d es, same, name, value, taken)

-- so much is left beside two parts as beside the one and then the other
pub beside_both : (r : Option ℕ) (room rest n m : ℕ) → rest + n ≡ room → MatchOption r (rest < m) (λ left. left + m ≡ rest) → MatchOption r (room < n + m) (λ left. left + (n + m) ≡ room)
beside_both None room rest n m e h = omega (arith, e, h)
beside_both (Some x) room rest n m e h = omega (arith, e, h)
