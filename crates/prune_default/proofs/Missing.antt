-- Defaults of names that aren't there.
use Rattle.std.specs.Prelude.{is_some, is_none, ◌||◌}
use Rattle.std.proofs.Common.{◌≡◌, ℕ, suc, ◌<◌, List, [], ◌∷◌, length, get_or, drop, map, Bool, true, false, ◌&&◌, cond, Option, Some, None, refl, ap, sym, subst, ◌∙◌, drop-cons}
use Rattle.std.specs.Ordering.{is_eq}
use Rattle.std.specs.Map.{keys_of}
use Rattle.std.proofs.lemmas.Cmp.{nat_list_cmp_total}
use Rattle.kj_value.specs.Json.{Json, Members, members_of}
use Rattle.kj_value.specs.Fields.{Pairs, with_field, IsBelowFirst, AreInOrder}
use Rattle.struct_schema.specs.Shape.{Shape, own, shapes_of, map_of, some_shape}
use Rattle.struct_schema.specs.ShapeOf.{shape_of, named_shape}
use Rattle.struct_schema.specs.Names.{is_name, value_at, shape_named, property}
use Rattle.struct_schema.specs.Stays.{each_default}
use Rattle.struct_schema.specs.declared.schema.SchemaField.{SchemaField}
use Rattle.struct_schema.specs.laws.NameLaws.{one_name}
use Rattle.prune_default.specs.inner.Missing.{or_value, default_of, first_default}
use Rattle.prune_default.proofs.Lookup.{value_at-with}

both_true : (a b : Bool) → (a && b) ≡ true → (a ≡ true) × (b ≡ true)
both_true true b h = (refl, h)
both_true false b h = absurd (cc)

pub or_none : (v : Option Json) → or_value v None ≡ v
or_none None = refl
or_none (Some j) = refl

pub or_or : (u v w : Option Json) → or_value (or_value u v) w ≡ or_value u (or_value v w)
or_or None v w = refl
or_or (Some j) v w = refl

-- a name before all names of a map has no default there
none_before : (n : List ℕ) (es : List (List ℕ × Shape)) → IsBelowFirst n (keys_of es) → AreInOrder es → first_default n (shapes_of es) ≡ None
none_before n [] p h = refl
none_before n (e ∷ es) p h =
    ap (λ (b : Bool). or_value (cond b (own e.1).default_value None) (first_default n (shapes_of es))) (ap is_eq p) ∙ none_before n es (past es h.0) h.1
  where
    past : (fs : List (List ℕ × Shape)) → IsBelowFirst e.0 (keys_of fs) → IsBelowFirst n (keys_of fs)
    past [] q = tt
    past (f ∷ fs) q = nat_list_cmp_total.trans n e.0 f.0 p q

-- the first default at a name is that of the schema there
pub first_default-is : (n : List ℕ) (es : List (List ℕ × Shape)) → AreInOrder es → first_default n (shapes_of es) ≡ default_of (shape_named n (shapes_of es))
first_default-is n [] h = refl
first_default-is n (e ∷ es) h = by_test (is_name n e.0) refl (first_default-is n es h.1)
  where
    by_test : (b : Bool) → is_name n e.0 ≡ b → first_default n (shapes_of es) ≡ default_of (shape_named n (shapes_of es))
        → or_value (cond b (own e.1).default_value None) (first_default n (shapes_of es)) ≡ default_of (cond b (some_shape e.1) (shape_named n (shapes_of es)))
    by_test true q later =
        let same : n ≡ e.0 = one_name n e.0 q in
        let none : first_default n (shapes_of es) ≡ None = subst (λ (m : List ℕ). first_default m (shapes_of es) ≡ None) (sym same) (none_before e.0 es h.0 h.1) in
        ap (or_value (own e.1).default_value) none ∙ or_none (own e.1).default_value
    by_test false q later = later

-- one more property of those that are left
pub next_default : (n : List ℕ) (ps : List SchemaField) (i : ℕ) (p : SchemaField) → i < length ps → p ≡ get_or ps i p
    → first_default n (shapes_of (map named_shape (drop i ps))) ≡ or_value (cond (is_name n p.name.bytes) (own (shape_of p.schema)).default_value None) (first_default n (shapes_of (map named_shape (drop (suc i) ps))))
next_default n ps i p within is =
    ap (λ (qs : List SchemaField). first_default n (shapes_of (map named_shape qs))) (drop-cons ps i p within ∙ ap (λ (x : SchemaField). x ∷ drop (suc i) ps) (sym is))

-- ---- a default is set where its name isn't there

nothing : (v : Option Json) → is_some v ≡ false → v ≡ None
nothing None h = refl
nothing (Some x) h = absurd (cc)

pub set_where_missing : (n k l : List ℕ) (d : Option Json) (v : Json) (es fs : Pairs) → false ≡ is_some (value_at k (members_of es)) → l ≡ k → d ≡ Some v → fs ≡ with_field l v es → value_at n (members_of fs) ≡ or_value (value_at n (members_of es)) (cond (is_name n k) d None)
set_where_missing n k l d v es fs none named default_is set_is =
    let after : value_at n (members_of fs) ≡ cond (is_name n k) (Some v) (value_at n (members_of es)) =
    ap (λ (x : Pairs). value_at n (members_of x)) set_is ∙ value_at-with n l v es ∙ ap (λ (m : List ℕ). cond (is_name n m) (Some v) (value_at n (members_of es))) named in
    after ∙ by_test (is_name n k) refl ∙ ap (λ (x : Option Json). or_value (value_at n (members_of es)) (cond (is_name n k) x None)) (sym default_is)
  where
    by_test : (b : Bool) → is_name n k ≡ b → cond b (Some v) (value_at n (members_of es)) ≡ or_value (value_at n (members_of es)) (cond b (Some v) None)
    by_test true q =
        let gone : value_at n (members_of es) ≡ None = ap (λ (m : List ℕ). value_at m (members_of es)) (one_name n k q) ∙ nothing (value_at k (members_of es)) (sym none) in
        ap (λ (x : Option Json). or_value x (Some v)) (sym gone)
    by_test false q = sym (or_none (value_at n (members_of es)))

pub kept_where_there : (n k : List ℕ) (d : Option Json) (es : Pairs) → true ≡ is_some (value_at k (members_of es)) → value_at n (members_of es) ≡ or_value (value_at n (members_of es)) (cond (is_name n k) d None)
kept_where_there n k d es there = by_test (is_name n k) refl
  where
    over : (v : Option Json) → is_some v ≡ true → v ≡ or_value v d
    over None h = absurd (cc)
    over (Some x) h = refl

    by_test : (b : Bool) → is_name n k ≡ b → value_at n (members_of es) ≡ or_value (value_at n (members_of es)) (cond b d None)
    by_test true q =
        over (value_at n (members_of es)) (ap is_some (ap (λ (m : List ℕ). value_at m (members_of es)) (one_name n k q)) ∙ sym there)
    by_test false q = sym (or_none (value_at n (members_of es)))

-- a turn of a loop over the properties, which set the default of the next one where it was missing
pub missing_turn : (n : List ℕ) (ps : List SchemaField) (i : ℕ) (p : SchemaField) (old new : Option Json) → i < length ps → p ≡ get_or ps i p → new ≡ or_value old (cond (is_name n p.name.bytes) (own (shape_of p.schema)).default_value None)
    → or_value new (first_default n (shapes_of (map named_shape (drop (suc i) ps)))) ≡ or_value old (first_default n (shapes_of (map named_shape (drop i ps))))
missing_turn n ps i p old new within is set =
    ap (λ (x : Option Json). or_value x (first_default n (shapes_of (map named_shape (drop (suc i) ps))))) set ∙ or_or old _ _ ∙ ap (or_value old) (sym (next_default n ps i p within is))

-- a turn of the merge: the field (k, j) is set over what was set before it
pub merge_turn : (n k : List ℕ) (j : Json) (rest : Pairs) (out mid new later left final : Option Json) → value_at k (members_of rest) ≡ None → or_value (value_at n (members_of ((k, j) ∷ rest))) (or_value out later) ≡ final
    → or_value mid left ≡ or_value out later → new ≡ cond (is_name n k) (Some j) mid → or_value (value_at n (members_of rest)) (or_value new left) ≡ final
merge_turn n k j rest out mid new later left final none before passed set = by_test (is_name n k) refl before set
  where
    by_test : (b : Bool) → is_name n k ≡ b → or_value (cond b (Some j) (value_at n (members_of rest))) (or_value out later) ≡ final → new ≡ cond b (Some j) mid → or_value (value_at n (members_of rest)) (or_value new left) ≡ final
    by_test true q known e =
        let gone : value_at n (members_of rest) ≡ None = ap (λ (m : List ℕ). value_at m (members_of rest)) (one_name n k q) ∙ none in
        ap (λ (x : Option Json). or_value x (or_value new left)) gone ∙ ap (λ (x : Option Json). or_value x left) e ∙ known
    by_test false q known e =
        ap (λ (x : Option Json). or_value (value_at n (members_of rest)) (or_value x left)) e ∙ ap (or_value (value_at n (members_of rest))) passed ∙ known

-- the defaults of a node's properties, as a slice of them has them
pub property_default : (n : List ℕ) (ps : List SchemaField) (es : List (List ℕ × Shape)) (m : Option (List (List ℕ × Shape))) → map named_shape ps ≡ es → AreInOrder es → m ≡ Some es → first_default n (shapes_of (map named_shape ps)) ≡ default_of (property n (map_of m))
property_default n ps es m seen order is =
    ap (λ (fs : List (List ℕ × Shape)). first_default n (shapes_of fs)) seen ∙ first_default-is n es order ∙ ap (λ (x : Option (List (List ℕ × Shape))). default_of (property n (map_of x))) (sym is)

pub map_default : (n : List ℕ) (es : List (List ℕ × Shape)) (m : Option (List (List ℕ × Shape))) → AreInOrder es → m ≡ Some es → first_default n (shapes_of es) ≡ default_of (property n (map_of m))
map_default n es m order is =
    first_default-is n es order ∙ ap (λ (x : Option (List (List ℕ × Shape))). default_of (property n (map_of x))) (sym is)

-- where no default is missing, none is set
pub none_missing : (n : List ℕ) (es : List (List ℕ × Shape)) (ms : Members) → each_default (shapes_of es) ms ≡ true → value_at n ms ≡ or_value (value_at n ms) (first_default n (shapes_of es))
none_missing n [] ms h = sym (or_none (value_at n ms))
none_missing n (e ∷ es) ms h =
    let both = both_true (is_some (value_at e.0 ms) || is_none (own e.1).default_value) (each_default (shapes_of es) ms) h in
    by_test (is_name n e.0) refl both.0 (none_missing n es ms both.1)
  where
    over : (v d w : Option Json) → (is_some v || is_none d) ≡ true → v ≡ or_value v w → v ≡ or_value v (or_value d w)
    over (Some x) d w q later = refl
    over None None w q later = later
    over None (Some x) w q later = absurd (cc)

    by_test : (b : Bool) → is_name n e.0 ≡ b → (is_some (value_at e.0 ms) || is_none (own e.1).default_value) ≡ true → value_at n ms ≡ or_value (value_at n ms) (first_default n (shapes_of es)) → value_at n ms ≡ or_value (value_at n ms) (or_value (cond b (own e.1).default_value None) (first_default n (shapes_of es)))
    by_test true q there later =
        over (value_at n ms) (own e.1).default_value (first_default n (shapes_of es)) (ap (λ (m : List ℕ). is_some (value_at m ms) || is_none (own e.1).default_value) (one_name n e.0 q) ∙ there) later
    by_test false q there later = later

or_false : (b : Bool) → b ≡ (b || false)
or_false true = refl
or_false false = refl

pub there_or_none : (b : Bool) (v d : Option Json) (x : Json) → b ≡ is_some v → d ≡ Some x → b ≡ (is_some v || is_none d)
there_or_none b v d x there default_is =
    there ∙ or_false (is_some v) ∙ ap (λ (y : Option Json). is_some v || is_none y) (sym default_is)
