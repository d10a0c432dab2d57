-- One object of a schema whose names are those of `properties`: it is a body exactly where each name of the schema has what it allows.
use Rattle.std.proofs.Common.{◌≡◌, ℕ, suc, ◌+◌, ◌≤◌, List, [], ◌∷◌, Bool, true, false, ◌&&◌, Option, Some, None, refl, ap, sym, subst, ◌∙◌}
use Rattle.std.specs.Prelude.{not, is_some, MatchBool}
use Rattle.kj_value.specs.Json.{Json, null, boolean, whole, text, list, object, Members, depth, members_of}
use Rattle.kj_value.specs.Fields.{Pairs, field}
use Rattle.kj_value.specs.KindLaws.{pairs_members}
use Rattle.struct_schema.specs.Shape.{Shape, shape, own, properties, MaybeShape, no_shape, some_shape}
use Rattle.struct_schema.specs.Names.{value_at, property, or_shape, shape_for, passes}
use Rattle.struct_schema.specs.Keywords.{has_kind, is_chosen, is_within, keeps}
use Rattle.struct_schema.specs.Valid.{valid, members_valid}
use Rattle.struct_schema.specs.Filled.{is_object, PresentFilled, PropertyFilled, Filled, NameFilled, RestFilled}
use Rattle.struct_schema.specs.laws.Own.{to_name, of_name}
use Rattle.struct_schema.specs.declared.kind.NodeKind.{NodeKind}
use Rattle.hub_cells.specs.declared.allowed.TheConstants.{STORED_LEVELS}
use Rattle.hub_cells.specs.Level.{Name}
use Rattle.hub_cells.specs.Fit.{is_required, IsClosedObject}
use Rattle.keep_laws.specs.Known.{IsRising}
use Rattle.keep_laws.specs.FittedBody.{IsBody}
use Rattle.keep_laws.proofs.Tests.{lies, both_true, and_true, none_some, all_at, all_of}
use Rattle.keep_laws.proofs.Each.{Each, at_field, each_field, depth_each, each_depth}

-- ---- what an object of the schema s, to which n names lead, has at its name k with the schema t

abbrev pub AtName : ℕ → Shape → Name → Shape → Option Json → Type 0
AtName n s k t None = (is_required k s ≡ false) × ((own t).default_value ≡ None)
AtName n s k t (Some j) = (valid t j ≡ true) × Filled t j j × (n + suc (depth j) ≤ STORED_LEVELS)

abbrev pub HasShape : Shape → Name → Type 0
HasShape s k = (t : Shape) × (property k (properties s) ≡ some_shape t)

pub no_some : (t : Shape) → no_shape ≡ some_shape t → ⊥
no_some t e = cc

shape_is : (s : Shape) (k : Name) (t : Shape) → property k (properties s) ≡ some_shape t → shape_for s k ≡ some_shape t
shape_is (shape o ps a i) k t e = ap (λ (m : MaybeShape). or_shape m a) e

-- ---- filling, name by name

abbrev By : MaybeShape → (Option Json → Option Json → Type 0) → Option Json → Option Json → Type 0
By no_shape R v w = R v w
By (some_shape t) R v w = PropertyFilled (own t) (λ x y. Filled t x y) v w

abbrev FilledAt : MaybeShape → Option Json → Type 0
FilledAt no_shape v = v ≡ None
FilledAt (some_shape t) v = PropertyFilled (own t) (λ x y. Filled t x y) v v

closed_at : (m a : MaybeShape) (preserve : Bool) (v : Option Json) → a ≡ no_shape → preserve ≡ false → By m (RestFilled a preserve) v v → FilledAt m v
closed_at no_shape a preserve v p q h =
    subst (λ (b : Bool). RestFilled no_shape b v v) q (subst (λ (m : MaybeShape). RestFilled m preserve v v) p h)
closed_at (some_shape t) a preserve v p q h = h

open_at : (m a : MaybeShape) (preserve : Bool) (v : Option Json) → a ≡ no_shape → preserve ≡ false → FilledAt m v → By m (RestFilled a preserve) v v
open_at no_shape a preserve v p q h =
    subst (λ (m : MaybeShape). RestFilled m preserve v v) (sym p) (subst (λ (b : Bool). RestFilled no_shape b v v) (sym q) h)
open_at (some_shape t) a preserve v p q h = h

filled_at : (s : Shape) (ms : Members) → IsClosedObject s → Filled s (object ms) (object ms) → (k : Name) → FilledAt (property k (properties s)) (value_at k ms)
filled_at (shape o ps a i) ms c h k =
    let all : (n : Name) → NameFilled ps (RestFilled a o.preserve) n (value_at n ms) (value_at n ms) = subst (λ (d : NodeKind). MatchBool (is_object d) ((n : Name) → NameFilled ps (RestFilled a o.preserve) n (value_at n ms) (value_at n ms)) (object ms ≡ object ms)) c.kind h in
    closed_at (property k ps) a o.preserve (value_at k ms) c.additional c.preserve (of_name ps (RestFilled a o.preserve) k (value_at k ms) (value_at k ms) (all k))

filled_from : (s : Shape) (ms : Members) → IsClosedObject s → ((k : Name) → FilledAt (property k (properties s)) (value_at k ms)) → Filled s (object ms) (object ms)
filled_from (shape o ps a i) ms c h =
    subst (λ (d : NodeKind). MatchBool (is_object d) ((n : Name) → NameFilled ps (RestFilled a o.preserve) n (value_at n ms) (value_at n ms)) (object ms ≡ object ms)) (sym c.kind) (
    λ n. to_name ps (RestFilled a o.preserve) n (value_at n ms) (value_at n ms) (open_at (property n ps) a o.preserve (value_at n ms) c.additional c.preserve (h n))
    )

-- a valid value is no null that is forbidden
present_filled : (t : Shape) (j : Json) → valid t j ≡ true → PresentFilled (own t) (λ x y. Filled t x y) j (Some j) → Filled t j j
present_filled (shape o ps a i) null v h = refl
present_filled (shape o ps a i) (boolean b) v h = h
present_filled (shape o ps a i) (whole z) v h = h
present_filled (shape o ps a i) (text s) v h = h
present_filled (shape o ps a i) (list js) v h = h
present_filled (shape o ps a i) (object ms) v h = h

filled_present : (t : Shape) (j : Json) → valid t j ≡ true → Filled t j j → PresentFilled (own t) (λ x y. Filled t x y) j (Some j)
filled_present (shape o ps a i) null v h =
    subst (λ (b : Bool). MatchBool (not b) (Some null ≡ o.default_value) (◌≡◌ {A = Json} null null)) (sym v) h
filled_present (shape o ps a i) (boolean b) v h = h
filled_present (shape o ps a i) (whole z) v h = h
filled_present (shape o ps a i) (text s) v h = h
filled_present (shape o ps a i) (list js) v h = h
filled_present (shape o ps a i) (object ms) v h = h

-- ---- validity, name by name

valid_each : (s : Shape) (x : Pairs) → members_valid s (members_of x) ≡ true → Each (λ k j. passes (shape_for s k) (λ t. valid t j) ≡ true) x
valid_each s [] h = tt
valid_each s (p ∷ ps) h =
    let q = both_true (passes (shape_for s p.0) (λ t. valid t p.1)) (members_valid s (members_of ps)) h in
    (q.0, valid_each s ps q.1)

each_valid : (s : Shape) (x : Pairs) → Each (λ k j. passes (shape_for s k) (λ t. valid t j) ≡ true) x → members_valid s (members_of x) ≡ true
each_valid s [] h = refl
each_valid s (p ∷ ps) h =
    and_true (passes (shape_for s p.0) (λ t. valid t p.1)) (members_valid s (members_of ps)) h.0 (each_valid s ps h.1)

-- ---- what a body has at each name

pub known_name : (n : ℕ) (s : Shape) (x : Pairs) → IsClosedObject s → IsBody n s x → (k : Name) (j : Json) → field k x ≡ Some j → HasShape s k
known_name n s x c b k j q =
    by_shape (property k (properties s)) refl (filled_at s (members_of x) c b.filled k)
  where
    by_shape : (m : MaybeShape) → property k (properties s) ≡ m → FilledAt m (value_at k (members_of x)) → HasShape s k
    by_shape no_shape e h = absurd (none_some j (sym h ∙ ap (field k) (pairs_members x) ∙ q))
    by_shape (some_shape t) e h = (t, e)

pub body_names : (n : ℕ) (s : Shape) (x : Pairs) → IsClosedObject s → IsBody n s x → (k : Name) (t : Shape) → property k (properties s) ≡ some_shape t → AtName n s k t (field k x)
body_names n s x c b k t e = by_value (field k x) refl
  where
    inside : (keeps (own s) (object (members_of x)) ≡ true) × (members_valid s (members_of x) ≡ true)
    inside = both_true (keeps (own s) (object (members_of x))) (members_valid s (members_of x)) b.valid

    there : (k : Name) → is_required k s ≡ true → is_some (value_at k (members_of x)) ≡ true
    there k h =
        let o = own s in
        let within = both_true (has_kind o.kind (object (members_of x)) && is_chosen o.choices (object (members_of x))) (is_within o (object (members_of x))) inside.0 in
        all_at (λ l. is_some (value_at l (members_of x))) o.required k within.1 h

    filled_here : (o : Option Json) → field k x ≡ o → FilledAt (some_shape t) o
    filled_here o q =
        subst (λ (m : MaybeShape). FilledAt m o) e (subst (λ (v : Option Json). FilledAt (property k (properties s)) v) (ap (field k) (pairs_members x) ∙ q) (filled_at s (members_of x) c b.filled k))

    by_required : (r : Bool) → is_required k s ≡ r → field k x ≡ None → r ≡ false
    by_required false h q = refl
    by_required true h q = absurd (lies (ap is_some (sym (ap (field k) (pairs_members x) ∙ q)) ∙ there k h))

    by_value : (o : Option Json) → field k x ≡ o → AtName n s k t o
    by_value None q = (by_required (is_required k s) refl q, sym (filled_here None q))
    by_value (Some j) q =
        let passed = at_field (λ l i. passes (shape_for s l) (λ u. valid u i) ≡ true) x k j (valid_each s x inside.1) q in
        let is_valid : valid t j ≡ true = subst (λ (m : MaybeShape). passes m (λ u. valid u j) ≡ true) (shape_is s k t e) passed in (
          is_valid,
          present_filled t j is_valid (filled_here (Some j) q),
          at_field (λ l i. n + suc (depth i) ≤ STORED_LEVELS) x k j (depth_each n STORED_LEVELS x b.levels) q,
        )

-- ---- and back

module _ (n : ℕ) (s : Shape) (x : Pairs) (c : IsClosedObject s) (rising : IsRising x) (known : (k : Name) (j : Json) → field k x ≡ Some j → HasShape s k) (named : (k : Name) → is_required k s ≡ true → HasShape s k) (names : (k : Name) (t : Shape) → property k (properties s) ≡ some_shape t → AtName n s k t (field k x)) where
  at_value : (k : Name) (j : Json) (t : Shape) → property k (properties s) ≡ some_shape t → field k x ≡ Some j → AtName n s k t (Some j)
  at_value k j t e q = subst (λ (o : Option Json). AtName n s k t o) q (names k t e)

  is_there : (k : Name) → is_required k s ≡ true → is_some (value_at k (members_of x)) ≡ true
  is_there k h = let r = named k h in by_value (field k x) refl (names k r.0 r.1)
    where
      by_value : (o : Option Json) → field k x ≡ o → AtName n s k (named k h).0 o → is_some (value_at k (members_of x)) ≡ true
      by_value None q g = absurd (lies (sym g.0 ∙ h))
      by_value (Some j) q g = ap is_some (ap (field k) (pairs_members x) ∙ q)

  valid_at : (k : Name) (j : Json) → field k x ≡ Some j → passes (shape_for s k) (λ t. valid t j) ≡ true
  valid_at k j q =
      let r = known k j q in
      subst (λ (m : MaybeShape). passes m (λ u. valid u j) ≡ true) (sym (shape_is s k r.0 r.1)) (at_value k j r.0 r.1 q).0

  room_at : (k : Name) (j : Json) → field k x ≡ Some j → n + suc (depth j) ≤ STORED_LEVELS
  room_at k j q = let r = known k j q in (at_value k j r.0 r.1 q).2

  filled_name : (k : Name) → FilledAt (property k (properties s)) (value_at k (members_of x))
  filled_name k =
      subst (λ (v : Option Json). FilledAt (property k (properties s)) v) (sym (ap (field k) (pairs_members x))) (by_shape (property k (properties s)) refl (field k x) refl)
    where
      by_shape : (m : MaybeShape) → property k (properties s) ≡ m → (o : Option Json) → field k x ≡ o → FilledAt m o
      by_shape no_shape e None q = refl
      by_shape no_shape e (Some j) q = let r = known k j q in absurd (no_some r.0 (sym e ∙ r.1))
      by_shape (some_shape t) e None q =
          let g : AtName n s k t None = subst (λ (o : Option Json). AtName n s k t o) q (names k t e) in
          sym g.1
      by_shape (some_shape t) e (Some j) q = let g = at_value k j t e q in filled_present t j g.0 g.1

  is_valid : valid s (object (members_of x)) ≡ true
  is_valid =
      let o = own s in
      let j = object (members_of x) in
      let kind : has_kind o.kind j ≡ true = ap (λ (d : NodeKind). has_kind d j) c.kind in
      let chosen : is_chosen o.choices j ≡ true = ap (λ (l : Option (List Json)). is_chosen l j) c.choices in
      let within : is_within o j ≡ true = all_of (λ l. is_some (value_at l (members_of x))) o.required is_there in
      and_true (keeps o j) (members_valid s (members_of x)) (and_true (has_kind o.kind j && is_chosen o.choices j) (is_within o j) (and_true (has_kind o.kind j) (is_chosen o.choices j) kind chosen) within) (each_valid s x (each_field (λ k i. passes (shape_for s k) (λ t. valid t i) ≡ true) x rising valid_at))

  pub names_body : n + 1 ≤ STORED_LEVELS → IsBody n s x
  names_body room = record {
    valid = is_valid;
    filled = filled_from s (members_of x) c filled_name;
    levels = each_depth n STORED_LEVELS x (each_field (λ k j. n + suc (depth j) ≤ STORED_LEVELS) x rising room_at) room;
  }
