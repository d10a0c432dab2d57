-- A cell of kind scale fits where the factor keeps both sides' bounds.
use Rattle.std.proofs.Common.{◌≡◌, ◌<◌, ◌+◌, ℕ, ℤ, pos, negsuc, ◌*ℤ◌, ◌≤ℤ◌, List, [], ◌∷◌, Bool, true, false, ◌&&◌, not, cond, Option, Some, None, refl, sym, subst, ◌∙◌, arith}
use Rattle.std.specs.Prelude.{leb, is_none, is_some, ◌||◌, int_lt}
use Rattle.std.specs.Ordering.{int_eq}
use Rattle.std.proofs.lemmas.Int.{ints}
use Rattle.std.proofs.lemmas.Bool.{false≢true}
use Rattle.kj_value.specs.Json.{Json, null, boolean, whole, text, list, object, depth}
use Rattle.struct_schema.specs.Shape.{Own, Shape, own}
use Rattle.struct_schema.specs.Keywords.{has_kind, is_chosen, at_least, at_most, is_formed, is_within, keeps}
use Rattle.struct_schema.specs.Valid.{valid, items_valid, members_valid}
use Rattle.struct_schema.specs.Stays.{stays}
use Rattle.struct_schema.specs.declared.kind.NodeKind.{NodeKind}
use Rattle.struct_schema.specs.declared.kind.NodeKind.TheVariants.{Object, Array, Text, Whole, Truth, IntOrText, Any}
use Rattle.struct_schema.specs.declared.kind.IntFormat.{IntFormat}
use Rattle.struct_schema.specs.declared.kind.IntFormat.TheVariants.{Int32, Int64}
use Rattle.hub_cells.specs.declared.allowed.TheConstants.{STORED_LEVELS}
use Rattle.hub_cells.specs.Side.{Side, spoke, hub}
use Rattle.hub_cells.specs.Cell.{Tuple, scale, one}
use Rattle.hub_cells.specs.Cross.{quotient, matched}
use Rattle.hub_cells.specs.Level.{Place, Cell, is_word, allowed_at, all_allowed, allows, MatchAllowed, have_default, MatchThere, CellFits}
use Rattle.hub_cells.specs.laws.OneToOne.{quotient_times}
use Rattle.hub_rules.specs.Refusal.{is_whole, greater, lesser_of, or_bound, format_least, format_greatest, least, greatest, is_between, products_fit, quotients_fit, scale_fits}
use Rattle.hub_fit.proofs.CellFits.{and_left, and_right, and_both, AbsentMatch, AnswerFits, AnswerThere, first_allowed, rest_allowed, room, shallow, alone, absent_over}
use Rattle.hub_fit.proofs.Scales.{not_less, less_not, products_rise, quotients_rise}

le_trans : (x y z : ℤ) → x ≤ℤ y → y ≤ℤ z → x ≤ℤ z
le_trans x y z h g = omega (arith, ints, h, g)

-- ---- bounds

above_both : (x y z : ℤ) → not (int_lt z x) ≡ true → not (int_lt z y) ≡ true → not (int_lt z (greater x y)) ≡ true
above_both x y z p q = by_test (int_lt x y)
  where
    by_test : (b : Bool) → not (int_lt z (cond b y x)) ≡ true
    by_test true = q
    by_test false = p

below_both : (x y z : ℤ) → not (int_lt x z) ≡ true → not (int_lt y z) ≡ true → not (int_lt (lesser_of x y) z) ≡ true
below_both x y z p q = by_test (int_lt x y)
  where
    by_test : (b : Bool) → not (int_lt (cond b x y) z) ≡ true
    by_test true = p
    by_test false = q

above_first : (x y z : ℤ) → greater x y ≤ℤ z → x ≤ℤ z
above_first x y z h = grind (arith, ints)

above_second : (x y z : ℤ) → greater x y ≤ℤ z → y ≤ℤ z
above_second x y z h = grind (arith, ints)

below_first : (x y z : ℤ) → z ≤ℤ lesser_of x y → z ≤ℤ x
below_first x y z h = grind (arith, ints)

below_second : (x y z : ℤ) → z ≤ℤ lesser_of x y → z ≤ℤ y
below_second x y z h = grind (arith, ints)

is_high : (lo : Option ℤ) (f : Option IntFormat) (z : ℤ) → at_least lo z ≡ true → is_formed f z ≡ true → is_word (whole z) ≡ true → not (int_lt z (greater (or_bound (negsuc 9223372036854775807) lo) (format_least f))) ≡ true
is_high lo f z a b w =
    above_both (or_bound (negsuc 9223372036854775807) lo) (format_least f) z (by_bound lo a) (by_format f b)
  where
    word_low : not (int_lt z (negsuc 9223372036854775807)) ≡ true
    word_low = and_left (not (int_lt z (negsuc 9223372036854775807))) (not (int_lt (pos 9223372036854775807) z)) w

    by_bound : (o : Option ℤ) → at_least o z ≡ true → not (int_lt z (or_bound (negsuc 9223372036854775807) o)) ≡ true
    by_bound None h = word_low
    by_bound (Some m) h = h

    by_format : (g : Option IntFormat) → is_formed g z ≡ true → not (int_lt z (format_least g)) ≡ true
    by_format None h = word_low
    by_format (Some Int32) h = and_left (not (int_lt z (negsuc 2147483647))) (not (int_lt (pos 2147483647) z)) h
    by_format (Some Int64) h = word_low

is_low : (hi : Option ℤ) (f : Option IntFormat) (z : ℤ) → at_most hi z ≡ true → is_formed f z ≡ true → is_word (whole z) ≡ true → not (int_lt (lesser_of (or_bound (pos 9223372036854775807) hi) (format_greatest f)) z) ≡ true
is_low hi f z a b w =
    below_both (or_bound (pos 9223372036854775807) hi) (format_greatest f) z (by_bound hi a) (by_format f b)
  where
    word_high : not (int_lt (pos 9223372036854775807) z) ≡ true
    word_high = and_right (not (int_lt z (negsuc 9223372036854775807))) (not (int_lt (pos 9223372036854775807) z)) w

    by_bound : (o : Option ℤ) → at_most o z ≡ true → not (int_lt (or_bound (pos 9223372036854775807) o) z) ≡ true
    by_bound None h = word_high
    by_bound (Some m) h = h

    by_format : (g : Option IntFormat) → is_formed g z ≡ true → not (int_lt (format_greatest g) z) ≡ true
    by_format None h = word_high
    by_format (Some Int32) h = and_right (not (int_lt z (negsuc 2147483647))) (not (int_lt (pos 2147483647) z)) h
    by_format (Some Int64) h = word_high

-- what is between the bounds keeps each of them
from_low : (lo : Option ℤ) (z : ℤ) → or_bound (negsuc 9223372036854775807) lo ≤ℤ z → at_least lo z ≡ true
from_low None z h = refl
from_low (Some m) z h = less_not z m h

from_high : (hi : Option ℤ) (z : ℤ) → z ≤ℤ or_bound (pos 9223372036854775807) hi → at_most hi z ≡ true
from_high None z h = refl
from_high (Some m) z h = less_not m z h

from_format : (f : Option IntFormat) (z : ℤ) → format_least f ≤ℤ z → z ≤ℤ format_greatest f → (is_formed f z ≡ true) × (is_word (whole z) ≡ true)
from_format None z a b =
    (refl, and_both (not (int_lt z (negsuc 9223372036854775807))) (not (int_lt (pos 9223372036854775807) z)) (less_not z (negsuc 9223372036854775807) a) (less_not (pos 9223372036854775807) z b))
from_format (Some Int32) z a b = (
  and_both (not (int_lt z (negsuc 2147483647))) (not (int_lt (pos 2147483647) z)) (less_not z (negsuc 2147483647) a) (less_not (pos 2147483647) z b),
  and_both (not (int_lt z (negsuc 9223372036854775807))) (not (int_lt (pos 9223372036854775807) z)) (less_not z (negsuc 9223372036854775807) (omega (arith, ints, a))) (less_not (pos 9223372036854775807) z (omega (arith, ints, b))),
)
from_format (Some Int64) z a b =
    (refl, and_both (not (int_lt z (negsuc 9223372036854775807))) (not (int_lt (pos 9223372036854775807) z)) (less_not z (negsuc 9223372036854775807) a) (less_not (pos 9223372036854775807) z b))

-- ---- a node of whole numbers with no enum

pub record IsNumbers (t : Shape) : Type 0 where
  pub kind : is_whole (own t).kind ≡ true
  pub nullable : (own t).nullable ≡ false
  pub choices : is_none (own t).choices ≡ true

whole_kind : (d : NodeKind) (z : ℤ) → is_whole d ≡ true → has_kind d (whole z) ≡ true
whole_kind Whole z h = refl
whole_kind Object z h = absurd (false≢true h)
whole_kind Array z h = absurd (false≢true h)
whole_kind Text z h = absurd (false≢true h)
whole_kind Truth z h = absurd (false≢true h)
whole_kind IntOrText z h = absurd (false≢true h)
whole_kind Any z h = absurd (false≢true h)

any_chosen : (o : Option (List Json)) (j : Json) → is_none o ≡ true → is_chosen o j ≡ true
any_chosen None j h = refl
any_chosen (Some js) j h = absurd (false≢true h)

abbrev IsBetween : Own → ℤ → Type 0
IsBetween o z = (least o ≤ℤ z) × (z ≤ℤ greatest o)

between : (o : Own) (z : ℤ) → is_between o z ≡ true → IsBetween o z
between o z h =
    (not_less z (least o) (and_left (not (int_lt z (least o))) (not (int_lt (greatest o) z)) h), not_less (greatest o) z (and_right (not (int_lt z (least o))) (not (int_lt (greatest o) z)) h))

valid_between : (t : Shape) (z : ℤ) → valid t (whole z) ≡ true → is_word (whole z) ≡ true → IsBetween (own t) z
valid_between t z v w =
    let o = own t in
    let a = at_least o.minimum z in
    let b = at_most o.maximum z in
    let c = is_formed o.format z in
    let limits = and_right (has_kind o.kind (whole z) && is_chosen o.choices (whole z)) (a && b && c) v in
    let two = and_left (a && b) c limits in
    let form = and_right (a && b) c limits in
    (not_less z (least o) (is_high o.minimum o.format z (and_left a b two) form w), not_less (greatest o) z (is_low o.maximum o.format z (and_right a b two) form w))

between_allowed : (n : ℕ) (q : Place) (z : ℤ) → IsNumbers q.shape → IsBetween (own q.shape) z → leb (n + 1) STORED_LEVELS ≡ true → all_allowed n (q ∷ []) (one (whole z)) ≡ true
between_allowed n q z f h r =
    let o = own q.shape in
    let a = at_least o.minimum z in
    let b = at_most o.maximum z in
    let c = is_formed o.format z in
    let low_bound = or_bound (negsuc 9223372036854775807) o.minimum in
    let high_bound = or_bound (pos 9223372036854775807) o.maximum in
    let first : a ≡ true = from_low o.minimum z (above_first low_bound (format_least o.format) z h.0) in
    let second : b ≡ true = from_high o.maximum z (below_first high_bound (format_greatest o.format) z h.1) in
    let third = from_format o.format z (above_second low_bound (format_least o.format) z h.0) (below_second high_bound (format_greatest o.format) z h.1) in
    let limits : (a && b && c) ≡ true = and_both (a && b) c (and_both a b first second) third.0 in
    let kept : valid q.shape (whole z) ≡ true = and_both (has_kind o.kind (whole z) && is_chosen o.choices (whole z)) (a && b && c) (and_both (has_kind o.kind (whole z)) (is_chosen o.choices (whole z)) (whole_kind o.kind z f.kind) (any_chosen o.choices (whole z) f.choices)) limits in
    let shown : allowed_at n q (Some (whole z)) ≡ true = and_both (valid q.shape (whole z) && true && leb (n + 1 + 0) STORED_LEVELS) (is_word (whole z)) (and_both (valid q.shape (whole z) && true) (leb (n + 1 + 0) STORED_LEVELS) (and_both (valid q.shape (whole z)) true kept refl) (shallow n r)) third.1 in
    alone n q (Some (whole z)) shown

-- nothing else is valid there
no_other : (t : Shape) (d : NodeKind) → IsNumbers t → ((own t).kind ≡ d) → is_whole d ≡ true
no_other t d f e = subst (λ (x : NodeKind). is_whole x ≡ true) e f.kind

not_kind : (d : NodeKind) (j : Json) → is_whole d ≡ true → has_kind Whole j ≡ false → has_kind d j ≡ false
not_kind Whole j h e = e
not_kind Object j h e = absurd (false≢true h)
not_kind Array j h e = absurd (false≢true h)
not_kind Text j h e = absurd (false≢true h)
not_kind Truth j h e = absurd (false≢true h)
not_kind IntOrText j h e = absurd (false≢true h)
not_kind Any j h e = absurd (false≢true h)

never_keeps : (o : Own) (j : Json) → is_whole o.kind ≡ true → has_kind Whole j ≡ false → keeps o j ≡ true → ⊥
never_keeps o j h e k =
    false≢true (sym (not_kind o.kind j h e) ∙ and_left (has_kind o.kind j) (is_chosen o.choices j) (and_left (has_kind o.kind j && is_chosen o.choices j) (is_within o j) k))

-- the value that is allowed there is a number between the bounds
abbrev Number : Shape → Json → Type 0
Number t j = (z : ℤ) × (j ≡ whole z) × IsBetween (own t) z

value_valid : (n : ℕ) (p : Place) (j : Json) → allowed_at n p (Some j) ≡ true → valid p.shape j ≡ true
value_valid n p j h =
    and_left (valid p.shape j) (stays p.shape j) (and_left (valid p.shape j && stays p.shape j) (leb (n + 1 + depth j) STORED_LEVELS) (and_left (valid p.shape j && stays p.shape j && leb (n + 1 + depth j) STORED_LEVELS) (is_word j) h))

value_word : (n : ℕ) (p : Place) (j : Json) → allowed_at n p (Some j) ≡ true → is_word j ≡ true
value_word n p j h =
    and_right (valid p.shape j && stays p.shape j && leb (n + 1 + depth j) STORED_LEVELS) (is_word j) h

number : (n : ℕ) (p : Place) (j : Json) → IsNumbers p.shape → allowed_at n p (Some j) ≡ true → Number p.shape j
number n p null f h = absurd (false≢true (sym f.nullable ∙ value_valid n p null h))
number n p (boolean b) f h = absurd (never_keeps (own p.shape) (boolean b) f.kind refl (value_valid n p (boolean b) h))
number n p (whole z) f h = (z, refl, valid_between p.shape z (value_valid n p (whole z) h) (value_word n p (whole z) h))
number n p (text t) f h = absurd (never_keeps (own p.shape) (text t) f.kind refl (value_valid n p (text t) h))
number n p (list js) f h =
    absurd (never_keeps (own p.shape) (list js) f.kind refl (and_left (keeps (own p.shape) (list js)) (items_valid p.shape js) (value_valid n p (list js) h)))
number n p (object ms) f h =
    absurd (never_keeps (own p.shape) (object ms) f.kind refl (and_left (keeps (own p.shape) (object ms)) (members_valid p.shape ms) (value_valid n p (object ms) h)))

-- ---- the cell

pub record ScaleHolds (p q : Place) (k : ℕ) : Type 0 where
  pub factor : 0 < k
  pub alike : p.required ≡ q.required
  pub spoke : IsNumbers p.shape
  pub hub : IsNumbers q.shape
  pub fits : scale_fits k (own p.shape) (own q.shape) ≡ true

product_between : (p q : Place) (k : ℕ) (z : ℤ) → ScaleHolds p q k → IsBetween (own p.shape) z → IsBetween (own q.shape) (pos k *ℤ z)
product_between p q k z f h =
    let o = own p.shape in
    let e = own q.shape in
    let a = is_between e (pos k *ℤ least o) in
    let b = is_between e (pos k *ℤ greatest o) in
    let two = and_left (products_fit k o e) (quotients_fit k o e) f.fits in
    let first = between e (pos k *ℤ least o) (and_left a b two) in
    let second = between e (pos k *ℤ greatest o) (and_right a b two) in (
      le_trans (least e) (pos k *ℤ least o) (pos k *ℤ z) first.0 (products_rise k (least o) z f.factor (quotient_times k z f.factor) h.0),
      le_trans (pos k *ℤ z) (pos k *ℤ greatest o) (greatest e) (products_rise k z (greatest o) f.factor (quotient_times k (greatest o) f.factor) h.1) second.1,
    )

quotient_between : (p q : Place) (k : ℕ) (z : ℤ) → ScaleHolds p q k → IsBetween (own q.shape) z → IsBetween (own p.shape) (quotient k z)
quotient_between p q k z f h =
    let o = own p.shape in
    let e = own q.shape in
    let c = is_between o (quotient k (least e)) in
    let d = is_between o (quotient k (greatest e)) in
    let two = and_right (products_fit k o e) (quotients_fit k o e) f.fits in
    let first = between o (quotient k (least e)) (and_left c d two) in
    let second = between o (quotient k (greatest e)) (and_right c d two) in (
      le_trans (least o) (quotient k (least e)) (quotient k z) first.0 (quotients_rise k (least e) z f.factor h.0),
      le_trans (quotient k z) (quotient k (greatest e)) (greatest o) (quotients_rise k z (greatest e) f.factor h.1) second.1,
    )

abbrev pub scale_cell : ℕ → Place → Place → ℕ → Cell
scale_cell n p q k = record { spoke = p ∷ []; hub = q ∷ []; kind = scale k; depth = n }

scale_absent : (n : ℕ) (p q : Place) (k : ℕ) (d : Side) → AbsentMatch (scale_cell n p q k) d
scale_absent n p q k spoke = refl
scale_absent n p q k hub = refl

value_over : (n : ℕ) (p q : Place) (k : ℕ) (j : Json) → ScaleHolds p q k → leb (n + 1) STORED_LEVELS ≡ true → Number p.shape j → MatchAllowed (scale_cell n p q k) spoke (matched spoke (scale k) (one j)) (one j)
value_over n p q k j f r v =
    subst (λ (i : Json). MatchAllowed (scale_cell n p q k) spoke (matched spoke (scale k) (one i)) (one i)) (sym v.1) (between_allowed n q (pos k *ℤ v.0) f.hub (product_between p q k v.0 f v.2) r)

value_back : (n : ℕ) (p q : Place) (k : ℕ) (j : Json) → ScaleHolds p q k → leb (n + 1) STORED_LEVELS ≡ true → Number q.shape j → MatchAllowed (scale_cell n p q k) hub (matched hub (scale k) (one j)) (one j)
value_back n p q k j f r v =
    subst (λ (i : Json). MatchAllowed (scale_cell n p q k) hub (matched hub (scale k) (one i)) (one i)) (sym v.1) (by_test (int_eq (pos k *ℤ quotient k v.0) v.0))
  where
    shown : all_allowed n (p ∷ []) (one (whole (quotient k v.0))) ≡ true
    shown = between_allowed n p (quotient k v.0) f.spoke (quotient_between p q k v.0 f v.2) r

    by_test : (b : Bool) → MatchAllowed (scale_cell n p q k) hub (cond b (Some (one (whole (quotient k v.0)))) None) (one (whole v.0))
    by_test true = shown
    by_test false = shown

scale_answer : (n : ℕ) (p q : Place) (k : ℕ) → ScaleHolds p q k → (d : Side) (u : Tuple) → AnswerFits (scale_cell n p q k) d u
scale_answer n p q k f spoke [] h = absurd (false≢true h)
scale_answer n p q k f spoke (None ∷ []) h = absent_over n p q f.alike h
scale_answer n p q k f spoke (Some j ∷ []) h =
    value_over n p q k j f (room n p j (first_allowed n p (Some j) [] [] h)) (number n p j f.spoke (first_allowed n p (Some j) [] [] h))
scale_answer n p q k f spoke (None ∷ o ∷ os) h = absurd (false≢true (rest_allowed n p None [] (o ∷ os) h))
scale_answer n p q k f spoke (Some j ∷ o ∷ os) h = absurd (false≢true (rest_allowed n p (Some j) [] (o ∷ os) h))
scale_answer n p q k f hub [] h = absurd (false≢true h)
scale_answer n p q k f hub (None ∷ []) h = absent_over n q p (sym f.alike) h
scale_answer n p q k f hub (Some j ∷ []) h =
    value_back n p q k j f (room n q j (first_allowed n q (Some j) [] [] h)) (number n q j f.hub (first_allowed n q (Some j) [] [] h))
scale_answer n p q k f hub (None ∷ o ∷ os) h = absurd (false≢true (rest_allowed n q None [] (o ∷ os) h))
scale_answer n p q k f hub (Some j ∷ o ∷ os) h = absurd (false≢true (rest_allowed n q (Some j) [] (o ∷ os) h))

number_there : (n : ℕ) (p q : Place) (k : ℕ) (d : Side) (z : ℤ) → MatchThere (scale_cell n p q k) d (matched d (scale k) (one (whole z))) (one (whole z))
number_there n p q k spoke z = refl
number_there n p q k hub z = by_test (int_eq (pos k *ℤ quotient k z) z)
  where
    by_test : (b : Bool) → MatchThere (scale_cell n p q k) hub (cond b (Some (one (whole (quotient k z)))) None) (one (whole z))
    by_test true = refl
    by_test false = refl

value_there : (n : ℕ) (p q : Place) (k : ℕ) (d : Side) (t : Shape) (j : Json) → Number t j → MatchThere (scale_cell n p q k) d (matched d (scale k) (one j)) (one j)
value_there n p q k d t j v =
    subst (λ (i : Json). MatchThere (scale_cell n p q k) d (matched d (scale k) (one i)) (one i)) (sym v.1) (number_there n p q k d v.0)

scale_there : (n : ℕ) (p q : Place) (k : ℕ) → ScaleHolds p q k → (d : Side) (u : Tuple) → AnswerThere (scale_cell n p q k) d u
scale_there n p q k f d [] h t = absurd (false≢true t)
scale_there n p q k f d (None ∷ []) h t = absurd (false≢true t)
scale_there n p q k f spoke (Some j ∷ []) h t = value_there n p q k spoke p.shape j (number n p j f.spoke (first_allowed n p (Some j) [] [] h))
scale_there n p q k f hub (Some j ∷ []) h t = value_there n p q k hub q.shape j (number n q j f.hub (first_allowed n q (Some j) [] [] h))
scale_there n p q k f spoke (None ∷ o ∷ os) h t = absurd (false≢true (rest_allowed n p None [] (o ∷ os) h))
scale_there n p q k f spoke (Some j ∷ o ∷ os) h t = absurd (false≢true (rest_allowed n p (Some j) [] (o ∷ os) h))
scale_there n p q k f hub (None ∷ o ∷ os) h t = absurd (false≢true (rest_allowed n q None [] (o ∷ os) h))
scale_there n p q k f hub (Some j ∷ o ∷ os) h t = absurd (false≢true (rest_allowed n q (Some j) [] (o ∷ os) h))

value_matches : (k : ℕ) (b : Bool) (t : Shape) (j : Json) → Number t j → (is_some (matched spoke (scale k) (one j)) || b) ≡ true
value_matches k b t j v = subst (λ (i : Json). (is_some (matched spoke (scale k) (one i)) || b) ≡ true) (sym v.1) refl

scale_matches : (n : ℕ) (p q : Place) (k : ℕ) → ScaleHolds p q k → (u : Tuple) → allows spoke (scale_cell n p q k) u ≡ true → (is_some (matched spoke (scale k) u) || have_default (q ∷ [])) ≡ true
scale_matches n p q k f [] h = absurd (false≢true h)
scale_matches n p q k f (None ∷ []) h = refl
scale_matches n p q k f (Some j ∷ []) h = value_matches k (have_default (q ∷ [])) p.shape j (number n p j f.spoke (first_allowed n p (Some j) [] [] h))
scale_matches n p q k f (None ∷ o ∷ os) h = absurd (false≢true (rest_allowed n p None [] (o ∷ os) h))
scale_matches n p q k f (Some j ∷ o ∷ os) h = absurd (false≢true (rest_allowed n p (Some j) [] (o ∷ os) h))

pub scale_fits_cell : (n : ℕ) (p q : Place) (k : ℕ) → ScaleHolds p q k → CellFits (scale_cell n p q k)
scale_fits_cell n p q k f = record {
  regular = f.factor;
  absent = scale_absent n p q k;
  answer = scale_answer n p q k f;
  there = λ d u c. scale_there n p q k f d u;
  single = λ h. refl;
  defaults = λ d h. refl;
  matches = λ u h g. scale_matches n p q k f u g;
}
