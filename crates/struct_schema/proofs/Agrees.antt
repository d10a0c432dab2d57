-- There is no first fault exactly where the value is valid.
use Rattle.std.proofs.Common.{◌≡◌, ℕ, ◌+◌, List, [], ◌∷◌, Bool, true, false, ◌&&◌, not, cond, Option, Some, None, fold, filter, option_map, refl, ap, sym, ◌∙◌}
use Rattle.std.specs.Prelude.{◌↔◌, pos, is_some, is_none}
use Rattle.std.specs.Ordering.{nat_cmp, is_lt}
use Rattle.std.specs.Cmp.Lexicographic.{slice_cmp}
use Rattle.kj_value.specs.Json.{Json, null, boolean, whole, text, list, object, Items, no_items, item, Members, no_members, member}
use Rattle.kj_value.specs.declared.rule.Rule.{Rule}
use Rattle.kj_value.specs.declared.rule.Rule.TheVariants.{Kind, Enum, Minimum, Maximum, Format, MinLength, MaxLength, MinItems, MaxItems}
use Rattle.struct_schema.specs.Shape.{Own, Shape, own, items_shape, MaybeShape, no_shape, some_shape}
use Rattle.struct_schema.specs.Names.{value_at, shape_for, passes}
use Rattle.struct_schema.specs.Keywords.{is_within, has_kind, is_chosen, has_names, at_least, at_most, is_formed, character_count, item_count}
use Rattle.struct_schema.specs.Path.{Step, named, at}
use Rattle.struct_schema.specs.Valid.{valid, items_valid, members_valid}
use Rattle.struct_schema.specs.Fault.{Fault, here, under, or_else, unless, broken_limit, broken_rule, lesser, missing, first_missing, missing_fault, own_fault, fault_in, fault, items_fault, members_fault}

none-unless : {A : Type 0} (b : Bool) (x : A) (o : Option A) → is_none (unless b x o) ≡ b && is_none o
none-unless true x o = refl
none-unless false x o = refl

none-or_else : {A : Type 0} (o p : Option A) → is_none (or_else o p) ≡ is_none o && is_none p
none-or_else None p = refl
none-or_else (Some x) p = refl

none-under : (p : Step) (o : Option Fault) → is_none (under p o) ≡ is_none o
none-under p None = refl
none-under p (Some f) = refl

none-map : (o : Option Rule) → is_none (option_map here o) ≡ is_none o
none-map None = refl
none-map (Some r) = refl

none-missing : (o : Option (List ℕ)) → is_none (missing_fault o) ≡ is_none o
none-missing None = refl
none-missing (Some n) = refl

both : (a b c : Bool) → a && (b && c) ≡ a && b && c
both true b c = refl
both false b c = refl

with_true : (a : Bool) → a && true ≡ a
with_true true = refl
with_true false = refl

none-lesser : (acc : Option (List ℕ)) (n : List ℕ) → is_none (lesser acc n) ≡ false
none-lesser None n = refl
none-lesser (Some m) n = by_test (is_lt (slice_cmp nat_cmp n m))
  where
    by_test : (b : Bool) → is_none (cond b (Some n) (Some m)) ≡ false
    by_test true = refl
    by_test false = refl

none-fold : (acc : Option (List ℕ)) (ns : List (List ℕ)) (ms : Members) → is_none (fold lesser acc (filter (missing ms) ns)) ≡ is_none acc && has_names ns ms
none-fold acc [] ms = sym (with_true (is_none acc))
none-fold acc (n ∷ ns) ms = by_test (is_some (value_at n ms)) (none-fold acc ns ms) (none-fold (lesser acc n) ns ms)
  where
    dropped : (a : Bool) → false ≡ a && false
    dropped true = refl
    dropped false = refl

    by_test : (b : Bool) → is_none (fold lesser acc (filter (missing ms) ns)) ≡ is_none acc && has_names ns ms → is_none (fold lesser (lesser acc n) (filter (missing ms) ns)) ≡ is_none (lesser acc n) && has_names ns ms
        → is_none (fold lesser acc (cond (not b) (n ∷ filter (missing ms) ns) (filter (missing ms) ns))) ≡ is_none acc && (b && has_names ns ms)
    by_test true h k = h
    by_test false h k = k ∙ ap (λ (b : Bool). b && has_names ns ms) (none-lesser acc n) ∙ dropped (is_none acc)

-- the limits of a value, but for `required`
abbrev is_limited : Own → Json → Bool
is_limited o null = true
is_limited o (boolean b) = true
is_limited o (whole z) = is_within o (whole z)
is_limited o (text s) = is_within o (text s)
is_limited o (list js) = is_within o (list js)
is_limited o (object ms) = true

three : {A : Type 0} (a b c : Bool) (x y z : A) → is_none (unless a x (unless b y (unless c z None))) ≡ a && b && c
three true true true x y z = refl
three true true false x y z = refl
three true false c x y z = refl
three false b c x y z = refl

two : {A : Type 0} (a b : Bool) (x y : A) → is_none (unless a x (unless b y None)) ≡ a && b
two true true x y = refl
two true false x y = refl
two false b x y = refl

none-limit : (o : Own) (j : Json) → is_none (broken_limit o j) ≡ is_limited o j
none-limit o null = refl
none-limit o (boolean b) = refl
none-limit o (whole z) =
    three (at_least o.minimum z) (at_most o.maximum z) (is_formed o.format z) Minimum Maximum Format
none-limit o (text s) =
    two (at_least o.min_length (pos (character_count s))) (at_most o.max_length (pos (character_count s))) MinLength MaxLength
none-limit o (list js) =
    two (at_least o.min_items (pos (item_count js))) (at_most o.max_items (pos (item_count js))) MinItems MaxItems
none-limit o (object ms) = refl

none-rule : (a b : Bool) (x y : Rule) (o : Option Rule) → is_none (unless a x (unless b y o)) ≡ a && b && is_none o
none-rule true true x y o = refl
none-rule true false x y o = refl
none-rule false b x y o = refl

none-own : (o : Own) (j : Json) → is_none (own_fault o j) ≡ has_kind o.kind j && is_chosen o.choices j && is_limited o j
none-own o j =
    none-map (broken_rule o j) ∙ none-rule (has_kind o.kind j) (is_chosen o.choices j) Kind Enum (broken_limit o j) ∙ ap (λ (b : Bool). has_kind o.kind j && is_chosen o.choices j && b) (none-limit o j)

none-in : (m : MaybeShape) (j : Json) → ((t : Shape) → is_none (fault t j) ≡ valid t j) → is_none (fault_in m (λ t. fault t j)) ≡ passes m (λ t. valid t j)
none-in no_shape j h = refl
none-in (some_shape t) j h = h t

four : (a b c d e : Bool) → (a && b && true) && (c && d) ≡ (a && b && c) && d
four true true c d e = refl
four true false c d e = refl
four false b c d e = refl

mutual
  pub agrees : (s : Shape) (j : Json) → is_none (fault s j) ≡ valid s j
  agrees s null = none-unless (own s).nullable (here Kind) None ∙ with_true (own s).nullable
  agrees s (boolean b) = none-own (own s) (boolean b)
  agrees s (whole z) = none-own (own s) (whole z)
  agrees s (text t) = none-own (own s) (text t)
  agrees s (list js) =
      none-or_else (own_fault (own s) (list js)) (items_fault (items_shape s) 0 js) ∙ ap (λ (b : Bool). is_none (own_fault (own s) (list js)) && b) (agree_items s 0 js) ∙ ap (λ (b : Bool). b && items_valid s js) (none-own (own s) (list js))
  agrees s (object ms) =
      let o = own_fault (own s) (object ms) in
      let m = missing_fault (first_missing (own s).required ms) in
      none-or_else o (or_else m (members_fault s ms)) ∙ ap (λ (b : Bool). is_none o && b) (none-or_else m (members_fault s ms))
      ∙ ap (λ (b : Bool). is_none o && (is_none m && b)) (agree_members s ms) ∙ ap (λ (b : Bool). is_none o && (b && members_valid s ms)) (none-missing (first_missing (own s).required ms) ∙ none-fold None (own s).required ms)
      ∙ ap (λ (b : Bool). b && (has_names (own s).required ms && members_valid s ms)) (none-own (own s) (object ms))
      ∙ four (has_kind (own s).kind (object ms)) (is_chosen (own s).choices (object ms)) (has_names (own s).required ms) (members_valid s ms) true

  agree_items : (s : Shape) (i : ℕ) (js : Items) → is_none (items_fault (items_shape s) i js) ≡ items_valid s js
  agree_items s i no_items = refl
  agree_items s i (item j js) =
      let f = fault_in (items_shape s) (λ t. fault t j) in
      none-or_else (under (at i) f) (items_fault (items_shape s) (i + 1) js) ∙ ap (λ (b : Bool). b && is_none (items_fault (items_shape s) (i + 1) js)) (none-under (at i) f ∙ none-in (items_shape s) j (λ t. agrees t j))
      ∙ ap (λ (b : Bool). passes (items_shape s) (λ t. valid t j) && b) (agree_items s (i + 1) js)

  agree_members : (s : Shape) (ms : Members) → is_none (members_fault s ms) ≡ members_valid s ms
  agree_members s no_members = refl
  agree_members s (member k j ms) =
      let f = fault_in (shape_for s k) (λ t. fault t j) in
      none-or_else (under (named k) f) (members_fault s ms) ∙ ap (λ (b : Bool). b && is_none (members_fault s ms)) (none-under (named k) f ∙ none-in (shape_for s k) j (λ t. agrees t j))
      ∙ ap (λ (b : Bool). passes (shape_for s k) (λ t. valid t j) && b) (agree_members s ms)

none_is : (o : Option Fault) → is_none o ≡ true → o ≡ None
none_is None h = refl
none_is (Some f) h = absurd (cc)

pub agreement : (s : Shape) (j : Json) → (fault s j ≡ None) ↔ (valid s j ≡ true)
agreement s j =
    (λ e. sym (agrees s j) ∙ ap (λ (o : Option Fault). is_none o) e, λ h. none_is (fault s j) (agrees s j ∙ h))
