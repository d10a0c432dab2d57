-- A `spec` that is compared with a definition's own: when it is the same, and how many versions it has.
use Rattle.std.proofs.Common.{drop, get_or, drop-cons, ◌<◌, ◌≤◌, ◌+◌, subst, ◌≡◌, ℕ, suc, List, [], ◌∷◌, length, map, Bool, true, false, ◌&&◌, cond, Option, None, Some, refl, ap, sym, ◌∙◌, arith}
use Rattle.std.specs.Prelude.{IsTrue, ◌↔◌}
use Rattle.std.specs.Str.{bytes_eq}
use Rattle.std.proofs.lemmas.Slice.Eq.{bytes_eq-Decides}
use Rattle.std.proofs.lemmas.Map.Text.{is_eq-slice_cmp}
use Rattle.kj_value.specs.Json.{Json, null, boolean, whole, text, list, object, Items, no_items, item, Members, no_members, member, items_of, members_of}
use Rattle.kj_value.specs.Same.{json_same, items_same, members_same}
use Rattle.kj_value.specs.laws.SameLaws.{json_same-Decides}
use Rattle.kj_value.specs.Seen.{json}
use Rattle.kj_value.specs.Pair.{pair_of}
use Rattle.kj_value.specs.declared.value.JVal.{JVal}
use Rattle.kj_value.specs.declared.value.Field.{Field}
use Rattle.struct_schema.specs.Names.{is_name, value_at}
use Rattle.struct_schema.specs.laws.LookupLaws.{one_test}
use Rattle.api_calls.specs.Versions.{AreFlags}
use Rattle.api_calls.specs.declared.flags.Flags.{Flags}
use Rattle.crd_reading.specs.View.{DefinitionView}
use Rattle.crd_reading.specs.Offered.{storages, some_served}
use Rattle.crd_reading.specs.Spelled.{items_in, versions_read}
use Rattle.crd_reading.specs.Whole.{IsWholeDefinition}
use Rattle.crd_settings.specs.Flags.{IsOwnSpec, at_name, flags_of, flagged, version_with, list_with, mark_in, spec_fields, spec_value, spec_with, versions_given, versions_name, versions_with}
use Rattle.crd_settings.specs.declared.parts.Mark.{Mark}
use Rattle.crd_settings.proofs.Marks.{own_versions}
use Rattle.crd_settings.proofs.Legal.{are_flags}

pub same_test : (r : Bool) (a b : Json) → (IsTrue r ↔ (a ≡ b)) → r ≡ json_same a b
same_test r a b h = one_test r (json_same a b) (λ p. (json_same-Decides a b).1 (h.0 p)) (λ p. h.1 ((json_same-Decides a b).0 p))

-- ---- lists of other lengths differ

and_false : (a b : Bool) → b ≡ false → false ≡ (a && b)
and_false true b h = sym h
and_false false b h = refl

pub flagged_differ : (m : Mark) (xs ys : List Field) → (length xs ≡ length ys → ⊥)
    → false ≡ members_same (members_of (map pair_of xs)) (flagged m (members_of (map pair_of ys)))
flagged_differ m [] [] h = absurd (h refl)
flagged_differ m (x ∷ xs) (y ∷ ys) h = and_false _ _ (sym (flagged_differ m xs ys (λ e. h (omega (arith, e)))))
flagged_differ m _ _ h = refl

pub fields_differ : (m : ℕ → Mark) (xs ys : List Field) → (length xs ≡ length ys → ⊥)
    → false ≡ members_same (members_of (map pair_of xs)) (spec_fields m (members_of (map pair_of ys)))
fields_differ m [] [] h = absurd (h refl)
fields_differ m (x ∷ xs) (y ∷ ys) h = and_false _ _ (sym (fields_differ m xs ys (λ e. h (omega (arith, e)))))
fields_differ m _ _ h = refl

pub versions_differ : (m : ℕ → Mark) (v : ℕ) (xs ys : List JVal) → (length xs ≡ length ys → ⊥)
    → false ≡ items_same (items_of (map json xs)) (versions_with m v (items_of (map json ys)))
versions_differ m v [] [] h = absurd (h refl)
versions_differ m v (x ∷ xs) (y ∷ ys) h = and_false _ _ (sym (versions_differ m (suc v) xs ys (λ e. h (omega (arith, e)))))
versions_differ m v _ _ h = refl

-- ---- how many versions there are

length-with : (m : ℕ → Mark) (v : ℕ) (js : Items) → length (versions_read (versions_with m v js)) ≡ length (versions_read js)
length-with m v no_items = refl
length-with m v (item j js) = ap suc (length-with m (suc v) js)

length-list : (m : ℕ → Mark) (o : Option Json) (p : Option Json) → ((j : Json) → o ≡ Some j → p ≡ Some (list_with m j)) → (o ≡ None → p ≡ None)
    → length (versions_read (items_in p)) ≡ length (versions_read (items_in o))
length-list m None p some none = rw (none refl) refl
length-list m (Some j) p some none = rw (some j refl) (by j)
  where
    by : (j : Json) → length (versions_read (items_in (Some (list_with m j)))) ≡ length (versions_read (items_in (Some j)))
    by null = refl
    by (boolean b) = refl
    by (whole z) = refl
    by (text t) = refl
    by (list js) = length-with m 0 js
    by (object ms) = refl

with_at : (m : ℕ → Mark) (o : Option Json) → Option Json
with_at m None = None
with_at m (Some j) = Some (list_with m j)

named_so : (n k : List ℕ) → is_name n k ≡ true → bytes_eq k n ≡ true
named_so n k h = (bytes_eq-Decides k n).1 (sym ((bytes_eq-Decides n k).0 (sym (is_eq-slice_cmp n k) ∙ h)))

value-with : (m : ℕ → Mark) (ms : Members) → value_at versions_name (spec_fields m ms) ≡ with_at m (value_at versions_name ms)
unfolding with_at
value-with m no_members = refl
value-with m (member k j ms) = by (is_name versions_name k) refl (value-with m ms)
  where
    by : (b : Bool) → is_name versions_name k ≡ b → value_at versions_name (spec_fields m ms) ≡ with_at m (value_at versions_name ms)
        → cond b (Some (spec_value m k j)) (value_at versions_name (spec_fields m ms)) ≡ with_at m (cond b (Some j) (value_at versions_name ms))
    by true is more = let named = named_so versions_name k is in rw named refl
    by false is more = more

length-spec : (m : ℕ → Mark) (spec : Json) → length (versions_given (Some (spec_with m spec))) ≡ length (versions_given (Some spec))
unfolding with_at
length-spec m null = refl
length-spec m (boolean b) = refl
length-spec m (whole z) = refl
length-spec m (text t) = refl
length-spec m (list js) = refl
length-spec m (object ms) = by (value_at versions_name ms) (value_at versions_name (spec_fields m ms)) (value-with m ms)
  where
    by : (o p : Option Json) → p ≡ with_at m o → length (versions_read (items_in p)) ≡ length (versions_read (items_in o))
    by None p is = rw is refl
    by (Some j) p is = length-list m (Some j) p (λ i e. (let same : j ≡ i = cc in is ∙ ap (λ (x : Json). Some (list_with m x)) same)) (λ e. absurd cc)

pub length-own : (d : DefinitionView) (given : Option Json) → IsWholeDefinition d → IsOwnSpec d given → length (versions_given given) ≡ length d.versions
length-own d given w own =
    ap (λ (o : Option Json). length (versions_given o)) own
    ∙ (length-spec (mark_in (versions_given given)) d.spec ∙ ap length (own_versions d w))

-- a `spec` that is compared with a definition's own
own_value : (d : DefinitionView) (j own : Json) (js : Items) (r : Bool) → js ≡ items_in (at_name versions_name (Some j)) → own ≡ d.spec
    → r ≡ json_same j (spec_with (mark_in (versions_read js)) own) → IsTrue r ↔ IsOwnSpec d (Some j)
own_value d j own js r same its e =
    let wanted : r ≡ json_same j (spec_with (mark_in (versions_given (Some j))) d.spec) =
    e ∙ ap (λ (x : Json). json_same j (spec_with (mark_in (versions_read js)) x)) its
    ∙ ap (λ (is : Items). json_same j (spec_with (mark_in (versions_read is)) d.spec)) same in
    let both = json_same-Decides j (spec_with (mark_in (versions_given (Some j))) d.spec) in
    ((λ h. ap (λ (x : Json). Some x) (both.0 (sym wanted ∙ h))), (λ h. wanted ∙ both.1 (let inner : j ≡ spec_with (mark_in (versions_given (Some j))) d.spec = cc in inner)))

pub own_test : (d : DefinitionView) (o : Option Json) (j own : Json) (js : Items) (r : Bool) → o ≡ Some j → js ≡ items_in (at_name versions_name (Some j)) → own ≡ d.spec
    → r ≡ json_same j (spec_with (mark_in (versions_read js)) own) → IsTrue r ↔ IsOwnSpec d o
own_test d o j own js r there same its e = subst (λ (p : Option Json). IsTrue r ↔ IsOwnSpec d p) (sym there) (own_value d j own js r same its e)

-- ---- its versions are few, and their flags are legal

length-items : (js : List JVal) → length (versions_read (items_of (map json js))) ≡ length js
length-items [] = refl
length-items (j ∷ js) = ap suc (length-items js)

count-own : (d : DefinitionView) (given : Option Json) (items : List JVal) → IsWholeDefinition d → IsOwnSpec d given
    → items_of (map json items) ≡ items_in (at_name versions_name given) → length (versions_read (items_of (map json items))) ≡ length d.versions
count-own d given items w own same = ap (λ (is : Items). length (versions_read is)) same ∙ length-own d given w own

pub few-own : (d : DefinitionView) (given : Option Json) (items : List JVal) → IsWholeDefinition d → IsOwnSpec d given
    → items_of (map json items) ≡ items_in (at_name versions_name given) → length items ≤ 8
few-own d given items w own same =
    omega (arith, length-items items, count-own d given items w own same, w.most)

pub legal-own : (d : DefinitionView) (given : Option Json) (items : List JVal) (f : Flags) → IsWholeDefinition d → IsOwnSpec d given
    → items_of (map json items) ≡ items_in (at_name versions_name given) → f ≡ flags_of (versions_read (items_of (map json items)))
    → storages (versions_read (items_of (map json items))) ≡ 1 → some_served (versions_read (items_of (map json items))) ≡ true → AreFlags (length d.versions) f
legal-own d given items f w own same is one some =
    let count = count-own d given items w own same in
    let few : length (versions_read (items_of (map json items))) ≤ 8 = omega (arith, length-items items, few-own d given items w own same) in
    let legal = are_flags (versions_read (items_of (map json items))) few one some in
    subst (λ (g : Flags). AreFlags (length d.versions) g) (sym is) (subst (λ (n : ℕ). AreFlags n (flags_of (versions_read (items_of (map json items))))) count legal)

pub few-loaded : (d : DefinitionView) (items : List JVal) → IsWholeDefinition d → items_of (map json items) ≡ items_in (at_name versions_name (Some d.spec)) → length items ≤ 8
few-loaded d items w same =
    let count = ap (λ (is : Items). length (versions_read is)) same ∙ ap length (own_versions d w) in
    omega (arith, length-items items, count, w.most)

pub flags-loaded : (d : DefinitionView) (items : List JVal) → IsWholeDefinition d → items_of (map json items) ≡ items_in (at_name versions_name (Some d.spec))
    → flags_of (versions_read (items_of (map json items))) ≡ flags_of d.versions
flags-loaded d items w same = ap (λ (is : Items). flags_of (versions_read is)) same ∙ ap flags_of (own_versions d w)

pub legal-loaded : (d : DefinitionView) → IsWholeDefinition d → AreFlags (length d.versions) (flags_of d.versions)
legal-loaded d w = are_flags d.versions w.most w.offered.one_storage w.offered.some_served

-- ---- the loops over two lists

drop_at : {A : Type 0} (xs : List A) (i : ℕ) (x : A) → i < length xs → x ≡ get_or xs i x → drop i xs ≡ x ∷ drop (i + 1) xs
drop_at xs i x h e = let next : i + 1 ≡ suc i = omega arith in rw next (drop-cons xs i x h ∙ ap (λ y. y ∷ drop (suc i) xs) (sym e))

pub versions-step : (m : ℕ → Mark) (v : ℕ) (xs ys : List JVal) (x y : JVal) → v < length xs → v < length ys → x ≡ get_or xs v x → y ≡ get_or ys v y
    → items_same (items_of (map json (drop v xs))) (versions_with m v (items_of (map json (drop v ys))))
    ≡ (json_same (json x) (version_with (m v) (json y)) && items_same (items_of (map json (drop (v + 1) xs))) (versions_with m (v + 1) (items_of (map json (drop (v + 1) ys)))))
versions-step m v xs ys x y h k d e =
    let next : v + 1 ≡ suc v = omega arith in
    rw (drop_at xs v x h d, drop_at ys v y k e, next) refl
