-- What places say of a list, and how they are made from its end.
use Rattle.std.proofs.Common.{◌≡◌, ℕ, suc, ◌+◌, ◌-◌, ◌<◌, ◌≤◌, ℤ, List, [], ◌∷◌, length, get_or, drop, map, Bool, true, false, cond, Option, Some, None, refl, subst, ap, sym, ◌∙◌, arith, drop-cons}
use Rattle.std.specs.Prelude.{is_some, ◌||◌, String, string_bytes, string_eq}
use Rattle.std.specs.List.{list_any}
use Rattle.std.specs.Str.{bytes_eq}
use Rattle.std.specs.HashMap.{HashMap, get_by, get_by_text, IsEmpty, UpdatesBy}
use Rattle.std.specs.Map.{lookup}
use Rattle.std.specs.Ordering.{int_eq}
use Rattle.std.proofs.Math.Seq.{drop-length}
use Rattle.std.proofs.lemmas.Map.Text.{hash_map_updates_text}
use Rattle.std.proofs.lemmas.Slice.Eq.{bytes_eq-Decides}
use Rattle.kj_value.specs.Json.{Json, null, boolean, whole, text, list, object, Items, Members}
use Rattle.kj_value.specs.Same.{json_same}
use Rattle.struct_schema.specs.laws.LookupLaws.{one_test}
use Rattle.struct_schema.specs.Places.{first_from, ArePlaces}
use Rattle.struct_schema.specs.declared.places.Places.{Places}

-- ---- membership

there : {X : Type 0} (b : Bool) (x : X) (o : Option X) → is_some (cond b (Some x) o) ≡ (b || is_some o)
there true x o = refl
there false x o = refl

both_ways : (k l : List ℕ) → bytes_eq k l ≡ bytes_eq l k
both_ways k l =
    one_test (bytes_eq k l) (bytes_eq l k) (λ h. (bytes_eq-Decides l k).1 (sym ((bytes_eq-Decides k l).0 h))) (λ h. (bytes_eq-Decides k l).1 (sym ((bytes_eq-Decides l k).0 h)))

pub some_among : (j : Json) (js : List Json) (i : ℕ) → is_some (first_from i j js) ≡ list_any (λ c. json_same c j) js
some_among j [] i = refl
some_among j (x ∷ xs) i =
    there (json_same x j) i (first_from (i + 1) j xs) ∙ ap (λ (b : Bool). json_same x j || b) (some_among j xs (i + 1))

pub some_named : (k : List ℕ) (ns : List (List ℕ)) (i : ℕ) → is_some (first_from i (text k) (map text ns)) ≡ list_any (λ n. bytes_eq k n) ns
some_named k [] i = refl
some_named k (n ∷ ns) i =
    there (bytes_eq n k) i (first_from (i + 1) (text k) (map text ns)) ∙ ap (λ (b : Bool). bytes_eq n k || b) (some_named k ns (i + 1)) ∙ ap (λ (b : Bool). b || list_any (λ m. bytes_eq k m) ns) (both_ways n k)

-- ---- no value

pub none_text : {Y S : Type 0} (m : HashMap (String Y) ℕ S) → IsEmpty m → (t : List ℕ) → get_by_text m t ≡ None
none_text {Y} m e t =
    ap (λ (es : List (String Y × ℕ)). lookup (λ s. bytes_eq t (string_bytes s)) es) e

pub none_whole : {S : Type 0} (m : HashMap ℤ ℕ S) → IsEmpty m → (z : ℤ) → get_by (int_eq z) m ≡ None
none_whole m e z = ap (λ (es : List (ℤ × ℕ)). lookup (int_eq z) es) e

-- ---- one more value, before the others

pub text_after : {Y S : Type 0} (m n : HashMap (String Y) ℕ S) (bs k : List ℕ) (i : ℕ) (js : List Json) → bs ≡ k → UpdatesBy string_eq (λ s. bytes_eq bs (string_bytes s)) m n (Some i) → ((t : List ℕ) → get_by_text m t ≡ first_from (i + 1) (text t) js)
    → (t : List ℕ) → get_by_text n t ≡ first_from i (text t) (text k ∷ js)
text_after m n bs k i js same u h t =
    hash_map_updates_text bs m n (Some i) u t ∙ ap (λ (b : List ℕ). cond (bytes_eq b t) (Some i) (get_by_text m t)) same ∙ ap (λ (o : Option ℕ). cond (bytes_eq k t) (Some i) o) (h t)

pub null_before : (p : Places) (i : ℕ) (js : List Json) → ArePlaces p (i + 1) js → ArePlaces p i (null ∷ js)
null_before p i js h = record { texts = h.texts; wholes = h.wholes }

pub boolean_before : (p : Places) (i : ℕ) (b : Bool) (js : List Json) → ArePlaces p (i + 1) js → ArePlaces p i (boolean b ∷ js)
boolean_before p i b js h = record { texts = h.texts; wholes = h.wholes }

pub list_before : (p : Places) (i : ℕ) (xs : Items) (js : List Json) → ArePlaces p (i + 1) js → ArePlaces p i (list xs ∷ js)
list_before p i xs js h = record { texts = h.texts; wholes = h.wholes }

pub object_before : (p : Places) (i : ℕ) (ms : Members) (js : List Json) → ArePlaces p (i + 1) js → ArePlaces p i (object ms ∷ js)
object_before p i ms js h = record { texts = h.texts; wholes = h.wholes }

-- ---- from the end of a list xs, whose values are those of g

module _ {A : Type 0} (g : List A → List Json) where
  pub at_end : (p : Places) (xs : List A) (n : ℕ) → n ≡ length xs → g [] ≡ [] → ((i : ℕ) → ArePlaces p i []) → ArePlaces p n (g (drop n xs))
  at_end p xs n e b h =
      subst (λ (js : List Json). ArePlaces p n js) (sym (ap (λ (k : ℕ). g (drop k xs)) e ∙ ap g (drop-length xs) ∙ b)) (h n)

  pub one_before : (p q : Places) (xs : List A) (n : ℕ) (x : A) (j : Json) → 0 < n → n ≤ length xs → x ≡ get_or xs (n - 1) x → ((ys : List A) → g (x ∷ ys) ≡ j ∷ g ys) → ((js : List Json) → ArePlaces p (n - 1 + 1) js → ArePlaces q (n - 1) (j ∷ js)) → ArePlaces p n (g (drop n xs))
      → ArePlaces q (n - 1) (g (drop (n - 1) xs))
  one_before p q xs n x j more within is split put h =
      let same : n ≡ n - 1 + 1 = omega arith in
      let next : suc (n - 1) ≡ n = omega arith in
      let here : n - 1 < length xs = omega arith in
      let whole_is : drop (n - 1) xs ≡ x ∷ drop n xs = drop-cons xs (n - 1) x here ∙ ap (λ (y : A). y ∷ drop (suc (n - 1)) xs) (sym is) ∙ ap (λ (k : ℕ). x ∷ drop k xs) next in
      subst (λ (js : List Json). ArePlaces q (n - 1) js) (sym (ap g whole_is ∙ split (drop n xs))) (put (g (drop n xs)) (subst (λ (k : ℕ). ArePlaces p k (g (drop n xs))) same h))

  pub from_start : (p : Places) (xs : List A) (n : ℕ) → n ≤ 0 → ArePlaces p n (g (drop n xs)) → ArePlaces p 0 (g xs)
  from_start p xs n e h =
      let none : n ≡ 0 = omega arith in
      subst (λ (k : ℕ). ArePlaces p k (g (drop k xs))) none h
