-- One object of a request after another.
use Rattle.std.proofs.Common.{◌≡◌, ℕ, suc, ◌≤◌, List, [], ◌∷◌, ◌++◌, length, take, drop, Some, refl, ap, ap₂, sym, subst, ◌∙◌, append_assoc}
use Rattle.std.specs.Prelude.{slice_get}
use Rattle.std.proofs.lemmas.List.{length-take-le}
use Rattle.kj_value.specs.Json.{Json, items_of}
use Rattle.kj_value.specs.Text.{text_of, items_text}
use Rattle.crd_meaning.specs.Definition.{Definition}
use Rattle.crd_meaning.specs.Converted.{IsConverted}
use Rattle.review_forms.specs.Page.{PageView}
use Rattle.review_batch.specs.Answer.{AreConverted, IsFirstWithout, blame}
use Rattle.review_forms.specs.Spelling.{comma_before}
use Rattle.review_batch.specs.inner.Steps.{HasValue, HasNone, GoesOn}
use Rattle.review_forms.proofs.Snoc.{items-snoc, take-snoc, split_at}

-- what is known in the loop
pub record Along (d : Definition) (v : ℕ) (js rest : List Json) (i : ℕ) (before now : PageView) : Type 0 where
  pub left : drop i rest ≡ drop i js
  pub long : length rest ≡ length js
  pub done : GoesOn d v (take i js) before now

module _ (d : Definition) (v : ℕ) where
  are_more : (js ks : List Json) (j k : Json) → AreConverted d v js ks → IsConverted d j v k → AreConverted d v (js ++ j ∷ []) (ks ++ k ∷ [])
  are_more [] [] j k h c = (c, tt)
  are_more [] (y ∷ ks) j k h c = absurd h
  are_more (x ∷ js) [] j k h c = absurd h
  are_more (x ∷ js) (y ∷ ks) j k h c = (h.0, are_more js ks j k h.1 c)

  as_long : (js ks : List Json) → AreConverted d v js ks → length ks ≡ length js
  as_long [] [] h = refl
  as_long [] (y ∷ ks) h = absurd h
  as_long (x ∷ js) [] h = absurd h
  as_long (x ∷ js) (y ∷ ks) h = ap suc (as_long js ks h.1)

  module _ (js : List Json) (i : ℕ) (j : Json) (before now : PageView) (there : slice_get js i ≡ Some j) (within : i ≤ length js) (g : GoesOn d v (take i js) before now) where
    pub goes_on : (s : List ℕ) (after : PageView) → HasValue d v j s → after ≡ record now { text = (now.text ++ comma_before i) ++ s }
        → GoesOn d v (take (suc i) js) before after
    goes_on s after h e = record {
      values = g.values ++ h.value ∷ [];
      converted = subst (λ (xs : List Json). AreConverted d v xs (g.values ++ h.value ∷ [])) (sym (take-snoc js i j there)) (are_more (take i js) g.values j h.value g.converted h.converted);
      added = e ∙ (ap (λ (p : PageView). record p { text = (p.text ++ comma_before i) ++ s }) g.added ∙ ap (λ (t : List ℕ). record before { text = t }) longer);
    }
      where
        at_place : comma_before i ≡ comma_before (length g.values)
        at_place = ap comma_before (sym (as_long (take i js) g.values g.converted ∙ length-take-le i js within))

        longer : ((before.text ++ items_text (items_of g.values)) ++ comma_before i) ++ s ≡ before.text ++ items_text (items_of (g.values ++ h.value ∷ []))
        longer =
            ap₂ (λ (c t : List ℕ). ((before.text ++ items_text (items_of g.values)) ++ c) ++ t) at_place h.spelled
            ∙ (grouped before.text (items_text (items_of g.values)) (comma_before (length g.values)) (text_of h.value)
            ∙ ap (λ (t : List ℕ). before.text ++ t) (sym (items-snoc g.values h.value)))
          where
            grouped : (a b c e : List ℕ) → ((a ++ b) ++ c) ++ e ≡ a ++ (b ++ (c ++ e))
            grouped a b c e = simp append_assoc

    pub first_without : (message : List ℕ) → HasNone d v j i message → IsFirstWithout d v js message
    first_without message h = record {
      before = take i js;
      first = j;
      after = drop (suc i) js;
      there = split_at js i j there;
      values = g.values;
      converted = g.converted;
      none = h.none;
      name = h.name;
      cause = h.cause;
      why = h.why;
      told = h.told ∙ ap (λ n. blame n h.cause) (sym (length-take-le i js within));
    }
