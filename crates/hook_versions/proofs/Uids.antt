-- Whether a document gives a uid.
use Rattle.std.proofs.Common.{◌≡◌, ◌∙◌, ℕ, List, [], Bool, true, false, Option, Some, None, refl, ap, sym, subst}
use Rattle.std.specs.Prelude.{codes, is_some, unwrap_or, option_map}
use Rattle.kj_value.specs.Json.{Json}
use Rattle.kj_value.specs.Kinds.{as_object, as_text}
use Rattle.kj_value.specs.Fields.{Pairs, field}
use Rattle.object_reading.specs.Fields.{object_at, text_at}
use Rattle.object_reading.specs.Parts.{meta_in, parts_in, whole_in}
use Rattle.hook_versions.specs.inner.Steps.{IsFieldsAt}

fields_uid : Option Pairs → Option (List ℕ)
fields_uid o = (parts_in (unwrap_or o [])).meta.uid

none_there : fields_uid None ≡ None
unfolding meta_in fields_uid
none_there = refl

metadata_uid : (es : Pairs) → (parts_in es).meta.uid ≡ text_at (field (codes "uid") (object_at (field (codes "metadata") es)))
unfolding meta_in
metadata_uid es = refl

pub no_object : (j : Json) → None ≡ as_object j → false ≡ is_some (whole_in j).meta.uid
unfolding fields_uid
no_object j e = sym (ap is_some (ap fields_uid (sym e) ∙ none_there))

pub uid_of : (j : Json) (es : Pairs) → Some es ≡ as_object j → (parts_in es).meta.uid ≡ (whole_in j).meta.uid
unfolding fields_uid
uid_of j es e = ap fields_uid e

pub uid_in : (es ms : Pairs) → object_at (field (codes "metadata") es) ≡ ms → text_at (field (codes "uid") ms) ≡ (parts_in es).meta.uid
uid_in es ms f = sym (metadata_uid es ∙ ap (λ (m : Pairs). text_at (field (codes "uid") m)) f)

pub not_given : (o : Option (List ℕ)) → is_some o ≡ false → o ≡ None
not_given None e = refl
not_given (Some s) e = absurd (cc)

pub is_given : (o u : Option (List ℕ)) → is_some o ≡ true → o ≡ u → u ≡ None → ⊥
is_given None u e p q = absurd (cc)
is_given (Some s) u e p q = absurd (cc)

-- ---- what stands at a name

pub fields_at : (es : Pairs) (name : List ℕ) (j : Json) (o : Option Pairs) → Some j ≡ field name es → o ≡ as_object j → IsFieldsAt es name o
fields_at es name j None e f = ap object_at (sym e) ∙ ap (λ (p : Option Pairs). unwrap_or p []) (sym f)
fields_at es name j (Some ms) e f = ap object_at (sym e) ∙ ap (λ (p : Option Pairs). unwrap_or p []) (sym f)

pub no_fields_at : (es : Pairs) (name : List ℕ) → None ≡ field name es → IsFieldsAt es name None
no_fields_at es name e = ap object_at (sym e)

is_there : {A : Type 0} (f : A → List ℕ) (r : Option A) → is_some r ≡ is_some (option_map f r)
is_there f None = refl
is_there f (Some a) = refl

pub text_there : {A : Type 0} (f : A → List ℕ) (r : Option A) (es : Pairs) (name : List ℕ) (j : Json) → Some j ≡ field name es → option_map f r ≡ as_text j
    → is_some r ≡ is_some (text_at (field name es))
text_there f r es name j e g = is_there f r ∙ ap is_some (g ∙ ap text_at e)

pub no_text_there : (es : Pairs) (name : List ℕ) → None ≡ field name es → false ≡ is_some (text_at (field name es))
no_text_there es name e = ap (λ (o : Option Json). is_some (text_at o)) e
