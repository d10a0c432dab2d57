-- What is known of a field of which a text, an object or a list is known.
use Rattle.std.proofs.Common.{◌≡◌, ℕ, List, Option, Some, None, Result, Ok, Err, refl, ap}
use Rattle.std.specs.Prelude.{is_none, IfOk, IfErr, MatchOption, MatchResult, option_map, false}
use Rattle.std.specs.Str.{bytes_eq}
use Rattle.kj_value.specs.Json.{Json}
use Rattle.kj_value.specs.Fields.{Pairs}
use Rattle.kj_value.specs.KindLaws.{text_known}
use Rattle.object_reading.specs.Fields.{object_at}
use Rattle.review_forms.specs.Form.{text_in, object_in, has_text}

pub text_there : (o : Option Json) (s wanted : List ℕ) → text_in o ≡ Some s → has_text wanted o ≡ bytes_eq s wanted
text_there None s wanted e = absurd (cc)
text_there (Some j) s wanted e = ap (λ (k : Json). has_text wanted (Some k)) (text_known j s e)

pub object_there : (o : Option Json) (es : Pairs) → object_in o ≡ Some es → object_at o ≡ es
object_there None es e = absurd (cc)
object_there (Some j) es e = rw e refl

pub is_there : {A : Type 0} (o : Option A) (x : A) → o ≡ Some x → is_none o ≡ false
is_there o x e = ap is_none e

pub none_mapped : {A B : Type 0} (f : A → B) (o : Option A) → option_map f o ≡ None → o ≡ None
none_mapped f None e = refl
none_mapped f (Some x) e = absurd (cc)

-- ---- from one fact of a result to another

pub ok_from : {A E : Type 0} (P Q : A → Type 0) (r : Result A E) → ((x : A) → P x → Q x) → IfOk r P → IfOk r Q
ok_from P Q (Ok x) go h = go x h
ok_from P Q (Err e) go h = tt

pub err_from : {A E : Type 0} (P Q : E → Type 0) (r : Result A E) → ((e : E) → P e → Q e) → IfErr r P → IfErr r Q
err_from P Q (Ok x) go h = tt
err_from P Q (Err e) go h = go e h

pub when_ok : {A E : Type 0} (P : A → Type 0) (Q : E → Type 0) (r : Result A E) (x : A) → r ≡ Ok x → MatchResult r P Q → P x
when_ok P Q r x e h = rw e at h

pub when_err : {A E : Type 0} (P : A → Type 0) (Q : E → Type 0) (r : Result A E) (x : E) → r ≡ Err x → MatchResult r P Q → Q x
when_err P Q r x e h = rw e at h

pub when_none : {A : Type 0} (P : Type 0) (Q : A → Type 0) (o : Option A) → o ≡ None → MatchOption o P Q → P
when_none P Q o e h = rw e at h

pub when_some : {A : Type 0} (P : Type 0) (Q : A → Type 0) (o : Option A) (x : A) → o ≡ Some x → MatchOption o P Q → Q x
when_some P Q o x e h = rw e at h
