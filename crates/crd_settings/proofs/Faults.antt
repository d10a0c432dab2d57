-- Faults that tell what is refused.
use Rattle.std.proofs.Common.{◌≡◌, ℕ, List, Option, None, Some, ap, sym, subst, Decides}
use Rattle.std.proofs.lemmas.Slice.Eq.{bytes_eq-Decides}
use Rattle.kj_value.specs.Json.{Json, null, boolean, whole, text, list, object}
use Rattle.kj_value.specs.declared.rule.Rule.{Rule}
use Rattle.schema_reading.specs.Allowed.{is_text}
use Rattle.api_calls.specs.Cause.{CauseView, cause_of, why_of}
use Rattle.api_calls.specs.Meaning.{Fault, bad_request, invalid}
use Rattle.api_calls.specs.Versions.{Refused}
use Rattle.api_calls.specs.declared.versions.AdmitFault.{AdmitFault}
use Rattle.api_calls.specs.declared.versions.AdmitFault.TheVariants as fault
use Rattle.crd_settings.specs.Body.{IsFault, says}

-- a fault that tells one thing tells what follows of it
pub weaker : (P Q : Fault → Type 0) (e : AdmitFault) → ((f : Fault) → P f → Q f) → Refused P ⊥ e → Refused Q ⊥ e
weaker P Q (fault.BadRequest why) g h = g (bad_request (why_of why)) h
weaker P Q (fault.Invalid name cause) g h = g (invalid name.bytes (cause_of cause)) h
weaker P Q fault.Tool g h = h
weaker P Q fault.NoMemory g h = tt

pub told : (Q : Fault → Type 0) (name path : List ℕ) (broken : Rule) (e : AdmitFault) → IsFault name path broken e
    → Q (invalid name (record { field = path; rule = broken })) → Refused Q ⊥ e
told Q name path broken (fault.BadRequest why) h q = absurd h
told Q name path broken (fault.Invalid given cause) h q =
    subst (λ (n : List ℕ). Q (invalid n (cause_of cause))) (sym h.0) (subst (λ (c : CauseView). Q (invalid name c)) (sym h.1) q)
told Q name path broken fault.Tool h q = absurd h
told Q name path broken fault.NoMemory h q = absurd h

-- ---- a text that stands there

is_text-Decides : (s : List ℕ) (j : Json) → Decides (is_text s j) (j ≡ text s)
is_text-Decides s null = ((λ h. absurd cc), (λ e. absurd cc))
is_text-Decides s (boolean b) = ((λ h. absurd cc), (λ e. absurd cc))
is_text-Decides s (whole z) = ((λ h. absurd cc), (λ e. absurd cc))
is_text-Decides s (text t) =
    ((λ h. ap text ((bytes_eq-Decides t s).0 h)), (λ e. (bytes_eq-Decides t s).1 (let same : t ≡ s = cc in same)))
is_text-Decides s (list js) = ((λ h. absurd cc), (λ e. absurd cc))
is_text-Decides s (object ms) = ((λ h. absurd cc), (λ e. absurd cc))

pub says-Decides : (s : List ℕ) (o : Option Json) → Decides (says s o) (o ≡ Some (text s))
says-Decides s None = ((λ h. absurd cc), (λ e. absurd cc))
says-Decides s (Some j) =
    ((λ h. ap (λ (k : Json). Some k) ((is_text-Decides s j).0 h)), (λ e. (is_text-Decides s j).1 cc))
