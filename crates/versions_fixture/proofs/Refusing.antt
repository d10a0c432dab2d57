-- Refusals of a document of the form, and what holds of an answer.
use Rattle.std.proofs.Common.{◌≡◌, ℕ, List, Option, Some, None, true, sym, refl, subst, Bor}
use Rattle.std.specs.Prelude.{Result, Ok, Err, IfOk, IfErr, IfSome, IsSome, is_some, option_map}
use Rattle.kj_value.specs.declared.rule.Rule.{Rule}
use Rattle.kube_meta.specs.declared.object.Shape.{Shape}
use Rattle.api_calls.specs.Cause.{CauseView, cause_of}
use Rattle.api_calls.specs.Meaning.{Request}
use Rattle.api_calls.specs.Versions.{Refused}
use Rattle.api_calls.specs.declared.versions.Admitted.{Admitted}
use Rattle.api_calls.specs.declared.versions.AdmitFault.{AdmitFault}
use Rattle.api_calls.specs.declared.versions.AdmitFault.TheVariants as fault
use Rattle.versions_fixture.specs.Definition.{IsFault, IsInvalid, FixtureRefuses}

pub refused_by : (r : Request) (name field : List ℕ) (rule : Rule) (f : AdmitFault) → IsFault name field rule f
    → ((cause : CauseView) → cause ≡ record { field = field; rule = rule } → IsInvalid r name cause) → Refused (FixtureRefuses r) ⊥ f
refused_by r name field rule (fault.BadRequest why) is h = absurd is
refused_by r name field rule (fault.Invalid given cause) is h =
    subst (λ (n : List ℕ). IsInvalid r n (cause_of cause)) (sym is.0) (h (cause_of cause) is.1)
refused_by r name field rule fault.Tool is h = absurd is
refused_by r name field rule fault.NoMemory is h = absurd is

pub some_mapped : (o : Option (Bor (List ℕ))) → is_some o ≡ true → IsSome (option_map (λ s. s.now) o)
some_mapped None h = h
some_mapped (Some s) h = refl

pub without : (P : Shape → Type 0) (o : Option Shape) → o ≡ None → IfSome o P
without P o e = subst (λ (s : Option Shape). IfSome s P) (sym e) tt

pub ok_mapped : (r : Result Admitted AdmitFault) (P Q : Admitted → Type 0) → ((a : Admitted) → P a → Q a) → IfOk r P → IfOk r Q
ok_mapped (Ok a) P Q f h = f a h
ok_mapped (Err e) P Q f h = tt

pub err_mapped : (r : Result Admitted AdmitFault) (P Q : AdmitFault → Type 0) → ((e : AdmitFault) → P e → Q e) → IfErr r P → IfErr r Q
err_mapped (Ok a) P Q f h = tt
err_mapped (Err e) P Q f h = f e h
