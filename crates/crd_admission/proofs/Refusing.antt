-- A fault that one thing refuses is one that another does.
use Rattle.std.proofs.Common.{◌≡◌, sym, subst}
use Rattle.api_calls.specs.Cause.{why_of, cause_of}
use Rattle.api_calls.specs.Meaning.{Fault, bad_request, invalid}
use Rattle.api_calls.specs.Versions.{Refused}
use Rattle.api_calls.specs.declared.versions.AdmitFault.{AdmitFault}
use Rattle.api_calls.specs.declared.versions.AdmitFault.TheVariants as fault

pub refused_more : (P Q : Fault → Type 0) (e : AdmitFault) → ((f : Fault) → P f → Q f) → Refused P ⊥ e → Refused Q ⊥ e
refused_more P Q (fault.BadRequest why) h p = h (bad_request (why_of why)) p
refused_more P Q (fault.Invalid name cause) h p = h (invalid name.bytes (cause_of cause)) p
refused_more P Q fault.Tool h p = p
refused_more P Q fault.NoMemory h p = p

pub refused_as : (P : Fault → Type 0) (g : Fault) (e : AdmitFault) → P g → Refused (λ f. f ≡ g) ⊥ e → Refused P ⊥ e
refused_as P g e h p = refused_more (λ f. f ≡ g) P e (λ f same. subst P (sym same) h) p
