use Rattle.std.proofs.Common.{◌≡◌, ◌∙◌, List, ℕ}
use Rattle.kj_value.specs.Seen.{json}
use Rattle.api_calls.specs.Cause.{why_of, cause_of}
use Rattle.api_calls.specs.Meaning.{Fault, bad_request, invalid}
use Rattle.api_calls.specs.Versions.{Refused}
use Rattle.crd_meaning.specs.Unconverted.{IsUnconverted}
use Rattle.crd_versions.specs.Set.{definition_of}
use Rattle.kubeconv_cmd.specs.Tasks.{IsWithout, fault_words}
use Rattle.kubeconv_cmd.proofs.TaskLemmas.{from_loaded, only_input}
use Rattle.kubeconv_cmd.proofs.tasks.convert_document.Goals as goal

pub returns-in-Err-BadRequest-clause-none : goal.returns-in-Err-BadRequest-clause-none
unfolding fault_words
returns-in-Err-BadRequest-clause-none c =
    let d = definition_of c.args.versions.now in
    let why : Refused (IsUnconverted d (json c.args.document)) ⊥ c.in-Err-BadRequest.field-0 = c.in-Err-BadRequest.ensures.refused in
    let is : IsUnconverted d (json c.args.document) (bad_request (why_of c.in-Err-BadRequest.why)) = rw c.in-Err-BadRequest.field-0-is at why in
    only_input (λ (text : List ℕ). text ≡ c.word.result.now) (λ (text : List ℕ). (f : Fault) × IsWithout d c.args.to (json c.args.document) f × (text ≡ fault_words f)) c.refused.result
    (λ text e. (
      bad_request (why_of c.in-Err-BadRequest.why),
      record {
        none = λ k h. from_loaded d c.args.versions.now.loaded (λ l. c.one_value.ensures.excludes d l (json c.args.document) c.args.to k _ h is);
        why = is;
      },
      e ∙ c.word.ensures,
    )) c.refused.ensures

pub returns-in-Err-Invalid-clause-none : goal.returns-in-Err-Invalid-clause-none
returns-in-Err-Invalid-clause-none c =
    let d = definition_of c.args.versions.now in
    let why : Refused (IsUnconverted d (json c.args.document)) ⊥ c.in-Err-Invalid.field-0 = c.in-Err-Invalid.ensures.refused in
    let is : IsUnconverted d (json c.args.document) (invalid c.in-Err-Invalid.field-0-0.bytes (cause_of c.in-Err-Invalid.cause)) = rw c.in-Err-Invalid.field-0-is at why in
    only_input (λ (text : List ℕ). text ≡ fault_words (invalid c.in-Err-Invalid.field-0-0.bytes (cause_of c.in-Err-Invalid.cause))) (λ (text : List ℕ). (f : Fault) × IsWithout d c.args.to (json c.args.document) f × (text ≡ fault_words f)) c.broken.result
    (λ text e. (
      invalid c.in-Err-Invalid.field-0-0.bytes (cause_of c.in-Err-Invalid.cause),
      record {
        none = λ k h. from_loaded d c.args.versions.now.loaded (λ l. c.one_value.ensures.excludes d l (json c.args.document) c.args.to k _ h is);
        why = is;
      },
      e,
    )) (c.broken.ensures c.in-Err-Invalid.field-0-0.bytes)
