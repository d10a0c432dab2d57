use Rattle.std.proofs.Common.{◌≡◌, ◌∙◌, List, ℕ, refl}
use Rattle.kj_value.specs.Fault.{IsRefusedJson}
use Rattle.kj_value.specs.Seen.{json}
use Rattle.api_calls.specs.Cause as why
use Rattle.api_calls.specs.Meaning.{Fault, bad_request}
use Rattle.api_calls.specs.Readings as finding
use Rattle.api_calls.specs.Readings.{IsFaulty}
use Rattle.api_calls.specs.declared.versions.TheConstants.{OBJECT_LEVELS}
use Rattle.crd_versions.specs.Set.{definition_of}
use Rattle.kubeconv_cmd.specs.Tasks.{IsWithout, fault_words}
use Rattle.kubeconv_cmd.proofs.TaskLemmas.{only_input, on_err}
use Rattle.kubeconv_cmd.proofs.tasks.convert_bytes.Goals as goal

pub returns-in-Ok-clause-none : goal.returns-in-Ok-clause-none
returns-in-Ok-clause-none c =
    let d = definition_of c.args.versions.now in
    on_err ⊥ ⊥ ⊥ ⊥ (λ (text : List ℕ). (f : Fault) × IsWithout d c.args.to (json c.in-Ok.document) f × (text ≡ fault_words f)) (λ (text : List ℕ). (f : Fault) × IsFaulty c.args.bytes.now OBJECT_LEVELS (IsWithout d c.args.to) f × (text ≡ fault_words f)) c.convert_document.result
    (λ x. x) (λ x. x) (λ text h. (h.0, record { finding = finding.value (json c.in-Ok.document); finds = c.in-Ok.ensures.ok; follows = h.1 }, h.2)) c.convert_document.ensures.none

pub returns-in-Err-NotJson-clause-none : goal.returns-in-Err-NotJson-clause-none
unfolding fault_words
returns-in-Err-NotJson-clause-none c =
    let d = definition_of c.args.versions.now in
    let found : IsRefusedJson c.args.bytes.now OBJECT_LEVELS c.in-Err-NotJson.field-0 = c.in-Err-NotJson.ensures.err in
    only_input (λ (text : List ℕ). text ≡ c.word.result.now) (λ (text : List ℕ). (f : Fault) × IsFaulty c.args.bytes.now OBJECT_LEVELS (IsWithout d c.args.to) f × (text ≡ fault_words f)) c.refused.result
    (λ text e. (bad_request why.not_json, record { finding = finding.not_json; finds = rw c.in-Err-NotJson.field-0-is at found; follows = refl }, e ∙ c.word.ensures)) c.refused.ensures

pub returns-in-Err-TooDeep-clause-none : goal.returns-in-Err-TooDeep-clause-none
unfolding fault_words
returns-in-Err-TooDeep-clause-none c =
    let d = definition_of c.args.versions.now in
    let found : IsRefusedJson c.args.bytes.now OBJECT_LEVELS c.in-Err-TooDeep.field-0 = c.in-Err-TooDeep.ensures.err in
    only_input (λ (text : List ℕ). text ≡ c.word-in-Err-TooDeep.result.now) (λ (text : List ℕ). (f : Fault) × IsFaulty c.args.bytes.now OBJECT_LEVELS (IsWithout d c.args.to) f × (text ≡ fault_words f)) c.refused-in-Err-TooDeep.result
    (λ text e. (bad_request why.too_deep, record { finding = finding.too_deep; finds = rw c.in-Err-TooDeep.field-0-is at found; follows = refl }, e ∙ c.word-in-Err-TooDeep.ensures)) c.refused-in-Err-TooDeep.ensures

pub returns-in-Err-NotWhole-clause-none : goal.returns-in-Err-NotWhole-clause-none
unfolding fault_words
returns-in-Err-NotWhole-clause-none c =
    let d = definition_of c.args.versions.now in
    let found : IsRefusedJson c.args.bytes.now OBJECT_LEVELS c.in-Err-NotWhole.field-0 = c.in-Err-NotWhole.ensures.err in
    only_input (λ (text : List ℕ). text ≡ c.word-in-Err-NotWhole.result.now) (λ (text : List ℕ). (f : Fault) × IsFaulty c.args.bytes.now OBJECT_LEVELS (IsWithout d c.args.to) f × (text ≡ fault_words f)) c.refused-in-Err-NotWhole.result
    (λ text e. (bad_request why.not_whole, record { finding = finding.not_whole; finds = rw c.in-Err-NotWhole.field-0-is at found; follows = refl }, e ∙ c.word-in-Err-NotWhole.ensures)) c.refused-in-Err-NotWhole.ensures
