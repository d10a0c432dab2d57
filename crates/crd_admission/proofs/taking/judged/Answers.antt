use Rattle.std.proofs.Common.{◌≡◌, ◌∙◌, Bool, ap, sym}
use Rattle.std.specs.Prelude.{is_some}
use Rattle.std.proofs.lemmas.Result.{err_from_is_err_and}
use Rattle.kj_value.specs.Fields.{Pairs}
use Rattle.kube_meta.specs.View.{ObjectView, object_of}
use Rattle.api_calls.specs.Versions.{request_of}
use Rattle.crd_meaning.specs.Request.{first_there, metadata_rows, number_rows, rows}
use Rattle.crd_admission.specs.Steps.{plain, IsFirst}
use Rattle.crd_admission.proofs.Numerals.{some_mapped}
use Rattle.crd_admission.proofs.Refusing.{refused_more}
use Rattle.crd_admission.proofs.Rows.{at_metadata, past_metadata}
use Rattle.crd_admission.proofs.taking.judged.Goals as goal

pub returns-in_err-o-clause-refused : goal.returns-in_err-o-clause-refused
returns-in_err-o-clause-refused c =
    let d = plain c.args.definition.now in
    let r = request_of c.args.input.now in
    let es : Pairs = c.args.fields in
    let p = err_from_is_err_and c.from_residual.result c.from_residual.ensures.1 in
    rw (p.1, p.2) (refused_more (IsFirst (metadata_rows es)) (IsFirst (rows d r es)) c.in_err-o.field-0.0 (λ f h. at_metadata d r es f c.in-Ok.ensures.asked h) c.in_err-o.ensures.refused)

pub returns-in-Err-judge_number-clause-refused : goal.returns-in-Err-judge_number-clause-refused
returns-in-Err-judge_number-clause-refused c =
    let d = plain c.args.definition.now in
    let r = request_of c.args.input.now in
    let es : Pairs = c.args.fields in
    let x : ObjectView = object_of c.in_ok-o.o in
    let replaces : is_some r.name ≡ c.is_some.result = some_mapped (λ s. s.now) c.args.input.now.name ∙ sym c.is_some.ensures in
    refused_more (IsFirst (number_rows x.meta.name c.is_some.result (is_some x.meta.resource_version))) (IsFirst (rows d r es)) c.in-Err-judge_number.fault
    (λ f h. past_metadata d r es x c.in-Ok.ensures.asked c.in_ok-o.ensures.nothing c.in_ok-o.ensures.object ∙ ap (λ (b : Bool). first_there (number_rows x.meta.name b (is_some x.meta.resource_version))) replaces ∙ h)
    c.in-Err-judge_number.ensures.refused
