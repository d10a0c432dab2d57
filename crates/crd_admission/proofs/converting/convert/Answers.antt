use Rattle.std.proofs.Common.{◌≤◌, Some, subst}
use Rattle.kj_value.specs.Json.{Json, depth}
use Rattle.kj_value.specs.Seen.{json}
use Rattle.kube_meta.specs.View.{object_of}
use Rattle.object_reading.specs.Fields.{object_at}
use Rattle.crd_admission.proofs.DocumentDepths.{converted_within}
use Rattle.crd_admission.proofs.converting.convert.Goals as goal

pub returns-clause-levels : goal.returns-clause-levels
returns-clause-levels c =
    let levels = subst (λ (j : Json). depth j ≤ 64) c.in-Some.ensures c.requires.levels in
    converted_within c.in-Some.fields (object_at (Some (json c.in_ok-whole.whole.metadata))) (object_of c.in_ok-form.form) (json c.in_ok-document.field-0) levels c.in_ok-whole.ensures.metadata c.in_ok-form.ensures.levels c.in_ok-document.ensures
