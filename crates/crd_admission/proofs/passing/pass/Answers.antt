use Rattle.std.proofs.Common.{subst}
use Rattle.std.specs.Prelude.{IfOk, IfErr}
use Rattle.kube_meta.specs.View.{object_of}
use Rattle.api_calls.specs.Versions.{Refused, request_of}
use Rattle.crd_reading.specs.View.{DefinitionView}
use Rattle.crd_meaning.specs.Admission.{Passes}
use Rattle.crd_loading.specs.Passed.{IsPassed}
use Rattle.crd_admission.specs.Steps.{with_rules, RefusesBody}
use Rattle.crd_admission.proofs.Ready.{all_refused}
use Rattle.crd_admission.proofs.passing.pass.Goals as goal

pub returns : goal.returns
returns c =
    let d = c.args.set.now in
    let r = request_of c.args.input.now in
    let same = c.definition.ensures.value in record {
      passes = subst (λ (v : DefinitionView). IfOk c.pass_body.result (λ p. Passes (with_rules v d.hub d.spokes) r (object_of p.object) p.expected)) same (c.pass_body.ensures.passes d.hub d.spokes);
      passed = subst (λ (v : DefinitionView). IfOk c.pass_body.result (λ p. IsPassed (with_rules v d.hub d.spokes) r.version (object_of p.object))) same (c.pass_body.ensures.passed d.hub d.spokes);
      refused = all_refused d r c.pass_body.result (subst (λ (v : DefinitionView). IfErr c.pass_body.result (Refused (RefusesBody (with_rules v d.hub d.spokes) r) ⊥)) same (c.pass_body.ensures.refused d.hub d.spokes));
    }
