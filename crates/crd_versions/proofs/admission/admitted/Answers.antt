use Rattle.std.proofs.lemmas.Result.{err_from_is_err_and}
use Rattle.kube_meta.specs.View.{object_of}
use Rattle.api_calls.specs.Versions.{request_of}
use Rattle.crd_meaning.specs.Refusal.{RefusesRequest}
use Rattle.crd_admission.specs.NoHub.{HasNoHub}
use Rattle.crd_admission.proofs.Refusing.{refused_more}
use Rattle.crd_versions.proofs.Refusing.{no_hub}
use Rattle.crd_versions.proofs.admission.admitted.Goals as goal

pub returns-in_err-weighed-clause-refused : goal.returns-in_err-weighed-clause-refused
returns-in_err-weighed-clause-refused c =
    let d = c.args.set.now in
    let r = request_of c.args.input.now in
    let x = object_of c.in_ok-passed.passed.object in
    let p = err_from_is_err_and c.from_residual-in_err-weighed.result c.from_residual-in_err-weighed.ensures.1 in
    rw (p.1, p.2)
    (refused_more (HasNoHub d r.version x) (RefusesRequest d r) _ (no_hub d r x c.in_ok-passed.passed.expected c.in_ok-passed.ensures.passes) c.in_err-weighed.ensures.refused)
