use Rattle.std.proofs.Common.{◌<◌}
use Rattle.kube_meta.specs.View.{object_of}
use Rattle.api_calls.specs.Meaning.{Weighs}
use Rattle.crd_meaning.specs.Meant.{meant}
use Rattle.crd_versions.proofs.Results.{ok_mapped}
use Rattle.crd_versions.proofs.Weights.{weighs_some}
use Rattle.crd_versions.proofs.set.VersionSetVersions.admit.Goals as goal

pub returns-clause-weight : goal.returns-clause-weight
returns-clause-weight c =
    let d = c.args.self.now.set in
    ok_mapped c.admitted.result (λ a. Weighs (meant d) (object_of a.hub) a.weight) (λ a. 0 < a.weight)
    (λ a w. weighs_some d (object_of a.hub) a.weight w) c.admitted.ensures.weighs
