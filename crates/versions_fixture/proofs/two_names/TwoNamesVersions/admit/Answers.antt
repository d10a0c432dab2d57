use Rattle.std.proofs.Common.{◌≡◌, ◌<◌, ◌≤◌, None}
use Rattle.kj_value.specs.Json.{depth}
use Rattle.kube_meta.specs.View.{object_of}
use Rattle.kube_meta.specs.Document.{document}
use Rattle.api_calls.specs.Meaning.{Weighs}
use Rattle.api_calls.specs.Versions.{request_of}
use Rattle.versions_fixture.specs.Definition.{Admits, placed, two_names}
use Rattle.versions_fixture.specs.Laws.{weighs_some}
use Rattle.versions_fixture.specs.declared.parts.Version.TheVariants.{V1}
use Rattle.versions_fixture.proofs.Found.{levels}
use Rattle.versions_fixture.proofs.Refusing.{without, ok_mapped}
use Rattle.versions_fixture.proofs.two_names.TwoNamesVersions.admit.Goals as goal

pub returns-clause-weight : goal.returns-clause-weight
returns-clause-weight c =
    ok_mapped c.admitted.result (λ a. Weighs two_names (object_of a.hub) a.weight) (λ a. 0 < a.weight)
    (λ a w. weighs_some (object_of a.hub) a.weight w) c.admitted.ensures.weight

pub returns-clause-shape : goal.returns-clause-shape
returns-clause-shape c = ok_mapped c.admitted.result (λ a. a.shape ≡ None) _ (λ a none. without _ a.shape none) c.admitted.ensures.shape

pub returns-clause-levels : goal.returns-clause-levels
returns-clause-levels c =
    ok_mapped c.admitted.result (λ a. Admits (request_of c.args.input.now) (object_of a.hub) a.expected) (λ a. depth (document (object_of a.hub)) ≤ 64)
    (λ a h. levels V1 (placed c.args.input.now.ns.now h.name h.value) (object_of a.hub) h.is) c.admitted.ensures.ok
