use Rattle.std.proofs.Common.{◌≡◌, subst}
use Rattle.std.specs.Prelude.{IfOk}
use Rattle.kj_value.specs.Seen.{json}
use Rattle.kube_meta.specs.View.{ObjectView}
use Rattle.kube_meta.specs.Document.{document}
use Rattle.versions_fixture.proofs.parts.written.Goals as goal

pub returns-clause-value : goal.returns-clause-value
returns-clause-value c =
    subst (λ (x : ObjectView). IfOk c.write_object.result (λ v. json v ≡ document x)) c.in_ok-object.ensures c.write_object.ensures.value
