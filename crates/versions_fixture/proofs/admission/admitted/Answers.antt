use Rattle.std.proofs.Common.{◌∙◌, ap, sym}
use Rattle.kj_value.specs.Seen.{json}
use Rattle.kube_meta.specs.Document.{document}
use Rattle.versions_fixture.specs.Parts.{bare, object_at}
use Rattle.versions_fixture.specs.declared.parts.Version.{Version}
use Rattle.versions_fixture.proofs.admission.admitted.Goals as goal

pub returns-in-Ok-None-clause-refused : goal.returns-in-Ok-None-clause-refused
returns-in-Ok-None-clause-refused c =
    let other = rw c.in-Ok-None.field-0-is at c.in-Ok-None.ensures in
    record {
      value = json c.in-Ok.v;
      reads = c.in-Ok.ensures.ok;
      other = λ name given is. other name given (is ∙ ap (λ (w : Version). document (object_at w (bare name given))) (sym c.at-version.ensures));
    }
