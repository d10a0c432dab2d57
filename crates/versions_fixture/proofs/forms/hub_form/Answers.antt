use Rattle.kube_meta.specs.View.{object_of}
use Rattle.versions_fixture.specs.Parts.{parts_of}
use Rattle.versions_fixture.proofs.Found.{levels}
use Rattle.versions_fixture.proofs.forms.hub_form.Goals as goal

pub returns-clause-levels : goal.returns-clause-levels
returns-clause-levels c = levels c.at.result (parts_of c.hub_parts-parts.result) (object_of c.in_ok-made.field-0) c.in_ok-made.ensures
