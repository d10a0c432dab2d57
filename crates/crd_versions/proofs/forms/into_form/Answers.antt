use Rattle.kube_meta.specs.View.{object_of}
use Rattle.crd_versions.proofs.StoredForms.{form_levels}
use Rattle.crd_versions.proofs.forms.into_form.Goals as goal

pub form_at-requires-clause-whole : goal.form_at-requires-clause-whole
form_at-requires-clause-whole c = c.requires.whole.hub

pub returns-clause-levels : goal.returns-clause-levels
returns-clause-levels c =
    form_levels c.args.set.now c.args.v (object_of c.args.hub) c.form_at.result (c.standing.ensures c.args.set.now c.hub.ensures.loaded) c.requires.known c.requires.whole c.form_at.ensures.form
