use Rattle.kube_meta.specs.View.{object_of}
use Rattle.call_texts.proofs.context.Context.into_shown.Goals as goal

pub returns-clause-shown : goal.returns-clause-shown
returns-clause-shown g c = (object_of c.in_ok-form.form, λ honest. c.in_ok-form.ensures.ok, c.in_ok-text.ensures)
