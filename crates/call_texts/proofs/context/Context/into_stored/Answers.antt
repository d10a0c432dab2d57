use Rattle.kube_meta.specs.View.{object_of}
use Rattle.call_texts.proofs.context.Context.into_stored.Goals as goal

pub returns-clause-stored : goal.returns-clause-stored
returns-clause-stored g c = record {
  form = object_of c.in_ok-form.form;
  known = c.requires.known;
  whole = c.requires.whole;
  pairs = c.in_ok-form.ensures.ok;
  spelled = c.in_ok-text.ensures.text;
  utf8 = c.in_ok-text.ensures.utf8;
}
