use Rattle.kj_value.specs.Seen.{json}
use Rattle.kube_meta.specs.View.{object_of}
use Rattle.write_texts.proofs.Updating.{one_object}
use Rattle.write_texts.proofs.update.same_objects.Goals as goal

pub returns : goal.returns
returns c =
    one_object c.same-one.result (object_of c.args.a.now) (object_of c.args.b) (json c.in-Ok.first) (json c.in-Ok-write_object.second) c.requires.0 c.requires.1 c.in-Ok.ensures
    c.in-Ok-write_object.ensures.value c.same-one.ensures
