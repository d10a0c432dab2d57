use Rattle.kj_value.specs.Seen.{json}
use Rattle.kube_meta.specs.View.{object_of}
use Rattle.hook_versions.proofs.SameObjects.{same_objects}
use Rattle.hook_versions.proofs.sameness.is_same.Goals as goal

pub returns : goal.returns
returns c =
    same_objects c.read_back.ensures (object_of c.args.x.now) (object_of c.args.y.now) (json c.in_ok-one.one) (json c.in_ok-other.other) c.same.result
    c.requires.first c.requires.second c.in_ok-one.ensures c.in_ok-other.ensures c.same.ensures
