use Rattle.std.proofs.Common.{◌≡◌}
use Rattle.kube_meta.specs.View.{object_of}
use Rattle.kube_meta.specs.declared.object.Object.{Object}
use Rattle.keep_laws.specs.Over.{GoesOver}
use Rattle.crd_versions.proofs.StoredForms.{if_ok}
use Rattle.crd_versions.proofs.going_back.taken_back.Goals as goal

pub back_to_hub-requires : goal.back_to_hub-requires
back_to_hub-requires c =
    let f = c.requires.1 in
    (f.spoke, f.place, c.one_each.ensures.settled c.args.all.now c.args.p f.spoke c.items.ensures.definition f.place (object_of c.args.x) c.requires.0 f.object f.whole f.pair)

pub returns : goal.returns
returns c = λ h f.
    if_ok (λ (g : Object). GoesOver c.args.all.now f.spoke (object_of c.args.x) (object_of g)) (λ (g : Object). object_of g ≡ h) c.back_to_hub.result (
    λ g over. c.over_and_back.ensures.whole c.args.all.now c.args.p f.spoke c.items.ensures.definition f.place h (object_of c.args.x) (object_of g) f.whole f.pair over
    ) (c.back_to_hub.ensures f.spoke f.place)
