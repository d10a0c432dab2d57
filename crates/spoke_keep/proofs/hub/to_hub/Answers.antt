use Rattle.std.proofs.Common.{subst}
use Rattle.kube_meta.specs.declared.object.Object.{Object}
use Rattle.kube_meta.specs.View.{ObjectView, object_of}
use Rattle.keep_laws.specs.Spokes.{Spoke}
use Rattle.keep_laws.specs.Pair.{IsPairOf}
use Rattle.keep_laws.specs.WholeHub.{IsWholeHub}
use Rattle.keep_laws.specs.Over.{GoesOver}
use Rattle.keep_laws.proofs.Adding.{one_at}
use Rattle.spoke_keep.proofs.Steps.{if_ok}
use Rattle.spoke_keep.proofs.hub.to_hub.Goals as goal

pub over-requires-clause-body : goal.over-requires-clause-body
over-requires-clause-body c = (c.requires.1 c.at.result.now c.at.ensures).1

pub returns-clause-whole : goal.returns-clause-whole
returns-clause-whole c =
    if_ok (λ (h : Object). GoesOver c.args.all.now c.at.result.now (object_of c.args.x) (object_of h)) (λ (h : Object). IsWholeHub c.args.all.now (object_of h)) c.over.result (
    λ h g. c.going_over.ensures.whole c.args.all.now c.args.v c.at.result.now c.items.ensures.definition c.at.ensures (object_of c.args.x) (object_of h) c.len.ensures.sound (c.requires.1 c.at.result.now c.at.ensures).1 g
    ) c.over.ensures.over

pub returns-clause-pair : goal.returns-clause-pair
returns-clause-pair c =
    λ s e y t.
    let x : ObjectView = object_of c.args.x in
    let same = one_at c.args.all.now.items c.args.v c.at.result.now s c.at.ensures e in
    if_ok (λ (h : Object). GoesOver c.args.all.now c.at.result.now x (object_of h)) (λ (h : Object). IsPairOf c.args.all.now s y (object_of h)) c.over.result (
    λ h g. c.going_over.ensures.pair c.args.all.now c.args.v s c.items.ensures.definition e x y (object_of h) (subst (λ (u : Spoke). GoesOver c.args.all.now u x (object_of h)) same g) t
    ) c.over.ensures.over
