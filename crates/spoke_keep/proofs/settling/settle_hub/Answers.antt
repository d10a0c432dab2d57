use Rattle.std.proofs.Common.{◌≡◌, None, ap, subst, ◌∙◌}
use Rattle.kube_meta.specs.View.{Texts, object_of}
use Rattle.keep_laws.specs.Judging.{Carries}
use Rattle.keep_laws.specs.Settling.{completed_hub}
use Rattle.keep_laws.proofs.Made.{settles_hub}
use Rattle.spoke_keep.proofs.Completing.{full_body}
use Rattle.spoke_keep.proofs.settling.settle_hub.Goals as goal

pub carried_over-requires-clause-body : goal.carried_over-requires-clause-body
carried_over-requires-clause-body c =
    full_body c.given.ensures c.args.all.now c.items.ensures.definition (object_of c.args.x) c.in-Ok.full c.len.ensures.sound c.requires c.len-2.ensures.sound (c.in-Ok.ensures ∙ ap (completed_hub c.args.all.now) c.replace-body.ensures.value)

pub returns-in-Ok-carried_over-clause-settles : goal.returns-in-Ok-carried_over-clause-settles
returns-in-Ok-carried_over-clause-settles c =
    let full : c.in-Ok.full ≡ completed_hub c.args.all.now (object_of c.args.x).body = c.in-Ok.ensures ∙ ap (completed_hub c.args.all.now) c.replace-body.ensures.value in
    let carried = subst (λ (ns : Texts). Carries c.args.all.now None c.in-Ok.full ns c.in-Ok-carried_over.notes) c.replace-annotations.ensures.value c.in-Ok-carried_over.ensures.ok in
    settles_hub c.args.all.now (object_of c.args.x) c.in-Ok.full c.in-Ok-carried_over.notes c.len-in-Ok-carried_over.ensures.order c.len-2.ensures.sound full carried
