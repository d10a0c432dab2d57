use Rattle.std.proofs.Common.{subst}
use Rattle.kube_meta.specs.View.{object_of}
use Rattle.hook_versions.specs.declared.turning.Unturned.{Unturned}
use Rattle.hook_versions.specs.inner.Steps.{NoTurn}
use Rattle.hook_versions.proofs.Turned.{blames_turn, refused_fails, failed_fails}
use Rattle.hook_versions.proofs.forms.turned_or_fault.Goals as goal

pub returns-in-Err-Refused-clause-blames : goal.returns-in-Err-Refused-clause-blames
returns-in-Err-Refused-clause-blames g c =
    let before = g.C.Converter.turns c.args.tool.now in
    let now = g.C.Converter.turns c.turned.new.tool in
    blames_turn c.args.set.now before now (g.C.Converter.turns c.rejection.new.tool) c.rejection.result
    (refused_fails c.args.set.now before now (object_of c.args.x.now) c.args.v (subst (λ (e : Unturned). NoTurn c.args.set.now before now (object_of c.args.x.now) c.args.v e) c.in-Err-Refused.field-0-is c.in-Err-Refused.ensures.none)) c.rejection.ensures.turns

pub returns-in-Err-Failed-clause-blames : goal.returns-in-Err-Failed-clause-blames
returns-in-Err-Failed-clause-blames g c =
    let before = g.C.Converter.turns c.args.tool.now in
    let now = g.C.Converter.turns c.turned.new.tool in
    failed_fails c.args.set.now before now (object_of c.args.x.now) c.args.v (subst (λ (e : Unturned). NoTurn c.args.set.now before now (object_of c.args.x.now) c.args.v e) c.in-Err-Failed.field-0-is c.in-Err-Failed.ensures.none)
