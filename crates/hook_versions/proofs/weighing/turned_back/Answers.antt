use Rattle.std.proofs.Common.{◌≡◌, ℕ, Some, length, subst}
use Rattle.kube_meta.specs.View.{ObjectView, object_of}
use Rattle.crd_laws.specs.Hook.{version_text}
use Rattle.crd_laws.specs.Turning.{WasTurned, OfTurns}
use Rattle.hook_versions.specs.inner.Steps.{Turns}
use Rattle.hook_versions.proofs.Turned.{turned_once}
use Rattle.hook_versions.proofs.Backs.{not_back_turn, not_back_other}
use Rattle.hook_versions.proofs.weighing.turned_back.Goals as goal

pub returns-in-Err-clause-blames : goal.returns-in-Err-clause-blames
returns-in-Err-clause-blames g c =
    not_back_turn c.args.set.now (g.C.Converter.turns c.args.tool.now) (g.C.Converter.turns c.turned_or_fault.new.tool) (object_of c.args.form.now) (object_of c.args.h.now) c.in-Err.fault c.in-Err.ensures.blames

pub returns-in-Ok-true-clause-back : goal.returns-in-Ok-true-clause-back
returns-in-Ok-true-clause-back g c =
    subst (λ (y : ObjectView). OfTurns (g.C.Converter.turns c.args.tool.now) (g.C.Converter.turns c.turned_or_fault.new.tool) (λ ts. (length ts ≡ 1) × WasTurned c.args.set.now ts (object_of c.args.form.now) c.args.set.now.hub y)) (c.in-Ok-true.ensures.0 c.in-Ok-true.field-0-test)
    (turned_once c.args.set.now (g.C.Converter.turns c.args.tool.now) (g.C.Converter.turns c.turned_or_fault.new.tool) (object_of c.args.form.now) c.args.set.now.hub (object_of c.in-Ok.back)
    (subst (λ (u : ℕ). Turns c.args.set.now (g.C.Converter.turns c.args.tool.now) (g.C.Converter.turns c.turned_or_fault.new.tool) (object_of c.args.form.now) u (object_of c.in-Ok.back)) c.hub.ensures.value c.in-Ok.ensures.turns))

pub returns-in-Ok-true-clause-turned : goal.returns-in-Ok-true-clause-turned
returns-in-Ok-true-clause-turned g c = λ honest.
    subst (λ (y : ObjectView). g.C.Converter.turned (object_of c.args.form.now) (version_text c.args.set.now c.args.set.now.hub) ≡ Some y) (c.in-Ok-true.ensures.0 c.in-Ok-true.field-0-test)
    (subst (λ (u : ℕ). g.C.Converter.turned (object_of c.args.form.now) (version_text c.args.set.now u) ≡ Some (object_of c.in-Ok.back)) c.hub.ensures.value (c.in-Ok.ensures.turned honest))

pub returns-in-Ok-false-clause-blames : goal.returns-in-Ok-false-clause-blames
returns-in-Ok-false-clause-blames g c =
    not_back_other c.args.set.now (g.C.Converter.turns c.args.tool.now) (g.C.Converter.turns c.turned_or_fault.new.tool) (object_of c.args.form.now) (object_of c.args.h.now) (object_of c.in-Ok.back)
    (subst (λ (u : ℕ). Turns c.args.set.now (g.C.Converter.turns c.args.tool.now) (g.C.Converter.turns c.turned_or_fault.new.tool) (object_of c.args.form.now) u (object_of c.in-Ok.back)) c.hub.ensures.value c.in-Ok.ensures.turns) (g.C.Converter.turns c.rejection.new.tool) c.rejection.result c.rejection.ensures.turns (λ e. let yes = c.in-Ok-false.ensures.1 e in let no = c.in-Ok-false.field-0-test in cc)
