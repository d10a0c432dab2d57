use Rattle.std.proofs.Common.{◌≡◌, ℕ, ◌≤◌, Some, subst, arith}
use Rattle.std.specs.Prelude.{option_map}
use Rattle.kube_meta.specs.Shapes.{shaped}
use Rattle.kube_meta.specs.View.{object_of}
use Rattle.kube_meta.specs.declared.object.Shape.{Shape}
use Rattle.crd_meaning.specs.Definition.{count_of}
use Rattle.crd_laws.specs.Hook.{IsForm}
use Rattle.hook_versions.specs.Facts.{hooked}
use Rattle.hook_versions.specs.inner.Weighing.{AreBackThen}
use Rattle.hook_versions.proofs.Backs.{blames_later}
use Rattle.hook_versions.proofs.Results.{some_either}
use Rattle.hook_versions.proofs.Weights.{then_none, then_next}
use Rattle.hook_versions.proofs.weighing.weighed.Goals as goal

pub loop-v-init : goal.loop-v-init
loop-v-init g c = record {
  back = then_none (hooked c.args.set.now g.C.Converter.HONEST g.C.Converter.turned) (object_of c.args.h.now) (option_map object_of c.args.own.now) (g.C.Converter.turns c.args.tool.now);
  kept = tt;
  rises = omega arith;
}

pub loop-v-preserved : goal.loop-v-preserved
loop-v-preserved g c =
    let k = hooked c.args.set.now g.C.Converter.HONEST g.C.Converter.turned in
    let h = object_of c.args.h.now in
    let before = c.loop-v.invariant.rises in
    let now = c.weighed_at.ensures.rises in record {
      back = then_next k h (option_map object_of c.args.own.now) (g.C.Converter.turns c.args.tool.now) (g.C.Converter.turns c.loop-v.tool) (g.C.Converter.turns c.weighed_at.new.tool)
          c.loop-v.v c.loop-v.most c.in-Ok.next c.loop-v.invariant.back c.in-Ok.ensures.next;
      kept = some_either (λ (p : Shape). IsForm k c.args.storage h (shaped p h)) c.either-stored.result c.in-Ok.shape c.loop-v.stored c.either-stored.ensures c.in-Ok.ensures.kept c.loop-v.invariant.kept;
      rises = omega (arith, before, now);
    }

pub returns-in-Err-clause-blames : goal.returns-in-Err-clause-blames
returns-in-Err-clause-blames g c =
    blames_later c.args.set.now (g.C.Converter.turns c.args.tool.now) (g.C.Converter.turns c.loop-v.tool) (g.C.Converter.turns c.weighed_at.new.tool) _ c.in-Err.fault c.loop-v.invariant.back.grew c.in-Err.ensures.blames

pub returns-clause-back : goal.returns-clause-back
returns-clause-back g c =
    let all : c.loop-v.v ≡ count_of c.args.set.now = omega (arith, c.loop-v-test.false, c.loop-v.auto.v-end, c.count-v-end.ensures.count) in
    subst (λ (n : ℕ). AreBackThen (hooked c.args.set.now g.C.Converter.HONEST g.C.Converter.turned) (g.C.Converter.turns c.args.tool.now) (g.C.Converter.turns c.loop-v.tool) (option_map object_of c.args.own.now) (object_of c.args.h.now) 0 (Some 0) n c.loop-v.most) all c.loop-v.invariant.back
