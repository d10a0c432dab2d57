use Rattle.std.proofs.Common.{◌≡◌, ℕ, ◌+◌, ◌<◌, Option, Some, sym, subst, arith}
use Rattle.kube_meta.specs.View.{ObjectView, object_of}
use Rattle.crd_meaning.specs.Definition.{count_of}
use Rattle.crd_admission.specs.inner.Weighing.{AreWeighed, IsMeasure, form_of}
use Rattle.crd_admission.proofs.Weights.{weighed_next, weighed_all}
use Rattle.crd_admission.proofs.weighing.weigh.Goals as goal

pub loop-v-preserved : goal.loop-v-preserved
loop-v-preserved c =
    let d = c.args.set.now in
    let h : ObjectView = object_of c.args.h.now in
    let v = c.loop-v.v in
    let x : ObjectView = form_of c.in-Ok.form h in
    let known : v < count_of d = omega (arith, c.loop-v-test.true, c.count-versions.ensures.count) in
    let m : IsMeasure x (Some c.in-Some.bytes) = subst (λ (o : Option ℕ). IsMeasure x o) c.in-Some.is c.measured.ensures in (
      subst (λ (n : ℕ). AreWeighed d h (v + 1) n) (sym c.heavier-most.ensures) (weighed_next d h (c.one_to_one.ensures d c.count-versions.ensures.loaded) c.requires v c.loop-v.most c.in-Some.bytes x known c.in-Ok.ensures m.0 m.1 c.loop-v.invariant.0),
      c.kept-stored.ensures d h c.in-Ok.ensures c.loop-v.invariant.1,
    )

pub returns : goal.returns
returns c =
    let d = c.args.set.now in
    let h : ObjectView = object_of c.args.h.now in
    let all : c.loop-v.v ≡ count_of d = omega (arith, c.loop-v-test.false, c.loop-v.auto.v-end, c.count-versions.ensures.count) in
    let w = weighed_all d h c.loop-v.most c.count-versions.ensures.loaded.few.0 (subst (λ (n : ℕ). AreWeighed d h n c.loop-v.most) all c.loop-v.invariant.0) in
    (w.0, w.1, w.2, c.loop-v.invariant.1)
