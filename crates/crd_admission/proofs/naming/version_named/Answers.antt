use Rattle.std.proofs.Common.{◌<◌, arith}
use Rattle.crd_admission.proofs.NamedVersions.{none_named}
use Rattle.crd_admission.proofs.naming.version_named.Goals as goal

pub returns : goal.returns
returns c =
    none_named c.args.set.now c.args.text.now (λ u h. let below : u < c.loop-v.v = omega (arith, h, c.loop-v-test.false, c.count-v-end.ensures.count) in c.loop-v.invariant u below)
