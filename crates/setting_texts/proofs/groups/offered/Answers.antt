use Rattle.std.proofs.Common.{◌≡◌, arith}
use Rattle.setting_texts.proofs.Offering.{known-count, offered-end}
use Rattle.setting_texts.proofs.groups.offered.Goals as goal

pub add_served-requires-clause-ranked : goal.add_served-requires-clause-ranked
add_served-requires-clause-ranked g c =
    known-count c.priority_total.ensures (g.V.Versions.meaning c.args.versions.now) c.args.flags.now c.loop-v.v c.count-v-end.result c.loop-v.ranked.items c.loop-v.invariant c.loop-v-test.true c.count-v-end.ensures

pub returns : goal.returns
returns g c =
    let m = g.V.Versions.meaning c.args.versions.now in
    let over = c.loop-v-test.false in
    let most = c.loop-v.auto.v-end in
    let count = c.count-v-end.ensures in
    let ended : c.loop-v.v ≡ m.count = omega (arith, over, most, count) in
    offered-end c.priority_total.ensures m c.args.flags.now c.loop-v.v c.loop-v.ranked.items c.loop-v.invariant ended
