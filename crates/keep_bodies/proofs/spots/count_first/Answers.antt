use Rattle.std.proofs.Common.{◌+◌, ◌-◌, ◌/◌, ◌<◌, ℕ, length, sym, ◌∙◌, arith}
use Rattle.keep_bodies.proofs.Standing.{search_more, search_stop, search_within}
use Rattle.keep_bodies.proofs.spots.count_first.Goals as goal

pub loop-low-init : goal.loop-low-init
loop-low-init c =
    (omega arith, search_within (c.args.inside, c.args.name.now) c.args.also c.args.kept.now.depth c.args.kept.now.entries.now, omega arith)

pub loop-low-preserved-then-first : goal.loop-low-preserved-then-first
loop-low-preserved-then-first c =
    let l = c.loop-low in
    let below = c.loop-low-test.true in
    let most = l.invariant.2 in
    let i : ℕ = l.low + (l.high - l.low) / 2 in
    let within : i < length c.args.kept.now.entries.now = omega (arith, below, most) in
    let more = search_more (c.args.inside, c.args.name.now) c.args.also c.args.kept.now.depth c.args.kept.now.entries.now i c.index-entries-middle.result c.requires within c.index-entries-middle.is (sym c.if-first.true ∙ c.comes_first-first.ensures) in
    (omega (arith, more), l.invariant.1, most)

pub loop-low-preserved : goal.loop-low-preserved
loop-low-preserved c =
    let l = c.loop-low in
    let below = c.loop-low-test.true in
    let most = l.invariant.2 in
    let i : ℕ = l.low + (l.high - l.low) / 2 in
    let within : i < length c.args.kept.now.entries.now = omega (arith, below, most) in
    let stop = search_stop (c.args.inside, c.args.name.now) c.args.also c.args.kept.now.depth c.args.kept.now.entries.now i c.index-entries-middle.result within c.index-entries-middle.is (sym c.if-first.false ∙ c.comes_first-first.ensures) in
    (l.invariant.0, stop, omega (arith, within))
