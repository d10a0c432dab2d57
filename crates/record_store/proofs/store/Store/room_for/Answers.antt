use Rattle.std.proofs.Common.{ap, ◌∙◌, arith}
use Rattle.kube_meta.specs.Window.{weights}
use Rattle.record_store.specs.View.{StoreView, item_weight}
use Rattle.record_store.proofs.Changes.{live-seen}
use Rattle.record_store.proofs.Answered.{full_end, done_end}
use Rattle.record_store.proofs.store.Store.room_for.Goals as goal

pub overflow_add-free : goal.overflow_add-free
overflow_add-free c =
    let live = live-seen c.self.inside.limits c.self.inside.index c.self.inside.window c.self.inside.region c.self.inside.live c.self.inside.last c.self.invariant ∙ ap (λ (v : StoreView). weights item_weight v.items) c.self.view_is in
    let going = c.requires in
    let light = c.self.invariant.light in
    let small = c.self.invariant.small in
    omega (arith, live, going, light, small)

pub returns-then-free-weight : goal.returns-then-free-weight
returns-then-free-weight c =
    let live = live-seen c.self.inside.limits c.self.inside.index c.self.inside.window c.self.inside.region c.self.inside.live c.self.inside.last c.self.invariant ∙ ap (λ (v : StoreView). weights item_weight v.items) c.self.view_is in
    full_end c.self.inside.limits.chunks c.self.inside.live c.args.self.now c.args.going c.args.weight (ap (λ (v : StoreView). v.limits.chunks) c.self.view_is) live (omega arith)

pub returns-else-free-weight : goal.returns-else-free-weight
returns-else-free-weight c =
    let live = live-seen c.self.inside.limits c.self.inside.index c.self.inside.window c.self.inside.region c.self.inside.live c.self.inside.last c.self.invariant ∙ ap (λ (v : StoreView). weights item_weight v.items) c.self.view_is in
    done_end c.self.inside.limits.chunks c.self.inside.live c.args.self.now c.args.going c.args.weight (ap (λ (v : StoreView). v.limits.chunks) c.self.view_is) live (omega arith)
