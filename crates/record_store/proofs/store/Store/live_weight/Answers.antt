use Rattle.std.proofs.Common.{ap, ◌∙◌}
use Rattle.kube_meta.specs.Window.{weights}
use Rattle.record_store.specs.View.{StoreView, item_weight}
use Rattle.record_store.proofs.Changes.{live-seen}
use Rattle.record_store.proofs.store.Store.live_weight.Goals as goal

pub returns : goal.returns
returns c = live-seen c.self.inside.limits c.self.inside.index c.self.inside.window c.self.inside.region c.self.inside.live c.self.inside.last c.self.invariant ∙ ap (λ (v : StoreView). weights item_weight v.items) c.self.view_is
