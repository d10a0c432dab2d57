use Rattle.std.proofs.Common.{subst}
use Rattle.record_store.specs.View.{IsStore}
use Rattle.record_store.proofs.Changes.{is-store}
use Rattle.record_store.proofs.store.Store.len.Goals as goal

pub returns-clause-sound : goal.returns-clause-sound
returns-clause-sound c =
    subst IsStore c.self.view_is (is-store c.self.inside.limits c.self.inside.index c.self.inside.window c.self.inside.region c.self.inside.live c.self.inside.last c.self.invariant c.len.ensures.order c.len.ensures.room)
