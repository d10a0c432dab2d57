use Rattle.record_region.proofs.Regions.{spare_is, used_within}
use Rattle.record_region.proofs.region.Region.spare.Goals as goal

pub returns-clause-spare : goal.returns-clause-spare
returns-clause-spare c = spare_is c.self.inside.store.items c.self.inside.links.items c.self.inside.marks.items c.self.inside.head c.self.inside.free c.args.self.now c.self.view_is c.self.invariant

pub returns-clause-within : goal.returns-clause-within
returns-clause-within c = used_within c.self.inside.store.items c.self.inside.links.items c.self.inside.marks.items c.self.inside.head c.self.inside.free c.args.self.now c.self.view_is c.self.invariant
