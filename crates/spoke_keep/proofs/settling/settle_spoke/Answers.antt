use Rattle.kube_meta.specs.View.{object_of}
use Rattle.spoke_keep.proofs.settling.settle_spoke.Goals as goal

pub formed-requires-clause-whole : goal.formed-requires-clause-whole
formed-requires-clause-whole c =
    c.going_over.ensures.whole c.args.all.now c.requires.place.0 c.args.s.now c.items.ensures.definition c.requires.place.1 (object_of c.args.x) (object_of c.in-Ok.hub) c.len.ensures.sound c.requires.body c.in-Ok.ensures.over

pub returns-in-Ok-formed-clause-settles : goal.returns-in-Ok-formed-clause-settles
returns-in-Ok-formed-clause-settles c = record {
  hub = object_of c.in-Ok.hub;
  over = c.in-Ok.ensures.over;
  whole = c.going_over.ensures.whole c.args.all.now c.requires.place.0 c.args.s.now c.items.ensures.definition c.requires.place.1 (object_of c.args.x) (object_of c.in-Ok.hub) c.len.ensures.sound c.requires.body c.in-Ok.ensures.over;
  object = c.in-Ok-formed.ensures.settled.object;
  pair = c.in-Ok-formed.ensures.pair;
}
