use Rattle.std.proofs.Common.{subst}
use Rattle.hub_cells.specs.Side as sides
use Rattle.keep_laws.specs.FittedBody.{IsBodyOf}
use Rattle.keep_laws.proofs.Made.{hub_made_writable}
use Rattle.spoke_keep.proofs.Shaping.{shapes_back}
use Rattle.spoke_keep.proofs.hub.shape_back.Goals as goal

pub shape_with-shape-requires-clause-order : goal.shape_with-shape-requires-clause-order
shape_with-shape-requires-clause-order c =
    let body = subst (IsBodyOf sides.spoke c.args.s.now.fit) c.requires.settled.1 c.requires.settled.3.body in
    (hub_made_writable c.given.ensures c.args.all.now c.requires.place.0 c.args.s.now c.items.ensures.definition c.requires.place.1 c.args.body.now c.in-Ok.made.fields c.in-Ok.ensures.0 c.in-Ok.made.kept c.len.ensures.sound body c.in-Ok.ensures.2).order

pub shape_with-shape-requires-clause-levels : goal.shape_with-shape-requires-clause-levels
shape_with-shape-requires-clause-levels c =
    let body = subst (IsBodyOf sides.spoke c.args.s.now.fit) c.requires.settled.1 c.requires.settled.3.body in
    (hub_made_writable c.given.ensures c.args.all.now c.requires.place.0 c.args.s.now c.items.ensures.definition c.requires.place.1 c.args.body.now c.in-Ok.made.fields c.in-Ok.ensures.0 c.in-Ok.made.kept c.len.ensures.sound body c.in-Ok.ensures.2).levels

pub returns-in-Ok : goal.returns-in-Ok
returns-in-Ok c =
    shapes_back c.given.ensures c.args.all.now c.requires.place.0 c.args.s.now c.items.ensures.definition c.requires.place.1 c.requires.settled.0 c.requires.settled.3 c.args.body.now c.args.annotations c.requires.settled.1 c.requires.settled.2 c.in-Ok.made.fields c.in-Ok.made.kept c.in-Ok.ensures c.hub_key.result.now c.hub_key.ensures c.remove.new.self c.remove.ensures.fields c.shape_with-shape.result c.shape_with-shape.ensures
