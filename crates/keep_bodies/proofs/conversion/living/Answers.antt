use Rattle.hub_cells.specs.Side as sides
use Rattle.hub_cells.specs.Seen.{side}
use Rattle.keep_laws.specs.Settle.{converted}
use Rattle.keep_bodies.specs.Held.{held}
use Rattle.keep_bodies.proofs.Settled.{ready, back_allowed, back_entries, there_in_order}
use Rattle.keep_bodies.proofs.conversion.living.Goals as goal

pub convert-requires-2-clause-allowed : goal.convert-requires-2-clause-allowed
convert-requires-2-clause-allowed c =
    back_allowed (side c.args.on) (side c.other.result) c.args.f.now.level (held c.args.x.now c.args.kept) (held c.in_ok-there.there.fields c.in_ok-there.there.kept) c.other.ensures c.in_ok-there.ensures (c.converting.ensures.whole (side c.args.on) c.args.f.now.level (held c.args.x.now c.args.kept) (ready c.args.f.now c.cells.ensures.fitted) c.requires.allowed)

pub convert-requires-2-clause-order : goal.convert-requires-2-clause-order
convert-requires-2-clause-order c =
    let d = side c.args.on in
    let l = c.args.f.now.level in
    let x = held c.args.x.now c.args.kept in
    let r = ready c.args.f.now c.cells.ensures.fitted in
    there_in_order d l x (held c.in_ok-there.there.fields c.in_ok-there.there.kept) c.in_ok-there.ensures (c.rising_entries.ensures (sides.other d) l (converted d l x) r (c.converting.ensures.whole d l x r c.requires.allowed))

pub returns : goal.returns
returns c =
    back_entries (side c.args.on) (side c.other.result) c.args.f.now.level (held c.args.x.now c.args.kept) (held c.in_ok-there.there.fields c.in_ok-there.there.kept) (held c.in_ok-back.back.fields c.in_ok-back.back.kept) c.other.ensures c.in_ok-there.ensures c.in_ok-back.ensures (c.converting.ensures.back (side c.args.on) c.args.f.now.level (held c.args.x.now c.args.kept) (ready c.args.f.now c.cells.ensures.fitted) c.requires.allowed)
