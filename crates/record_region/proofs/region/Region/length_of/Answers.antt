use Rattle.std.proofs.Common.{refl, arith}
use Rattle.std.proofs.lemmas.List.{get_or_read}
use Rattle.record_region.proofs.Regions.{held_by}
use Rattle.record_region.proofs.region.Region.length_of.Goals as goal

pub index-requires : goal.index-requires
index-requires c =
    let h = held_by c.self.inside.store.items c.self.inside.links.items c.self.inside.marks.items c.self.inside.head c.self.inside.free c.args.self.now c.args.piece.now c.piece.inside.first _ c.self.view_is c.self.invariant c.requires.live c.piece.view_is refl in
    omega (arith, h.inside)

pub overflow_sub-result : goal.overflow_sub-result
overflow_sub-result c =
    let h = held_by c.self.inside.store.items c.self.inside.links.items c.self.inside.marks.items c.self.inside.head c.self.inside.free c.args.self.now c.args.piece.now c.piece.inside.first _ c.self.view_is c.self.invariant c.requires.live c.piece.view_is refl in
    let mark = get_or_read c.self.inside.marks.items c.piece.inside.first c.index.result.now h.inside c.index.ensures 0 in
    omega (arith, h.mark)

pub returns : goal.returns
returns c =
    let h = held_by c.self.inside.store.items c.self.inside.links.items c.self.inside.marks.items c.self.inside.head c.self.inside.free c.args.self.now c.args.piece.now c.piece.inside.first _ c.self.view_is c.self.invariant c.requires.live c.piece.view_is refl in
    let mark = get_or_read c.self.inside.marks.items c.piece.inside.first c.index.result.now h.inside c.index.ensures 0 in
    omega (arith, h.mark)
