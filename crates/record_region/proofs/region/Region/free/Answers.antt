use Rattle.std.proofs.Common.{◌≡◌, ◌-◌, ◌<◌, List, ℕ, Option, None, length, set, ap, ◌∙◌, arith}
use Rattle.record_region.specs.Chains.{walk}
use Rattle.record_region.proofs.Regions.{held_by, freed}
use Rattle.record_region.proofs.region.Region.free.Goals as goal

pub follow-last-requires : goal.follow-last-requires
follow-last-requires c =
    let h = held_by c.self.inside.store.items c.self.inside.links.items c.self.inside.marks.items c.self.inside.head c.self.inside.free c.args.self.now c.args.piece c.piece.inside.first c.length_of.result c.self.view_is c.self.invariant c.requires.live c.piece.view_is c.length_of.ensures in
    rw c.deref.ensures.value (λ j p. h.chain j (omega (arith, c.chunks_of-count.ensures)))

pub index_mut-requires : goal.index_mut-requires
index_mut-requires c =
    let h = held_by c.self.inside.store.items c.self.inside.links.items c.self.inside.marks.items c.self.inside.head c.self.inside.free c.args.self.now c.args.piece c.piece.inside.first c.length_of.result c.self.view_is c.self.invariant c.requires.live c.piece.view_is c.length_of.ensures in
    let at : c.follow-last.result ≡ walk c.self.inside.links.items (c.chunks_of-count.result - 1) c.piece.inside.first = rw c.deref.ensures.value at c.follow-last.ensures in
    let within : walk c.self.inside.links.items (c.chunks_of-count.result - 1) c.piece.inside.first < length c.self.inside.links.items = h.chain (c.chunks_of-count.result - 1) (omega (arith, c.chunks_of-count.ensures)) in
    omega arith

pub index_mut-requires-2 : goal.index_mut-requires-2
index_mut-requires-2 c =
    let h = held_by c.self.inside.store.items c.self.inside.links.items c.self.inside.marks.items c.self.inside.head c.self.inside.free c.args.self.now c.args.piece c.piece.inside.first c.length_of.result c.self.view_is c.self.invariant c.requires.live c.piece.view_is c.length_of.ensures in
    omega (arith, h.inside)

pub overflow_cast-self : goal.overflow_cast-self
overflow_cast-self c =
    let h = held_by c.self.inside.store.items c.self.inside.links.items c.self.inside.marks.items c.self.inside.head c.self.inside.free c.args.self.now c.args.piece c.piece.inside.first c.length_of.result c.self.view_is c.self.invariant c.requires.live c.piece.view_is c.length_of.ensures in
    let f = freed c.self.inside.store.items c.self.inside.links.items c.self.inside.marks.items c.self.inside.head c.self.inside.free c.args.self.now c.piece.inside.first c.length_of.result c.chunks_of-count.result c.follow-last.result c.self.view_is c.self.invariant h c.chunks_of-count.ensures (rw c.deref.ensures.value at c.follow-last.ensures) in
    omega (arith, f.few)

pub overflow_add-self : goal.overflow_add-self
overflow_add-self c =
    let h = held_by c.self.inside.store.items c.self.inside.links.items c.self.inside.marks.items c.self.inside.head c.self.inside.free c.args.self.now c.args.piece c.piece.inside.first c.length_of.result c.self.view_is c.self.invariant c.requires.live c.piece.view_is c.length_of.ensures in
    let f = freed c.self.inside.store.items c.self.inside.links.items c.self.inside.marks.items c.self.inside.head c.self.inside.free c.args.self.now c.piece.inside.first c.length_of.result c.chunks_of-count.result c.follow-last.result c.self.view_is c.self.invariant h c.chunks_of-count.ensures (rw c.deref.ensures.value at c.follow-last.ensures) in
    omega (arith, f.few)

pub invariant_of-self : goal.invariant_of-self
invariant_of-self c =
    let h = held_by c.self.inside.store.items c.self.inside.links.items c.self.inside.marks.items c.self.inside.head c.self.inside.free c.args.self.now c.args.piece c.piece.inside.first c.length_of.result c.self.view_is c.self.invariant c.requires.live c.piece.view_is c.length_of.ensures in
    let f = freed c.self.inside.store.items c.self.inside.links.items c.self.inside.marks.items c.self.inside.head c.self.inside.free c.args.self.now c.piece.inside.first c.length_of.result c.chunks_of-count.result c.follow-last.result c.self.view_is c.self.invariant h c.chunks_of-count.ensures (rw c.deref.ensures.value at c.follow-last.ensures) in
    f.sound

pub returns : goal.returns
returns c =
    let h = held_by c.self.inside.store.items c.self.inside.links.items c.self.inside.marks.items c.self.inside.head c.self.inside.free c.args.self.now c.args.piece c.piece.inside.first c.length_of.result c.self.view_is c.self.invariant c.requires.live c.piece.view_is c.length_of.ensures in
    let f = freed c.self.inside.store.items c.self.inside.links.items c.self.inside.marks.items c.self.inside.head c.self.inside.free c.args.self.now c.piece.inside.first c.length_of.result c.chunks_of-count.result c.follow-last.result c.self.view_is c.self.invariant h c.chunks_of-count.ensures (rw c.deref.ensures.value at c.follow-last.ensures) in
    f.places ∙ ap (λ (k : ℕ). set {A = Option (List ℕ)} c.args.self.now k None) c.piece.view_is
