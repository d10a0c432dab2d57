use Rattle.std.proofs.Common.{◌≡◌, ◌++◌, List, ℕ, take, ap, sym, ◌∙◌}
use Rattle.record_region.specs.Chunks.{chunks_of}
use Rattle.record_region.specs.Places.{bytes_at}
use Rattle.record_region.specs.Chains.{content}
use Rattle.record_region.proofs.Regions.{held_by}
use Rattle.record_region.proofs.region.Region.get.Goals as goal

pub gather-requires-clause-within : goal.gather-requires-clause-within
gather-requires-clause-within c =
    let h = held_by c.self.inside.store.items c.self.inside.links.items c.self.inside.marks.items c.self.inside.head c.self.inside.free c.args.self.now c.args.piece.now c.piece.inside.first c.length_of-size.result c.self.view_is c.self.invariant c.requires.live c.piece.view_is c.length_of-size.ensures in
    rw c.deref-2.ensures.value h.chain

pub returns : goal.returns
returns c =
    let h = held_by c.self.inside.store.items c.self.inside.links.items c.self.inside.marks.items c.self.inside.head c.self.inside.free c.args.self.now c.args.piece.now c.piece.inside.first c.length_of-size.result c.self.view_is c.self.invariant c.requires.live c.piece.view_is c.length_of-size.ensures in
    let gathered : c.gather.new.out.items ≡ c.args.out.now.items ++ take c.length_of-size.result (content c.self.inside.store.items c.self.inside.links.items (chunks_of c.length_of-size.result) c.piece.inside.first) = rw (c.deref.ensures.value, c.deref-2.ensures.value) at c.gather.ensures in
    gathered ∙ ap (λ (xs : List ℕ). c.args.out.now.items ++ xs) (sym h.bytes ∙ ap (λ (k : ℕ). bytes_at c.args.self.now k) c.piece.view_is)
