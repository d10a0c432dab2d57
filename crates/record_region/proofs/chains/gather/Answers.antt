use Rattle.std.proofs.Common.{◌≡◌, ◌≤◌, ◌<◌, ◌+◌, ◌-◌, ◌*◌, ◌++◌, List, ℕ, suc, min, length, take, drop, ap, sym, ◌∙◌, append_assoc, length-append, arith}
use Rattle.std.proofs.lemmas.List.{length-take}
use Rattle.record_region.specs.declared.chunks.TheConstants.{CHUNK_BYTES}
use Rattle.record_region.specs.Chains.{walk, content}
use Rattle.record_region.proofs.Walks.{walk_more}
use Rattle.record_region.proofs.Stores.{length-content, take-content_more}
use Rattle.record_region.proofs.chains.gather.Goals as goal

longer : (held initial front part more now : List ℕ) → held ≡ initial ++ front → now ≡ held ++ part → more ≡ front ++ part → now ≡ initial ++ more
longer held initial front part more now e f g = f ∙ ap (λ (xs : List ℕ). xs ++ part) e ∙ append_assoc initial front part ∙ ap (λ (xs : List ℕ). initial ++ xs) (sym g)

-- what is held, and one chunk more, has room
roomy : (items initial store : List ℕ) (size step part at : ℕ) (front : List ℕ) → items ≡ initial ++ take size front → length front ≡ CHUNK_BYTES * step → CHUNK_BYTES * step ≤ size → part ≡ min (size - step * CHUNK_BYTES) CHUNK_BYTES → length items + length (take ((at + part) - at) (drop at store)) ≤ length initial + size
roomy items initial store size step part at front e long more f =
    let held : length items ≡ length initial + length (take size front) = ap length e ∙ length-append initial (take size front) in
    omega (arith, length-take size front, length-take ((at + part) - at) (drop at store))

pub unreachable-requires : goal.unreachable-requires
unreachable-requires c =
    let long : length (content c.args.store.now c.args.links.now c.loop-step.step c.args.first) ≡ CHUNK_BYTES * c.loop-step.step = length-content c.args.store.now c.args.links.now c.loop-step.step c.args.first (λ j p. let w : walk c.args.links.now j c.args.first < length c.args.links.now = c.requires.within j (omega arith) in omega arith) in
    let room = roomy c.loop-step.out.items c.args.out.now.items c.args.store.now c.args.size c.loop-step.step c.min-part.result (c.loop-step.chunk * CHUNK_BYTES) _ c.loop-step.invariant.gathered long (omega arith) c.min-part.ensures in
    let full = c.in-Err.ensures.full in
    omega arith

pub loop-step-preserved : goal.loop-step-preserved
loop-step-preserved c =
    let long : length (content c.args.store.now c.args.links.now c.loop-step.step c.args.first) ≡ CHUNK_BYTES * c.loop-step.step = length-content c.args.store.now c.args.links.now c.loop-step.step c.args.first (λ j p. let w : walk c.args.links.now j c.args.first < length c.args.links.now = c.requires.within j (omega arith) in omega arith) in
    let more = take-content_more c.args.store.now c.args.links.now c.args.size c.loop-step.step c.args.first _ c.min-part.result long (omega arith) (ap (λ (k : ℕ). k * CHUNK_BYTES) c.loop-step.invariant.next) c.min-part.ensures in
    let next : c.loop-step.step + 1 ≡ suc c.loop-step.step = omega arith in
    record {
      next = walk_more c.args.links.now c.loop-step.chunk c.loop-step.step c.args.first c.loop-step.invariant.next;
      gathered = longer c.loop-step.out.items c.args.out.now.items _ _ _ c.extend_from_slice.new.self.items c.loop-step.invariant.gathered c.in-Ok.ensures.items (rw next more);
      room = omega arith;
    }
