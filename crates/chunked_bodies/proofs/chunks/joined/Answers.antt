use Rattle.std.proofs.Common.{arith}
use Rattle.chunked_bodies.proofs.Bodies.{goes_none_at, goes_end_at, chunk_within}
use Rattle.chunked_bodies.proofs.chunks.joined.Goals as goal

pub slice_bounds-next_of-count : goal.slice_bounds-next_of-count
slice_bounds-next_of-count c = c.loop-start.invariant.within

pub slice_bounds-next_of-start : goal.slice_bounds-next_of-start
slice_bounds-next_of-start c = omega (arith, c.loop-start.invariant.within)

pub overflow_add-at : goal.overflow_add-at
overflow_add-at c =
    omega (arith, chunk_within _ _ _ _ c.loop-start.invariant.within c.in-Chunk.ensures, c.in-Chunk.ensures.ordered)

pub overflow_add-at-in-Chunk : goal.overflow_add-at-in-Chunk
overflow_add-at-in-Chunk c =
    omega (arith, chunk_within _ _ _ _ c.loop-start.invariant.within c.in-Chunk.ensures, c.in-Chunk.ensures.ordered)

pub slice_bounds-extend_from_slice-count : goal.slice_bounds-extend_from_slice-count
slice_bounds-extend_from_slice-count c = omega (arith, c.in-Chunk.ensures.ordered)

pub slice_bounds-extend_from_slice-start : goal.slice_bounds-extend_from_slice-start
slice_bounds-extend_from_slice-start c =
    omega (arith, chunk_within _ _ _ _ c.loop-start.invariant.within c.in-Chunk.ensures, c.in-Chunk.ensures.ordered)

pub slice_bounds-extend_from_slice-end : goal.slice_bounds-extend_from_slice-end
slice_bounds-extend_from_slice-end c =
    omega (arith, chunk_within _ _ _ _ c.loop-start.invariant.within c.in-Chunk.ensures, c.in-Chunk.ensures.ordered)

pub overflow_add-at-in-Chunk-2 : goal.overflow_add-at-in-Chunk-2
overflow_add-at-in-Chunk-2 c =
    omega (arith, chunk_within _ _ _ _ c.loop-start.invariant.within c.in-Chunk.ensures)

pub overflow_add-at-in-Chunk-3 : goal.overflow_add-at-in-Chunk-3
overflow_add-at-in-Chunk-3 c =
    omega (arith, chunk_within _ _ _ _ c.loop-start.invariant.within c.in-Chunk.ensures)

pub loop-start-smaller : goal.loop-start-smaller
loop-start-smaller c =
    omega (arith, chunk_within _ _ _ _ c.loop-start.invariant.within c.in-Chunk.ensures)

pub returns-in-Nothing : goal.returns-in-Nothing
returns-in-Nothing c = goes_none_at _ _ _ c.loop-start.invariant.goes c.in-Nothing.ensures

pub returns-in-End : goal.returns-in-End
returns-in-End c = goes_end_at _ _ _ c.loop-start.invariant.goes c.in-End.ensures
