-- What a change of one place leaves: the laws by which a holder of pieces keeps count of them.
use Rattle.std.specs.Prelude.{◌≡◌, ◌≢◌, ℕ, zero, suc, ◌+◌, ◌-◌, ◌<◌, ◌≤◌, List, [], ◌∷◌, length, Option, Some, None, slice_set, IsSome}
use Rattle.std.proofs.Common.{arith, ap, subst, sym, refl, ◌∙◌}
use Rattle.std.proofs.lemmas.Bool.{false≢true}
use Rattle.std.proofs.lemmas.List.{get_or-set_same, get_or-set_other, length-set}
use Rattle.record_region.specs.Chunks.{chunks_of}
use Rattle.record_region.specs.Places.{Places, piece_at, chunks_in, used, spare, IsLive}

-- the piece at the place that changed
pub piece_at-set_same : (places : Places) (chunk : ℕ) (piece : Option (List ℕ)) → chunk < length places → piece_at (slice_set places chunk piece) chunk ≡ piece
piece_at-set_same places chunk piece within = get_or-set_same places chunk piece None within

-- the piece at any other place
pub piece_at-set_other : (places : Places) (chunk other : ℕ) (piece : Option (List ℕ)) → other ≢ chunk → piece_at (slice_set places chunk piece) other ≡ piece_at places other
piece_at-set_other places chunk other piece apart = get_or-set_other places chunk other piece None apart

-- a chunk where no piece begins isn't one where a piece does
pub unused_apart : (places : Places) (chunk other : ℕ) → piece_at places chunk ≡ None → IsLive places other → other ≢ chunk
unused_apart places chunk other unused live e =
    let P : Option (List ℕ) → Type 0 = λ p. IsSome p in
    false≢true (subst P (ap (λ (k : ℕ). piece_at places k) e ∙ unused) live)

-- a put leaves every live piece as it is
pub piece_at-put : (places : Places) (chunk other : ℕ) (piece : Option (List ℕ)) → piece_at places chunk ≡ None → IsLive places other → piece_at (slice_set places chunk piece) other ≡ piece_at places other
piece_at-put places chunk other piece unused live = piece_at-set_other places chunk other piece (unused_apart places chunk other unused live)

-- a piece that was put is live
pub live-put : (places : Places) (chunk : ℕ) (bytes : List ℕ) → chunk < length places → IsLive (slice_set places chunk (Some bytes)) chunk
live-put places chunk bytes within =
    let P : Option (List ℕ) → Type 0 = λ p. IsSome p in
    subst P (sym (piece_at-set_same places chunk (Some bytes) within)) refl

-- a live piece stays live where another changes
pub live-set_other : (places : Places) (chunk other : ℕ) (piece : Option (List ℕ)) → other ≢ chunk → IsLive places other → IsLive (slice_set places chunk piece) other
live-set_other places chunk other piece apart live =
    let P : Option (List ℕ) → Type 0 = λ p. IsSome p in
    subst P (sym (piece_at-set_other places chunk other piece apart)) live

-- the chunks that are used, where a piece takes the place of another or of none
pub used-set : (places : Places) (chunk : ℕ) (piece : Option (List ℕ)) → chunk < length places → used (slice_set places chunk piece) + chunks_in (piece_at places chunk) ≡ used places + chunks_in piece
used-set [] chunk piece within = absurd (omega arith)
used-set (p ∷ ps) zero piece within = omega arith
used-set (p ∷ ps) (suc i) piece within = omega (arith, used-set ps i piece (omega arith))

-- a live piece begins at a chunk of the region
pub live_within : (places : Places) (chunk : ℕ) → IsLive places chunk → chunk < length places
live_within [] chunk live = absurd (cc)
live_within (p ∷ ps) zero live = omega arith
live_within (p ∷ ps) (suc i) live = omega (arith, live_within ps i live)

-- a piece takes some of the chunks that are used
pub chunks_in-le : (places : Places) (chunk : ℕ) → chunk < length places → chunks_in (piece_at places chunk) ≤ used places
chunks_in-le [] chunk within = absurd (omega arith)
chunks_in-le (p ∷ ps) zero within = omega arith
chunks_in-le (p ∷ ps) (suc i) within = omega (arith, chunks_in-le ps i (omega arith))

-- a put takes the chunks of its bytes from the spare ones
pub spare-put : (places : Places) (chunk : ℕ) (bytes : List ℕ) → chunk < length places → piece_at places chunk ≡ None → spare (slice_set places chunk (Some bytes)) ≡ spare places - chunks_of (length bytes)
spare-put places chunk bytes within unused =
    let law = used-set places chunk (Some bytes) within in
    let none : chunks_in (piece_at places chunk) ≡ 0 = ap chunks_in unused in
    omega (arith, length-set places chunk (Some bytes))

-- a free gives the chunks of its piece back
pub spare-free : (places : Places) (chunk : ℕ) → chunk < length places → used places ≤ length places → spare (slice_set places chunk None) ≡ spare places + chunks_in (piece_at places chunk)
spare-free places chunk within counted =
    let law = used-set places chunk None within in
    omega (arith, length-set places chunk None)
