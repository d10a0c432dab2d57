-- Whose the pieces of a region are.
use Rattle.std.specs.Prelude.{ℕ, List, [], ◌∷◌, Option, None, Some, nat_eq, if◌then◌else◌, slice_set}
use Rattle.kube_meta.specs.declared.limits.Limits.{Limits}
use Rattle.kube_meta.specs.Window.{fits, weights}
use Rattle.record_region.specs.Places.{Places, piece_at}
use Rattle.record_store.specs.declared.row.Row.{Row}
use Rattle.record_store.specs.declared.past.Past.{Past}
use Rattle.record_store.specs.Pasts.{past_weight}

abbrev pub pieces_in : Option (List ℕ) → ℕ
pieces_in None = 0
pieces_in (Some bytes) = 1

-- how many pieces begin at a chunk
abbrev pub pieces_at : Places → ℕ → ℕ
pieces_at places chunk = pieces_in (piece_at places chunk)

-- how many rows have the piece of a chunk
abbrev pub holders : ℕ → List Row → ℕ
holders chunk rs = weights (λ r. if nat_eq r.piece chunk then 1 else 0) rs

-- the region after the pieces of the records that don't fit any more were freed
abbrev pub trimmed : Limits → List Past → Places → Places
trimmed limits [] places = places
trimmed limits (p ∷ ps) places = if fits past_weight limits (p ∷ ps) then places else trimmed limits ps (slice_set places p.row.piece None)
