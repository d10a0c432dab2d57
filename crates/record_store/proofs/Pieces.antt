-- What the rows see where one piece of the region changes that none of them has.
use Rattle.std.proofs.Common.{◌≡◌, ◌≢◌, ℕ, ◌+◌, ◌*◌, ◌≤◌, List, [], ◌∷◌, length, map, Option, None, Some, Bool, true, false, ap, refl, sym, subst, ◌∙◌, arith, nat_eq}
use Rattle.std.specs.Prelude.{if◌then◌else◌, slice_set, IsSome, IsUtf8}
use Rattle.std.proofs.lemmas.Bool.Decides.{nat_tests}
use Rattle.kube_meta.specs.Window.{weights}
use Rattle.record_region.specs.Chunks.{chunks_of}
use Rattle.record_region.specs.laws.Laws.{piece_at-set_other, live-set_other}
use Rattle.record_region.specs.Places.{Places, piece_at, bytes_in, bytes_at, chunks_in}
use Rattle.record_store.specs.declared.row.Row.{Row}
use Rattle.record_store.specs.declared.past.Past.{Past}
use Rattle.record_store.specs.Held.{holders, pieces_in}
use Rattle.record_store.specs.Pasts.{rows_of}
use Rattle.record_store.specs.View.{Item, Old, record_of}
use Rattle.record_store.specs.Inside.{item_of, old_of, IsKept, AreKept, taken, row_weight}

-- ---- whose a piece is

pub at_most_one : (o : Option (List ℕ)) → pieces_in o ≤ 1
at_most_one None = omega arith
at_most_one (Some b) = omega arith

pub own : (r : Row) (rs : List Row) → holders r.piece (r ∷ rs) ≡ 1 + holders r.piece rs
own r rs = let e : nat_eq r.piece r.piece ≡ true = grind (arith, nat_tests) in rw e refl

pub apart : (p : ℕ) (r : Row) (rs : List Row) → holders p (r ∷ rs) ≡ 0 → (r.piece ≢ p) × (holders p rs ≡ 0)
apart p r rs h = by (nat_eq r.piece p) refl h
  where
    by : (b : Bool) → nat_eq r.piece p ≡ b → (if b then 1 else 0) + holders p rs ≡ 0 → (r.piece ≢ p) × (holders p rs ≡ 0)
    by true is h = absurd (omega (arith, h))
    by false is h = (grind (arith, nat_tests), omega (arith, h))

-- ---- one piece changes

module _ (places : Places) (p : ℕ) (piece : Option (List ℕ)) where
  abbrev after : Places
  after = slice_set places p piece

  bytes-set : (r : Row) → r.piece ≢ p → bytes_at after r.piece ≡ bytes_at places r.piece
  bytes-set r other = ap bytes_in (piece_at-set_other places p r.piece piece other)

  item-set : (r : Row) → r.piece ≢ p → item_of after r ≡ item_of places r
  item-set r other =
      ap (λ (b : List ℕ). record { key = r.key; at = r.record.at; rv = r.record.rv; born = r.record.born; weight = r.record.weight; bytes = b }) (bytes-set r other)

  kept-set : (r : Row) → r.piece ≢ p → IsKept places r → IsKept after r
  kept-set r other h =
      let same = bytes-set r other in
      record {
        live = live-set_other places p r.piece piece other h.live;
        text = subst IsUtf8 (sym same) h.text;
        len = ap length same ∙ h.len;
        chunks = h.chunks;
      }

  pub items-set : (rs : List Row) → holders p rs ≡ 0 → map (item_of after) rs ≡ map (item_of places) rs
  items-set [] h = refl
  items-set (r ∷ rs) h =
      let a = apart p r rs h in
      ap (λ (x : Item). x ∷ map (item_of after) rs) (item-set r a.0) ∙ ap (λ (xs : List Item). item_of places r ∷ xs) (items-set rs a.1)

  pub olds-set : (ps : List Past) → holders p (rows_of ps) ≡ 0 → map (old_of after) ps ≡ map (old_of places) ps
  olds-set [] h = refl
  olds-set (q ∷ ps) h =
      let a = apart p q.row (rows_of ps) h in
      ap (λ (x : Item). record { by = q.by; item = x } ∷ map (old_of after) ps) (item-set q.row a.0) ∙ ap (λ (xs : List Old). old_of places q ∷ xs) (olds-set ps a.1)

  pub all_kept-set : (rs : List Row) → holders p rs ≡ 0 → AreKept places rs → AreKept after rs
  all_kept-set [] h k = tt
  all_kept-set (r ∷ rs) h k = let a = apart p r rs h in (kept-set r a.0 k.0, all_kept-set rs a.1 k.1)

-- ---- chunks

chunks_live : (o : Option (List ℕ)) → IsSome o → chunks_in o ≡ chunks_of (length (bytes_in o))
chunks_live None h = absurd (cc)
chunks_live (Some b) h = refl

pub chunks_kept : (places : Places) (r : Row) → IsKept places r → chunks_in (piece_at places r.piece) ≡ chunks_of r.record.len
chunks_kept places r h = chunks_live (piece_at places r.piece) h.live ∙ ap chunks_of h.len

pub taken-le : (places : Places) (rs : List Row) → AreKept places rs → taken rs ≤ weights row_weight rs
taken-le places [] h = omega arith
taken-le places (r ∷ rs) h = let c = h.0.chunks in let more = taken-le places rs h.1 in omega (arith, c, more)

-- each row has a chunk at least
pub rows-weigh : (places : Places) (rs : List Row) → AreKept places rs → length rs ≤ weights row_weight rs
rows-weigh places [] h = omega arith
rows-weigh places (r ∷ rs) h =
    let more = rows-weigh places rs h.1 in
    let one = h.0.chunks in
    omega (arith, more, one)

pub record-kept : (places : Places) (r : Row) → IsKept places r → record_of (item_of places r) ≡ r.record
record-kept places r h = ap (λ (n : ℕ). record { at = r.record.at; rv = r.record.rv; born = r.record.born; weight = r.record.weight; len = n }) h.len

-- a text fits the chunks that are kept for it
pub chunks-within : (n w : ℕ) → w ≢ 0 → n ≤ 256 * w → chunks_of n ≤ w
chunks-within n w some within = omega arith
