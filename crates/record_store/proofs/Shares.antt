-- The rows and the window go on sharing out the pieces of the region.
use Rattle.std.proofs.Common.{◌≡◌, ◌≢◌, ℕ, ◌+◌, ◌≤◌, ◌<◌, List, [], ◌∷◌, ◌++◌, length, map, None, Some, Bool, true, false, ap, refl, sym, subst, ◌∙◌, arith, nat_eq}
use Rattle.std.specs.Prelude.{if◌then◌else◌, slice_set, IsUtf8}
use Rattle.std.proofs.lemmas.Bool.Decides.{nat_tests}
use Rattle.std.proofs.lemmas.List.{length-set}
use Rattle.kube_meta.specs.Key.{KeyView}
use Rattle.kube_meta.specs.Window.{weights, fits, newest}
use Rattle.kube_meta.specs.declared.limits.Limits.{Limits}
use Rattle.record_region.specs.Chunks.{chunks_of}
use Rattle.record_region.specs.laws.Laws.{piece_at-set_other, piece_at-set_same, live-put, live_within, used-set}
use Rattle.record_region.specs.Places.{Places, piece_at, bytes_in, bytes_at, chunks_in, used}
use Rattle.record_store.specs.ByKey.{find, put, without}
use Rattle.record_store.specs.Rows.{row_key}
use Rattle.record_store.specs.declared.row.Row.{Row}
use Rattle.record_store.specs.declared.past.Past.{Past}
use Rattle.record_store.specs.Held.{holders, pieces_in, pieces_at, trimmed}
use Rattle.record_store.specs.Pasts.{past_weight, rows_of}
use Rattle.record_store.specs.Inside.{item_of, old_of, IsKept, AreKept, taken, Shares}
use Rattle.record_store.proofs.Keyed.{weights-put, weights-without, each-put, each-without, each-found, each-push}
use Rattle.record_store.proofs.Mapped.{push-seen}
use Rattle.record_store.proofs.Pieces.{at_most_one, own, items-set, olds-set, all_kept-set, chunks_kept}

-- one row's share of a chunk
abbrev share : ℕ → Row → ℕ
share chunk r = if nat_eq r.piece chunk then 1 else 0

weights-push : (w : Row → ℕ) (rs : List Row) (r : Row) → weights w (rs ++ r ∷ []) ≡ weights w rs + w r
weights-push w [] r = omega arith
weights-push w (s ∷ rs) r = let e = weights-push w rs r in omega (arith, e)

-- ---- the oldest of the window leaves, and its piece is freed

pub record Frees (rows : List Row) (qs : List Past) (places after : Places) (p : ℕ) : Type 0 where
  pub shares : Shares rows qs after
  pub rows_apart : holders p rows ≡ 0
  pub pasts_apart : holders p (rows_of qs) ≡ 0

pub frees : (rows : List Row) (q : Past) (qs : List Past) (places : Places) → Shares rows (q ∷ qs) places → Frees rows qs places (slice_set places q.row.piece None) q.row.piece
frees rows q qs places h = record {
  shares = record { owned = owned; kept = all_kept-set places p None rows none.0 h.kept; past_kept = all_kept-set places p None (rows_of qs) none.1 h.past_kept.1; counted = counted };
  rows_apart = none.0;
  pasts_apart = none.1;
}
  where
    p : ℕ
    p = q.row.piece

    within : p < length places
    within = live_within places p h.past_kept.0.live

    none : (holders p rows ≡ 0) × (holders p (rows_of qs) ≡ 0)
    none =
        let all = h.owned p in
        let one = at_most_one (piece_at places p) in
        let mine = own q.row (rows_of qs) in
        (omega (arith, all, one, mine), omega (arith, all, one, mine))

    owned : (chunk : ℕ) → holders chunk rows + holders chunk (rows_of qs) ≡ pieces_at (slice_set places p None) chunk
    owned chunk = by (nat_eq p chunk) refl
      where
        by : (b : Bool) → nat_eq p chunk ≡ b → holders chunk rows + holders chunk (rows_of qs) ≡ pieces_at (slice_set places p None) chunk
        by true is =
            let same : p ≡ chunk = grind (arith, nat_tests) in
            let P : ℕ → Type 0 = λ c. holders c rows + holders c (rows_of qs) ≡ pieces_at (slice_set places p None) c in
            let gone = ap pieces_in (piece_at-set_same places p None within) in
            subst P same (omega (arith, none, gone))
        by false is =
            let other : chunk ≢ p = grind (arith, nat_tests) in
            let stays = ap pieces_in (piece_at-set_other places p chunk None other) in
            let all = h.owned chunk in
            let mine : holders chunk (q.row ∷ rows_of qs) ≡ 0 + holders chunk (rows_of qs) = rw is refl in
            omega (arith, all, stays, mine)

    counted : used (slice_set places p None) ≡ taken rows + taken (rows_of qs)
    counted =
        let law = used-set places p None within in
        let its = chunks_kept places q.row h.past_kept.0 in
        let all = h.counted in
        omega (arith, law, its, all)

-- ---- all that don't fit leave

pub record Trims (rows : List Row) (kept : List Past) (places after : Places) : Type 0 where
  pub shares : Shares rows kept after
  pub rows_seen : map (item_of after) rows ≡ map (item_of places) rows
  pub window_seen : map (old_of after) kept ≡ map (old_of places) kept
  pub size : length after ≡ length places

fewer_holders : (limits : Limits) (chunk : ℕ) (qs : List Past) → holders chunk (rows_of (newest past_weight limits qs)) ≤ holders chunk (rows_of qs)
fewer_holders limits chunk [] = omega arith
fewer_holders limits chunk (q ∷ qs) = by (fits past_weight limits (q ∷ qs)) (fewer_holders limits chunk qs)
  where
    by : (b : Bool) → holders chunk (rows_of (newest past_weight limits qs)) ≤ holders chunk (rows_of qs) → holders chunk (rows_of (if b then q ∷ qs else newest past_weight limits qs)) ≤ holders chunk (rows_of (q ∷ qs))
    by true more = omega arith
    by false more = omega (arith, more)

pub trims : (limits : Limits) (rows : List Row) (qs : List Past) (places : Places) → Shares rows qs places → Trims rows (newest past_weight limits qs) places (trimmed limits qs places)
trims limits rows [] places h = record { shares = h; rows_seen = refl; window_seen = refl; size = refl }
trims limits rows (q ∷ qs) places h = by (fits past_weight limits (q ∷ qs)) (trims limits rows qs (slice_set places q.row.piece None) (frees rows q qs places h).shares)
  where
    first : Frees rows qs places (slice_set places q.row.piece None) q.row.piece
    first = frees rows q qs places h

    by : (b : Bool) → Trims rows (newest past_weight limits qs) (slice_set places q.row.piece None) (trimmed limits qs (slice_set places q.row.piece None))
        → Trims rows (if b then q ∷ qs else newest past_weight limits qs) places (if b then places else trimmed limits qs (slice_set places q.row.piece None))
    by true more = record { shares = h; rows_seen = refl; window_seen = refl; size = refl }
    by false more =
        let fewer = fewer_holders limits q.row.piece qs in
        let none = first.pasts_apart in
        record {
          shares = more.shares;
          rows_seen = more.rows_seen ∙ items-set places q.row.piece None rows first.rows_apart;
          window_seen = more.window_seen ∙ olds-set places q.row.piece None (newest past_weight limits qs) (omega (arith, fewer, none));
          size = more.size ∙ length-set places q.row.piece None;
        }

-- ---- a row goes into the window

pub moves : (k : KeyView) (r : Row) (now : ℕ) (rows : List Row) (qs : List Past) (places : Places) → find row_key k rows ≡ Some r → Shares rows qs places → Shares (without row_key k rows) (qs ++ record { by = now; row = r } ∷ []) places
moves k r now rows qs places e h = record {
  owned = λ chunk.
      let all = h.owned chunk in
      let less = weights-without row_key (share chunk) k r rows e in
      let more = ap (holders chunk) seen ∙ weights-push (share chunk) (rows_of qs) r in
      omega (arith, all, less, more);
  kept = each-without row_key (IsKept places) k rows h.kept;
  past_kept = subst (AreKept places) (sym seen) (each-push (IsKept places) (rows_of qs) r h.past_kept (each-found row_key (IsKept places) k r rows e h.kept));
  counted =
      let all = h.counted in
      let less = weights-without row_key (λ s. chunks_of s.record.len) k r rows e in
      let more = ap taken seen ∙ weights-push (λ s. chunks_of s.record.len) (rows_of qs) r in
      omega (arith, all, less, more);
}
  where
    seen : rows_of (qs ++ record { by = now; row = r } ∷ []) ≡ rows_of qs ++ r ∷ []
    seen = push-seen (λ (p : Past). p.row) qs (record { by = now; row = r })

-- ---- a new row, with a piece of its own

pub record Adds (rows : List Row) (qs : List Past) (r : Row) (places after : Places) : Type 0 where
  pub shares : Shares (put row_key r rows) qs after
  pub rows_seen : map (item_of after) rows ≡ map (item_of places) rows
  pub window_seen : map (old_of after) qs ≡ map (old_of places) qs

pub adds : (r : Row) (bytes : List ℕ) (rows : List Row) (qs : List Past) (places : Places) → find row_key r.key rows ≡ None → piece_at places r.piece ≡ None → r.piece < length places
    → IsUtf8 bytes → length bytes ≡ r.record.len → chunks_of r.record.len ≤ r.record.weight → Shares rows qs places → Adds rows qs r places (slice_set places r.piece (Some bytes))
adds r bytes rows qs places fresh unused within text len fitting h = record {
  shares = record {
    owned = owned;
    kept = each-put row_key (IsKept after) r rows its (all_kept-set places p (Some bytes) rows none.0 h.kept);
    past_kept = all_kept-set places p (Some bytes) (rows_of qs) none.1 h.past_kept;
    counted = counted;
  };
  rows_seen = items-set places p (Some bytes) rows none.0;
  window_seen = olds-set places p (Some bytes) qs none.1;
}
  where
    p : ℕ
    p = r.piece

    after : Places
    after = slice_set places p (Some bytes)

    none : (holders p rows ≡ 0) × (holders p (rows_of qs) ≡ 0)
    none =
        let all = h.owned p in
        let free = ap pieces_in unused in
        (omega (arith, all, free), omega (arith, all, free))

    is : bytes_at after p ≡ bytes
    is = ap bytes_in (piece_at-set_same places p (Some bytes) within)

    its : IsKept after r
    its = record { live = live-put places p bytes within; text = subst IsUtf8 (sym is) text; len = ap length is ∙ len; chunks = fitting }

    owned : (chunk : ℕ) → holders chunk (put row_key r rows) + holders chunk (rows_of qs) ≡ pieces_at after chunk
    owned chunk = by (nat_eq p chunk) refl
      where
        by : (b : Bool) → nat_eq p chunk ≡ b → holders chunk (put row_key r rows) + holders chunk (rows_of qs) ≡ pieces_at after chunk
        by true e =
            let same : p ≡ chunk = grind (arith, nat_tests) in
            let P : ℕ → Type 0 = λ c. holders c (put row_key r rows) + holders c (rows_of qs) ≡ pieces_at after c in
            let here = ap pieces_in (piece_at-set_same places p (Some bytes) within) in
            let more = weights-put row_key (share p) r rows fresh in
            let one : share p r ≡ 1 = let t : nat_eq r.piece p ≡ true = grind (arith, nat_tests) in rw t refl in
            subst P same (omega (arith, none, here, more, one))
        by false e =
            let other : chunk ≢ p = grind (arith, nat_tests) in
            let stays = ap pieces_in (piece_at-set_other places p chunk (Some bytes) other) in
            let all = h.owned chunk in
            let more = weights-put row_key (share chunk) r rows fresh in
            let zero : share chunk r ≡ 0 = rw e refl in
            omega (arith, all, stays, more, zero)

    counted : used after ≡ taken (put row_key r rows) + taken (rows_of qs)
    counted =
        let law = used-set places p (Some bytes) within in
        let free = ap chunks_in unused in
        let all = h.counted in
        let more = weights-put row_key (λ s. chunks_of s.record.len) r rows fresh in
        let long = ap chunks_of len in
        omega (arith, law, free, all, more, long)
