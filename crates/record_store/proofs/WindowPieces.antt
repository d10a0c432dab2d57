-- The count of the rows that have a piece, where one is freed.
use Rattle.std.proofs.Common.{◌≡◌, ◌≢◌, ℕ, ◌+◌, ◌≤◌, List, [], ◌∷◌, Option, None, Some, Bool, true, false, ap, refl, arith, nat_eq}
use Rattle.std.specs.Prelude.{slice_set, IsSome}
use Rattle.std.proofs.lemmas.Bool.Decides.{nat_tests}
use Rattle.kube_meta.specs.Window.{fits}
use Rattle.kube_meta.specs.declared.limits.Limits.{Limits}
use Rattle.record_region.specs.laws.Laws.{piece_at-set_other}
use Rattle.record_region.specs.Places.{Places, piece_at, IsLive}
use Rattle.record_store.specs.declared.row.Row.{Row}
use Rattle.record_store.specs.declared.past.Past.{Past}
use Rattle.record_store.specs.Held.{pieces_in, pieces_at, holders, trimmed}
use Rattle.record_store.specs.Pasts.{past_weight}

at_most_one : (o : Option (List ℕ)) → pieces_in o ≤ 1
at_most_one None = omega arith
at_most_one (Some b) = omega arith

some_live : (o : Option (List ℕ)) → 1 ≤ pieces_in o → IsSome o
some_live None h = absurd (omega (arith, h))
some_live (Some b) h = refl

-- a row's own piece
own : (r : Row) (rs : List Row) → holders r.piece (r ∷ rs) ≡ 1 + holders r.piece rs
own r rs = let e : nat_eq r.piece r.piece ≡ true = grind (arith, nat_tests) in rw e refl

-- where each piece has one row at most, the first row's piece is live
pub first_live : (r : Row) (rs : List Row) (places : Places) → ((chunk : ℕ) → holders chunk (r ∷ rs) ≤ pieces_at places chunk) → IsLive places r.piece
first_live r rs places apart =
    let h = apart r.piece in
    let o = own r rs in
    some_live (piece_at places r.piece) (omega (arith, h, o))

-- and after it was freed, the rest still have one row at most
pub rest_apart : (r : Row) (rs : List Row) (places : Places) → ((chunk : ℕ) → holders chunk (r ∷ rs) ≤ pieces_at places chunk) → (chunk : ℕ) → holders chunk rs ≤ pieces_at (slice_set places r.piece None) chunk
rest_apart r rs places apart chunk = by (nat_eq r.piece chunk) refl
  where
    by : (b : Bool) → nat_eq r.piece chunk ≡ b → holders chunk rs ≤ pieces_at (slice_set places r.piece None) chunk
    by true is =
        let h = apart chunk in
        let m = at_most_one (piece_at places chunk) in
        let o : holders chunk (r ∷ rs) ≡ 1 + holders chunk rs = rw is refl in
        omega (arith, h, m, o)
    by false is =
        let other : chunk ≢ r.piece = grind (arith, nat_tests) in
        let same = ap pieces_in (piece_at-set_other places r.piece chunk None other) in
        let h = apart chunk in
        let o : holders chunk (r ∷ rs) ≡ 0 + holders chunk rs = rw is refl in
        omega (arith, h, o, same)

pub trimmed-fitting : (limits : Limits) (ps : List Past) (places : Places) → fits past_weight limits ps ≡ true → trimmed limits ps places ≡ places
trimmed-fitting limits [] places h = refl
trimmed-fitting limits (p ∷ ps) places h = rw h refl

pub trimmed-unfit : (limits : Limits) (p : Past) (ps : List Past) (places : Places) → fits past_weight limits (p ∷ ps) ≡ false → trimmed limits (p ∷ ps) places ≡ trimmed limits ps (slice_set places p.row.piece None)
trimmed-unfit limits p ps places h = rw h refl
