-- What a region holds after a list of calls.
use Rattle.std.proofs.Common.{◌≡◌, ◌≢◌, ℕ, zero, suc, ◌+◌, ◌≤◌, ◌<◌, List, [], ◌∷◌, length, Option, None, Some, Bool, true, false, nat_eq, ap, refl, subst, ◌∙◌, arith}
use Rattle.std.specs.Prelude.{if◌then◌else◌, slice_set}
use Rattle.std.proofs.lemmas.Bool.Decides.{nat_tests}
use Rattle.std.proofs.lemmas.List.{length-set, length-replicate}
use Rattle.record_region.specs.laws.Laws.{piece_at-set_same, piece_at-set_other, live_within, used-set}
use Rattle.record_region.specs.Places.{Places, piece_at, chunks_in, used, spare}
use Rattle.record_region.specs.Runs.{Call, Put, Refused, Free, AnswersAll, called_all, opened, put_last}
use Rattle.record_region.proofs.Opening.{used-none}

piece_at-set : (places : Places) (first chunk : ℕ) (piece : Option (List ℕ)) → first < length places → piece_at (slice_set places first piece) chunk ≡ (if nat_eq first chunk then piece else piece_at places chunk)
piece_at-set places first chunk piece within = by (nat_eq first chunk) refl
  where
    by : (b : Bool) → nat_eq first chunk ≡ b → piece_at (slice_set places first piece) chunk ≡ (if b then piece else piece_at places chunk)
    by true is =
        let same : first ≡ chunk = grind (arith, nat_tests) in
        subst (λ (k : ℕ). piece_at (slice_set places first piece) k ≡ piece) same (piece_at-set_same places first piece within)
    by false is = let other : chunk ≢ first = grind (arith, nat_tests) in piece_at-set_other places first chunk piece other

bytes_from : (chunk : ℕ) (places : Places) (cs : List Call) → AnswersAll places cs → piece_at (called_all places cs) chunk ≡ put_last chunk (piece_at places chunk) cs
bytes_from chunk places [] h = refl
bytes_from chunk places (Put first bytes ∷ cs) h =
    bytes_from chunk (slice_set places first (Some bytes)) cs h.1 ∙ ap (λ (o : Option (List ℕ)). put_last chunk o cs) (piece_at-set places first chunk (Some bytes) h.0.0)
bytes_from chunk places (Refused bytes ∷ cs) h = bytes_from chunk places cs h.1
bytes_from chunk places (Free first ∷ cs) h =
    bytes_from chunk (slice_set places first None) cs h.1 ∙ ap (λ (o : Option (List ℕ)). put_last chunk o cs) (piece_at-set places first chunk None (live_within places first h.0))

count_from : (places : Places) (cs : List Call) → used places ≤ length places → AnswersAll places cs → spare (called_all places cs) + used (called_all places cs) ≡ length places
count_from places [] within h = omega arith
count_from places (Put first bytes ∷ cs) within h =
    let law = used-set places first (Some bytes) h.0.0 in
    let none = ap chunks_in h.0.1 in
    let room = h.0.2 in
    let long = length-set places first (Some bytes) in
    let more = count_from (slice_set places first (Some bytes)) cs (omega (arith, law, none, room, long, within)) h.1 in
    omega (arith, more, long)
count_from places (Refused bytes ∷ cs) within h = count_from places cs within h.1
count_from places (Free first ∷ cs) within h =
    let law = used-set places first None (live_within places first h.0) in
    let long = length-set places first None in
    let more = count_from (slice_set places first None) cs (omega (arith, law, long, within)) h.1 in
    omega (arith, more, long)

piece_at-opened : (chunks chunk : ℕ) → piece_at (opened chunks) chunk ≡ None
piece_at-opened zero chunk = refl
piece_at-opened (suc n) zero = refl
piece_at-opened (suc n) (suc chunk) = piece_at-opened n chunk

pub bytes_last : (chunks : ℕ) (cs : List Call) → AnswersAll (opened chunks) cs → (chunk : ℕ) → piece_at (called_all (opened chunks) cs) chunk ≡ put_last chunk None cs
bytes_last chunks cs h chunk = bytes_from chunk (opened chunks) cs h ∙ ap (λ (o : Option (List ℕ)). put_last chunk o cs) (piece_at-opened chunks chunk)

pub all_counted : (chunks : ℕ) (cs : List Call) → AnswersAll (opened chunks) cs → spare (called_all (opened chunks) cs) + used (called_all (opened chunks) cs) ≡ chunks
all_counted chunks cs h =
    let long : length (opened chunks) ≡ chunks = length-replicate chunks None in
    let empty = used-none chunks in
    count_from (opened chunks) cs (omega (arith, empty)) h ∙ long
