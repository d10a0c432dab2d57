-- Places, by the fields of a region.
use Rattle.std.proofs.Common.{◌≡◌, ◌≢◌, ℕ, zero, suc, ◌+◌, ◌<◌, ◌⊎◌, List, [], ◌∷◌, length, take, get_or, set, Some, None, refl, ap, sym, ◌∙◌, inl, inr, arith}
use Rattle.std.specs.Prelude.{IsSome}
use Rattle.std.proofs.lemmas.Bool.{cases_eq}
use Rattle.std.proofs.lemmas.List.{get_or-set_other, get_or-set_same, length-set, ext_get_or}
use Rattle.record_region.specs.Chunks.{chunks_of}
use Rattle.record_region.specs.Chains.{walk, chunk_at, content, marked, places_from, chain_length}
use Rattle.record_region.proofs.Stores.{content-same}

pub length-places_from : (store links : List ℕ) (first : ℕ) (marks : List ℕ) → length (places_from store links first marks) ≡ length marks
length-places_from store links first [] = refl
length-places_from store links first (m ∷ ms) = ap suc (length-places_from store links (suc first) ms)

pub get_or-places_from : (store links : List ℕ) (first : ℕ) (marks : List ℕ) (i : ℕ) → get_or (places_from store links first marks) i None ≡ marked store links (get_or marks i 0) (first + i)
get_or-places_from store links first [] i = refl
get_or-places_from store links first (m ∷ ms) zero =
    let e : first ≡ first + 0 = omega arith in
    ap (λ (k : ℕ). marked store links m k) e
get_or-places_from store links first (m ∷ ms) (suc i) =
    let e : suc first + i ≡ first + suc i = omega arith in
    get_or-places_from store links (suc first) ms i ∙ ap (λ (k : ℕ). marked store links (get_or ms i 0) k) e

-- at a chunk of the region
pub piece_is : (store links marks : List ℕ) (i : ℕ) → get_or (places_from store links 0 marks) i None ≡ marked store links (get_or marks i 0) i
piece_is store links marks i =
    let e : 0 + i ≡ i = omega arith in
    get_or-places_from store links 0 marks i ∙ ap (λ (k : ℕ). marked store links (get_or marks i 0) k) e

-- a piece whose chain and bytes stay
pub marked-same : (store later links after : List ℕ) (mark first : ℕ) → ((j : ℕ) → j < chain_length mark → walk after j first ≡ walk links j first) → ((j : ℕ) → j < chain_length mark → chunk_at later (walk links j first) ≡ chunk_at store (walk links j first)) → marked later after mark first ≡ marked store links mark first
marked-same store later links after zero first walks chunks = refl
marked-same store later links after (suc n) first walks chunks = ap (λ (xs : List ℕ). Some (take n xs)) (content-same store later links after (chunks_of n) first walks chunks)

-- one mark changes, and the other pieces stay
pub places_from-set : (store later links after marks : List ℕ) (at mark : ℕ) → at < length marks → ((i : ℕ) → i ≢ at → marked later after (get_or marks i 0) i ≡ marked store links (get_or marks i 0) i) → places_from later after 0 (set marks at mark) ≡ set (places_from store links 0 marks) at (marked later after mark at)
places_from-set store later links after marks at mark within same = ext_get_or None _ _ long at_each
  where
    long : length (places_from later after 0 (set marks at mark)) ≡ length (set (places_from store links 0 marks) at (marked later after mark at))
    long = length-places_from later after 0 (set marks at mark) ∙ length-set marks at mark ∙ sym (length-places_from store links 0 marks) ∙ sym (length-set (places_from store links 0 marks) at (marked later after mark at))

    inside : at < length (places_from store links 0 marks)
    inside = omega (arith, length-places_from store links 0 marks)

    by_case : (i : ℕ) → (i ≡ at) ⊎ (i ≡ at → ⊥) → get_or (places_from later after 0 (set marks at mark)) i None ≡ get_or (set (places_from store links 0 marks) at (marked later after mark at)) i None
    by_case i (inl e) =
        piece_is later after (set marks at mark) i
        ∙ ap (λ (k : ℕ). marked later after (get_or (set marks at mark) k 0) k) e
        ∙ ap (λ (m : ℕ). marked later after m at) (get_or-set_same marks at mark 0 within)
        ∙ sym (get_or-set_same (places_from store links 0 marks) at (marked later after mark at) None inside)
        ∙ ap (λ (k : ℕ). get_or (set (places_from store links 0 marks) at (marked later after mark at)) k None) (sym e)
    by_case i (inr ne) =
        piece_is later after (set marks at mark) i
        ∙ ap (λ (m : ℕ). marked later after m i) (get_or-set_other marks at i mark 0 ne)
        ∙ same i ne
        ∙ sym (piece_is store links marks i)
        ∙ sym (get_or-set_other (places_from store links 0 marks) at i (marked later after mark at) None ne)

    at_each : (i : ℕ) → i < length (places_from later after 0 (set marks at mark)) → get_or (places_from later after 0 (set marks at mark)) i None ≡ get_or (set (places_from store links 0 marks) at (marked later after mark at)) i None
    at_each i p = by_case i (cases_eq i at)

-- the mark of a live piece
pub live_mark : (store links : List ℕ) (mark first : ℕ) → IsSome (marked store links mark first) → 0 < mark
live_mark store links zero first live = absurd (cc)
live_mark store links (suc n) first live = omega arith

-- the bytes that a mark stands for
pub marked_is : (store links : List ℕ) (mark n first : ℕ) → mark ≡ n + 1 → marked store links mark first ≡ Some (take n (content store links (chunks_of n) first))
marked_is store links mark n first e =
    let s : mark ≡ suc n = omega arith in
    ap (λ (m : ℕ). marked store links m first) s

pub chain_is : (mark n : ℕ) → mark ≡ n + 1 → chain_length mark ≡ chunks_of n
chain_is mark n e =
    let s : mark ≡ suc n = omega arith in
    ap chain_length s
