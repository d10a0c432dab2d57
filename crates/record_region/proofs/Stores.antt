-- The bytes of chunks and of chains.
use Rattle.std.proofs.Common.{◌≡◌, ◌≢◌, ℕ, zero, suc, ◌+◌, ◌-◌, ◌*◌, ◌<◌, ◌≤◌, ◌⊎◌, min, List, ◌++◌, length, take, drop, refl, ap, sym, ◌∙◌, subst, inl, inr, arith, below_more, length-append, length-drop}
use Rattle.std.proofs.lemmas.List.{length-take, take_all, take-take, drop-take, take-append-drop}
use Rattle.std.proofs.lemmas.Bool.{cases_lt}
use Rattle.std.proofs.lemmas.Slice.{take-put_mid_below, between-put_mid, drop-put_mid}
use Rattle.std.proofs.Math.Seq.{take-add, take-append-add}
use borrow.Rule.Slice.PartMut.{put_mid}
use Rattle.record_region.specs.declared.chunks.TheConstants.{CHUNK_BYTES}
use Rattle.record_region.specs.Chunks.{chunks_of}
use Rattle.record_region.specs.Chains.{walk, chunk_at, content}

pub length-chunk_at : (store : List ℕ) (chunk : ℕ) → CHUNK_BYTES * chunk + CHUNK_BYTES ≤ length store → length (chunk_at store chunk) ≡ CHUNK_BYTES
length-chunk_at store chunk within = simp (length-take, length-drop) (omega arith)

pub length-content : (store links : List ℕ) (count first : ℕ) → ((j : ℕ) → j < count → CHUNK_BYTES * walk links j first + CHUNK_BYTES ≤ length store) → length (content store links count first) ≡ CHUNK_BYTES * count
length-content store links zero first within = omega arith
length-content store links (suc k) first within =
    let before : length (content store links k first) ≡ CHUNK_BYTES * k = length-content store links k first (λ j p. within j (omega arith)) in
    let last : length (chunk_at store (walk links k first)) ≡ CHUNK_BYTES = length-chunk_at store (walk links k first) (within k (omega arith)) in
    omega (arith, length-append (content store links k first) (chunk_at store (walk links k first)))

-- chains over the same chunks with the same bytes
pub content-same : (store later links after : List ℕ) (count first : ℕ) → ((j : ℕ) → j < count → walk after j first ≡ walk links j first) → ((j : ℕ) → j < count → chunk_at later (walk links j first) ≡ chunk_at store (walk links j first)) → content later after count first ≡ content store links count first
content-same store later links after zero first walks chunks = refl
content-same store later links after (suc k) first walks chunks =
    let before : content later after k first ≡ content store links k first = content-same store later links after k first (λ j p. walks j (omega arith)) (λ j p. chunks j (omega arith)) in
    let here : walk after k first ≡ walk links k first = walks k (omega arith) in
    let bytes : chunk_at later (walk links k first) ≡ chunk_at store (walk links k first) = chunks k (omega arith) in
    ap (λ (xs : List ℕ). xs ++ chunk_at later (walk after k first)) before ∙ ap (λ (xs : List ℕ). content store links k first ++ xs) (ap (λ (c : ℕ). chunk_at later c) here ∙ bytes)

-- a front of a chain, one chunk longer
pub take-content : (store links : List ℕ) (n k first : ℕ) → length (content store links k first) ≡ CHUNK_BYTES * k → CHUNK_BYTES * k ≤ n → take n (content store links (suc k) first) ≡ content store links k first ++ take (n - CHUNK_BYTES * k) (chunk_at store (walk links k first))
take-content store links n k first long more =
    let e : n ≡ length (content store links k first) + (n - CHUNK_BYTES * k) = omega arith in
    ap (λ (m : ℕ). take m (content store links (suc k) first)) e ∙ take-append-add (content store links k first) (chunk_at store (walk links k first)) (n - CHUNK_BYTES * k)

-- a chunk after a write to its front
pub take-written : (store now part : List ℕ) (start k chunk : ℕ) → start ≡ chunk * CHUNK_BYTES → k ≡ length part → now ≡ part → CHUNK_BYTES * chunk + CHUNK_BYTES ≤ length store → length part ≤ CHUNK_BYTES → take (length part) (chunk_at (put_mid start k store now) chunk) ≡ part
take-written store now part start k chunk e f g within fits =
    let at : CHUNK_BYTES * chunk ≡ start = omega arith in
    let inside : start ≤ length store = omega arith in
    let long : length now ≡ (start + length part) - start = omega (arith, ap length g) in
    let count : (start + length part) - start ≡ length part = omega arith in
    let read : take ((start + length part) - start) (drop start (put_mid start k store now)) ≡ now = between-put_mid start k store now (start + length part) inside long in
    ap (λ (n : ℕ). take (length part) (take CHUNK_BYTES (drop n (put_mid start k store now)))) at
    ∙ take-take (length part) CHUNK_BYTES (drop start (put_mid start k store now)) fits
    ∙ ap (λ (n : ℕ). take n (drop start (put_mid start k store now))) (sym count)
    ∙ read
    ∙ g

-- a part of a list by its end
range_is : (xs : List ℕ) (i n : ℕ) → take n (drop i xs) ≡ drop i (take (i + n) xs)
range_is xs i n = sym (drop-take i n xs)

-- another chunk after a write
pub chunk_at-other : (store now part : List ℕ) (start k chunk other : ℕ) → start ≡ chunk * CHUNK_BYTES → k ≡ length part → now ≡ part → CHUNK_BYTES * chunk + CHUNK_BYTES ≤ length store → length part ≤ CHUNK_BYTES → other ≢ chunk → chunk_at (put_mid start k store now) other ≡ chunk_at store other
chunk_at-other store now part start k chunk other e f g within fits apart = by_order (cases_lt other chunk)
  where
    inside : start ≤ length store
    inside = omega arith

    by_order : (other < chunk) ⊎ (chunk ≤ other) → chunk_at (put_mid start k store now) other ≡ chunk_at store other
    by_order (inl p) =
        let below : CHUNK_BYTES * other + CHUNK_BYTES ≤ start = omega arith in
        range_is (put_mid start k store now) (CHUNK_BYTES * other) CHUNK_BYTES
        ∙ ap (λ (xs : List ℕ). drop (CHUNK_BYTES * other) xs) (take-put_mid_below start k store now (CHUNK_BYTES * other + CHUNK_BYTES) below inside)
        ∙ sym (range_is store (CHUNK_BYTES * other) CHUNK_BYTES)
    by_order (inr p) =
        let past : start + k ≤ CHUNK_BYTES * other = omega arith in
        let long : length now ≡ k = omega (arith, ap length g) in
        ap (λ (xs : List ℕ). take CHUNK_BYTES xs) (drop-put_mid start k store now (CHUNK_BYTES * other) past inside long)

-- the part of the bytes that goes into a chunk
pub part_is : (bytes : List ℕ) (step start end : ℕ) → start ≡ step * CHUNK_BYTES → end ≡ min (length bytes) (start + CHUNK_BYTES) → take (end - start) (drop start bytes) ≡ chunk_at bytes step
part_is bytes step start end e f = by_order (cases_lt (length bytes) (start + CHUNK_BYTES))
  where
    at : start ≡ CHUNK_BYTES * step
    at = omega arith

    by_order : (length bytes < start + CHUNK_BYTES) ⊎ (start + CHUNK_BYTES ≤ length bytes) → take (end - start) (drop start bytes) ≡ chunk_at bytes step
    by_order (inl p) =
        let short : length (drop start bytes) ≤ end - start = omega (arith, length-drop start bytes) in
        let fits : length (drop start bytes) ≤ CHUNK_BYTES = omega (arith, length-drop start bytes) in
        take_all (end - start) (drop start bytes) short ∙ sym (take_all CHUNK_BYTES (drop start bytes) fits) ∙ ap (λ (n : ℕ). take CHUNK_BYTES (drop n bytes)) at
    by_order (inr p) =
        let whole : end - start ≡ CHUNK_BYTES = omega arith in
        ap (λ (n : ℕ). take n (drop start bytes)) whole ∙ ap (λ (n : ℕ). take CHUNK_BYTES (drop n bytes)) at

-- the front of a chunk holds a part of the bytes
abbrev pub IsWritten : List ℕ → List ℕ → List ℕ → ℕ → ℕ → Type 0
IsWritten store links bytes first step = take (length (chunk_at bytes step)) (chunk_at store (walk links step first)) ≡ chunk_at bytes step

-- whole chunks
content-front : (store links bytes : List ℕ) (first k : ℕ) → ((j : ℕ) → j < k → IsWritten store links bytes first j) → CHUNK_BYTES * k ≤ length bytes → content store links k first ≡ take (CHUNK_BYTES * k) bytes
content-front store links bytes first zero written p = refl
content-front store links bytes first (suc k) written p =
    let before : content store links k first ≡ take (CHUNK_BYTES * k) bytes = content-front store links bytes first k (λ j q. written j (omega arith)) (omega arith) in
    let here : IsWritten store links bytes first k = written k (omega arith) in
    let long : length (chunk_at bytes k) ≡ CHUNK_BYTES = length-chunk_at bytes k (omega arith) in
    let short : length (chunk_at store (walk links k first)) ≤ CHUNK_BYTES = omega (arith, length-take CHUNK_BYTES (drop (CHUNK_BYTES * walk links k first) store)) in
    let whole : take (length (chunk_at bytes k)) (chunk_at store (walk links k first)) ≡ chunk_at store (walk links k first) = ap (λ (n : ℕ). take n (chunk_at store (walk links k first))) long ∙ take_all CHUNK_BYTES (chunk_at store (walk links k first)) short in
    let chunk : chunk_at store (walk links k first) ≡ chunk_at bytes k = sym whole ∙ here in
    let e : CHUNK_BYTES * suc k ≡ CHUNK_BYTES * k + CHUNK_BYTES = omega arith in
    ap (λ (xs : List ℕ). xs ++ chunk_at store (walk links k first)) before
    ∙ ap (λ (xs : List ℕ). take (CHUNK_BYTES * k) bytes ++ xs) chunk
    ∙ sym (take-add (CHUNK_BYTES * k) CHUNK_BYTES bytes)
    ∙ ap (λ (n : ℕ). take n bytes) (sym e)

-- a chain whose chunks hold the parts of the bytes holds the bytes
pub content-written : (store links bytes : List ℕ) (first count : ℕ) → count ≡ chunks_of (length bytes) → ((j : ℕ) → j < count → IsWritten store links bytes first j) → take (length bytes) (content store links count first) ≡ bytes
content-written store links bytes first zero e written = absurd (omega arith)
content-written store links bytes first (suc k) e written =
    let most : CHUNK_BYTES * k ≤ length bytes = omega arith in
    let least : length bytes ≤ CHUNK_BYTES * k + CHUNK_BYTES = omega arith in
    let before : content store links k first ≡ take (CHUNK_BYTES * k) bytes = content-front store links bytes first k (λ j q. written j (omega arith)) most in
    let long : length (content store links k first) ≡ CHUNK_BYTES * k = ap length before ∙ omega (arith, length-take (CHUNK_BYTES * k) bytes) in
    let here : IsWritten store links bytes first k = written k (omega arith) in
    let fits : length (drop (CHUNK_BYTES * k) bytes) ≤ CHUNK_BYTES = omega (arith, length-drop (CHUNK_BYTES * k) bytes) in
    let rest : chunk_at bytes k ≡ drop (CHUNK_BYTES * k) bytes = take_all CHUNK_BYTES (drop (CHUNK_BYTES * k) bytes) fits in
    let part : length bytes - CHUNK_BYTES * k ≡ length (chunk_at bytes k) = omega (arith, ap length rest, length-drop (CHUNK_BYTES * k) bytes) in
    take-content store links (length bytes) k first long most
    ∙ ap (λ (n : ℕ). content store links k first ++ take n (chunk_at store (walk links k first))) part
    ∙ ap (λ (xs : List ℕ). content store links k first ++ xs) (here ∙ rest)
    ∙ ap (λ (xs : List ℕ). xs ++ drop (CHUNK_BYTES * k) bytes) before
    ∙ take-append-drop (CHUNK_BYTES * k) bytes

-- a front of a front
take-take_min : (xs : List ℕ) (m n : ℕ) → take m (take n xs) ≡ take (min m n) xs
take-take_min xs m n = by_order (cases_lt n m)
  where
    by_order : (n < m) ⊎ (m ≤ n) → take m (take n xs) ≡ take (min m n) xs
    by_order (inl p) =
        let short : length (take n xs) ≤ m = omega (arith, length-take n xs) in
        let e : n ≡ min m n = omega arith in
        take_all m (take n xs) short ∙ ap (λ (k : ℕ). take k xs) e
    by_order (inr p) =
        let e : m ≡ min m n = omega arith in
        take-take m n xs p ∙ ap (λ (k : ℕ). take k xs) e

-- what is gathered, one chunk later
pub take-content_more : (store links : List ℕ) (size k first at part : ℕ) → length (content store links k first) ≡ CHUNK_BYTES * k → CHUNK_BYTES * k ≤ size → at ≡ walk links k first * CHUNK_BYTES → part ≡ min (size - k * CHUNK_BYTES) CHUNK_BYTES → take size (content store links (suc k) first) ≡ take size (content store links k first) ++ take ((at + part) - at) (drop at store)
take-content_more store links size k first at part long more e f =
    let whole : take size (content store links k first) ≡ content store links k first = take_all size (content store links k first) (omega arith) in
    let n : min (size - CHUNK_BYTES * k) CHUNK_BYTES ≡ (at + part) - at = omega arith in
    let start : CHUNK_BYTES * walk links k first ≡ at = omega arith in
    take-content store links size k first long more
    ∙ ap (λ (xs : List ℕ). xs ++ take (size - CHUNK_BYTES * k) (chunk_at store (walk links k first))) (sym whole)
    ∙ ap (λ (xs : List ℕ). take size (content store links k first) ++ xs)
    (take-take_min (drop (CHUNK_BYTES * walk links k first) store) (size - CHUNK_BYTES * k) CHUNK_BYTES
    ∙ ap (λ (m : ℕ). take m (drop (CHUNK_BYTES * walk links k first) store)) n
    ∙ ap (λ (m : ℕ). take ((at + part) - at) (drop m store)) start)

-- the parts after one more write
pub written_more : (store later links bytes part : List ℕ) (first step chunk : ℕ) → chunk ≡ walk links step first → part ≡ chunk_at bytes step → ((j : ℕ) → j < step → IsWritten store links bytes first j) → ((j : ℕ) → j < step → walk links j first ≢ walk links step first) → take (length part) (chunk_at later chunk) ≡ part → ((other : ℕ) → other ≢ chunk → chunk_at later other ≡ chunk_at store other) → (j : ℕ) → j < step + 1 → IsWritten later links bytes first j
written_more store later links bytes part first step chunk at is before apart here others = below_more _ _
    (λ j p. let ne : walk links j first ≢ chunk = (λ q. apart j p (q ∙ at)) in
    ap (λ (xs : List ℕ). take (length (chunk_at bytes j)) xs) (others (walk links j first) ne) ∙ before j p)
    (let P : ℕ → List ℕ → Type 0 = λ k xs. take (length xs) (chunk_at later k) ≡ xs in
    subst (λ (xs : List ℕ). P (walk links step first) xs) is (subst (λ (k : ℕ). P k part) at here))

-- the other chunks after one more write
pub others_more : (store later initial links : List ℕ) (first step chunk : ℕ) → chunk ≡ walk links step first → ((other : ℕ) → ((j : ℕ) → j < step → walk links j first ≢ other) → chunk_at store other ≡ chunk_at initial other) → ((other : ℕ) → other ≢ chunk → chunk_at later other ≡ chunk_at store other) → (other : ℕ) → ((j : ℕ) → j < step + 1 → walk links j first ≢ other) → chunk_at later other ≡ chunk_at initial other
others_more store later initial links first step chunk at before now other apart =
    let ne : other ≢ chunk = (λ q. apart step (omega arith) (sym at ∙ sym q)) in
    now other ne ∙ before other (λ j p. apart j (omega arith))
