-- A region whose chunks are all free.
use Rattle.std.proofs.Common.{◌≡◌, ℕ, zero, suc, ◌+◌, ◌*◌, ◌^◌, ◌<◌, List, ◌∷◌, length, get_or, replicate, None, refl, ap, sym, ◌∙◌, subst, arith}
use Rattle.std.proofs.lemmas.List.{length-replicate}
use Rattle.record_region.specs.declared.chunks.TheConstants.{CHUNK_BYTES}
use Rattle.record_region.specs.Places.{Places, used}
use Rattle.record_region.specs.Chains.{walk, places_from, chain_length, label, IsSoundRegion}

-- no chunk is marked
abbrev pub zeros : ℕ → List ℕ
zeros n = replicate n 0

walk-in_order : (links : List ℕ) (count : ℕ) → ((k : ℕ) → k < count → get_or links k 0 ≡ k + 1) → (j : ℕ) → j < count → walk links j 0 ≡ j
walk-in_order links count order zero p = refl
walk-in_order links count order (suc j) p =
    let before : walk links j 0 ≡ j = walk-in_order links count order j (omega arith) in
    ap (λ (c : ℕ). get_or links c 0) before ∙ order j (omega arith) ∙ omega arith

get_or-zeros : (n i : ℕ) → get_or (zeros n) i 0 ≡ 0
get_or-zeros zero i = refl
get_or-zeros (suc n) zero = refl
get_or-zeros (suc n) (suc i) = get_or-zeros n i

pub places_from-zeros : (store links : List ℕ) (first n : ℕ) → places_from store links first (zeros n) ≡ replicate n None
places_from-zeros store links first zero = refl
places_from-zeros store links first (suc n) = ap (λ (p : Places). None ∷ p) (places_from-zeros store links (suc first) n)

pub used-none : (n : ℕ) → used (replicate n None) ≡ 0
used-none zero = refl
used-none (suc n) = omega (arith, used-none n)

pub all_free : (store links : List ℕ) (count : ℕ) → length store ≡ CHUNK_BYTES * count → length links ≡ count → ((k : ℕ) → k < count → get_or links k 0 ≡ k + 1) → count < 2 ^ 32 → IsSoundRegion store links (zeros count) 0 count
all_free store links count e f order few =
    let long : length (zeros count) ≡ count = length-replicate count 0 in
    record {
      store_length = omega arith;
      links_length = omega arith;
      few = omega arith;
      apart = record {
        labels = λ c. label count c;
        free_within = λ j p. let w : walk links j 0 ≡ j = walk-in_order links count order j p in omega arith;
        free_labels = λ j p. ap (λ (k : ℕ). label count k) (walk-in_order links count order j p) ∙ ap (λ (k : ℕ). label k j) (sym long);
        piece_within = λ i j p. let none : chain_length (get_or (zeros count) i 0) ≡ 0 = ap chain_length (get_or-zeros count i) in absurd (omega arith);
        piece_labels = λ i j p. let none : chain_length (get_or (zeros count) i 0) ≡ 0 = ap chain_length (get_or-zeros count i) in absurd (omega arith);
      };
      counted =
          let empty : used (places_from store links 0 (zeros count)) ≡ used (replicate count None) = ap used (places_from-zeros store links 0 count) in
          omega (arith, used-none count);
    }

pub opened : (store links marks : List ℕ) (count : ℕ) → length store ≡ CHUNK_BYTES * count → length links ≡ count → ((k : ℕ) → k < count → get_or links k 0 ≡ k + 1) → count < 2 ^ 32 → marks ≡ zeros count → IsSoundRegion store links marks 0 count
opened store links marks count e f order few zeros = subst (λ (ms : List ℕ). IsSoundRegion store links ms 0 count) (sym zeros) (all_free store links count e f order few)

pub opened_places : (store links marks : List ℕ) (count : ℕ) → marks ≡ zeros count → places_from store links 0 marks ≡ replicate count None
opened_places store links marks count zeros = ap (λ (ms : List ℕ). places_from store links 0 ms) zeros ∙ places_from-zeros store links 0 count
