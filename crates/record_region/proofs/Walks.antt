-- Walks along links.
use Rattle.std.proofs.Common.{◌≡◌, ◌≢◌, ℕ, zero, suc, ◌+◌, ◌<◌, List, get_or, set, refl, ap, ◌∙◌, arith}
use Rattle.std.proofs.lemmas.List.{get_or-set_other}
use Rattle.record_region.specs.Chains.{walk}

-- a walk in two parts
pub walk-add : (links : List ℕ) (j k first : ℕ) → walk links (j + k) first ≡ walk links j (walk links k first)
walk-add links zero k first =
    let e : 0 + k ≡ k = omega arith in
    rw e refl
walk-add links (suc j) k first =
    let e : suc j + k ≡ suc (j + k) = omega arith in
    rw e (ap (λ (c : ℕ). get_or links c 0) (walk-add links j k first))

-- a walk that doesn't come by a changed link
pub walk-set : (links : List ℕ) (at next j first : ℕ) → ((m : ℕ) → m < j → walk links m first ≢ at) → walk (set links at next) j first ≡ walk links j first
walk-set links at next zero first apart = refl
walk-set links at next (suc j) first apart =
    let before : walk (set links at next) j first ≡ walk links j first = walk-set links at next j first (λ m p. apart m (omega arith)) in
    let here : walk links j first ≢ at = apart j (omega arith) in
    ap (λ (c : ℕ). get_or (set links at next) c 0) before ∙ get_or-set_other links at (walk links j first) next 0 here

-- one link further
pub walk_more : (links : List ℕ) (chunk step first : ℕ) → chunk ≡ walk links step first → get_or links chunk 0 ≡ walk links (step + 1) first
walk_more links chunk step first e =
    let more : step + 1 ≡ suc step = omega arith in
    rw more (ap (λ (c : ℕ). get_or links c 0) e)
