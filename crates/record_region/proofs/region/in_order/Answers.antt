use Rattle.std.proofs.Common.{◌≡◌, ℕ, ◌<◌, ◌+◌, ◌≢◌, ◌++◌, ◌∷◌, [], List, length, get_or, eqb, true, false, ◌⊎◌, inl, inr, ap, sym, subst, ◌∙◌, arith}
use Rattle.std.proofs.lemmas.Bool.Decides.{eqb_tells}
use Rattle.std.proofs.lemmas.List.{get_or_push, get_or_append_left}
use Rattle.record_region.proofs.region.in_order.Goals as goal

pushed : (xs : List ℕ) (n : ℕ) → length xs ≡ n → ((k : ℕ) → k < n → get_or xs k 0 ≡ k + 1) → (k : ℕ) → k < n + 1 → get_or (xs ++ (n + 1) ∷ []) k 0 ≡ k + 1
pushed xs n len all k under = by_place (eqb_tells k n)
  where
    by_place : ((eqb k n ≡ true) × (k ≡ n)) ⊎ ((eqb k n ≡ false) × (k ≢ n)) → get_or (xs ++ (n + 1) ∷ []) k 0 ≡ k + 1
    by_place (inl same) = get_or_push xs (n + 1) 0 k (len ∙ sym same.1) ∙ ap (λ m. m + 1) (sym same.1)
    by_place (inr other) =
        let before : k < n = omega (arith, under, other.1) in
        get_or_append_left xs ((n + 1) ∷ []) 0 k (omega (arith, before, len)) ∙ all k before

pub loop-chunk-preserved : goal.loop-chunk-preserved
loop-chunk-preserved c = (
  omega (arith, c.in_ok-push.ensures.len, c.loop-chunk.invariant.0),
  subst (λ (xs : List ℕ). (k : ℕ) → k < c.loop-chunk.chunk + 1 → get_or xs k 0 ≡ k + 1) (sym c.in_ok-push.ensures.items)
      (pushed c.loop-chunk.links.items c.loop-chunk.chunk c.loop-chunk.invariant.0 c.loop-chunk.invariant.1),
)

pub returns-clause-count : goal.returns-clause-count
returns-clause-count c =
    omega (arith, c.loop-chunk.invariant.0, c.loop-chunk-test.false, c.loop-chunk.auto.chunk-end)

pub returns-clause-order : goal.returns-clause-order
returns-clause-order c = λ k under. c.loop-chunk.invariant.1 k (omega (arith, under, c.loop-chunk-test.false))
