use Rattle.std.proofs.Common.{◌≡◌, ◌≢◌, ℕ, zero, suc, ◌<◌, true, refl, inl, inr, lit<, arith}
use Rattle.std.specs.Prelude.{◌↔◌, [], ◌∷◌, nat_eq, codes}
use Rattle.std.specs.List.{IsDistinct}
use Rattle.std.specs.declared.cmp.Ordering.TheVariants.{Greater}
use Rattle.api_calls.specs.Documents.{group_document}
use Rattle.api_calls.specs.Legal.{In}
use Rattle.api_calls.specs.Priority.{priority_cmp, version_of}
use Rattle.api_calls.specs.State.{served}
use Rattle.versions_fixture.specs.Definition.{storing}
use Rattle.versions_fixture.proofs.example.has_a_group.Goals as goal

both : (v : ℕ) → In v (0 ∷ 1 ∷ []) ↔ ((v < 2) × (served (storing 1) v ≡ true))
both zero = (λ i. (lit< tt, refl), λ h. inl refl)
both (suc zero) = (λ i. (lit< tt, refl), λ h. inr (inl refl))
both (suc (suc v)) = (λ i. absurd (never i), λ h. absurd (omega (arith, h.0)))
  where
    never : In (suc (suc v)) (0 ∷ 1 ∷ []) → ⊥
    never (inl e) = omega (arith, e)
    never (inr (inl e)) = omega (arith, e)
    never (inr (inr e)) = e

distinct : IsDistinct nat_eq (0 ∷ 1 ∷ [])
unfolding IsDistinct
distinct = ((refl, tt), (tt, tt))

ranked : priority_cmp (codes "v1") (codes "v1beta1") ≢ Greater
unfolding version_of
ranked e = cc

pub returns-clause-offered : goal.returns-clause-offered
returns-clause-offered c = record { served = both; once = distinct; ranked = ((ranked, tt), (tt, tt)) }

pub returns-clause-text : goal.returns-clause-text
unfolding group_document
returns-clause-text c = refl
