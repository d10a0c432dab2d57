-- The weight of a hub value, from its forms one by one.
use Rattle.std.proofs.Common.{◌≡◌, ◌∙◌, ◌⊎◌, inl, inr, ℕ, ◌+◌, ◌<◌, ◌≤◌, max, refl, ap, sym, subst, arith}
use Rattle.kube_meta.specs.View.{ObjectView}
use Rattle.kube_meta.specs.Document.{document}
use Rattle.api_calls.specs.Meaning.{Weighs, chunks, measure}
use Rattle.api_calls.specs.Versions.{IsOneToOne}
use Rattle.crd_meaning.specs.declared.limits.TheConstants.{MAX_MEASURE}
use Rattle.crd_meaning.specs.Definition.{Definition, count_of}
use Rattle.crd_meaning.specs.Objects.{IsWholeValue, IsFormAt}
use Rattle.crd_meaning.specs.Admission.{IsLight}
use Rattle.crd_meaning.specs.Meant.{meant}
use Rattle.crd_admission.specs.inner.Weighing.{AreWeighed}

at_or_below : (u v : ℕ) → u < v + 1 → (u < v) ⊎ (u ≡ v)
at_or_below u v p = grind arith

at_most : (m n : ℕ) → (m ≤ n) ⊎ (n < m)
at_most m n = grind arith

-- each text has a brace
some_chunks : (x : ObjectView) → 0 < chunks (measure x)
unfolding document
some_chunks x = omega arith

module _ (d : Definition) (h : ObjectView) where
  pub weighed_none : AreWeighed d h 0 0
  weighed_none = record { within = λ u x p f. absurd (omega (arith, p)); met = inl (refl, refl) }

  abbrev Met : ℕ → ℕ → Type 0
  Met t m = ((t ≡ 0) × (m ≡ 0)) ⊎ ((u : ℕ) × (y : ObjectView) × (u < t) × IsFormAt d u h y × (chunks (measure y) ≡ m))

  pub weighed_next : IsOneToOne (meant d) → IsWholeValue d h → (v most n : ℕ) (x : ObjectView) → v < count_of d → IsFormAt d v h x
      → n ≡ measure x → n ≤ MAX_MEASURE → AreWeighed d h v most → AreWeighed d h (v + 1) (max most (chunks n))
  weighed_next one whole v most n x known form same small w = record {
    within = λ u y p f. elim (at_or_below u v p) [
      | inl q ↦ let was = w.within u y q f in (was.0, omega (arith, was.1))
      | inr q ↦ let is = here y (subst (λ (t : ℕ). IsFormAt d t h y) q f) in
          let bytes : chunks (measure y) ≡ chunks n = ap chunks (sym is) in
          (omega (arith, is, small), omega (arith, bytes))
    ];
    met = by_size (at_most most (chunks n));
  }
    where
      here : (y : ObjectView) → IsFormAt d v h y → n ≡ measure y
      here y f = same ∙ ap measure (one.function v h x y known whole form f)

      before : most ≡ max most (chunks n) → chunks n < most → Met v most → Met (v + 1) (max most (chunks n))
      before e p (inl q) = absurd (omega (arith, p, q.1))
      before e p (inr m) = inr (m.0, m.1, omega (arith, m.2), m.3, m.4 ∙ e)

      by_size : (most ≤ chunks n) ⊎ (chunks n < most) → Met (v + 1) (max most (chunks n))
      by_size (inl p) =
          let bytes : chunks (measure x) ≡ chunks n = ap chunks (sym same) in
          inr (v, x, omega arith, form, omega (arith, bytes, p))
      by_size (inr p) = before (omega (arith, p)) p w.met

  pub weighed_all : (most : ℕ) → 2 ≤ count_of d → AreWeighed d h (count_of d) most → IsLight d h × Weighs (meant d) h most × (0 < most)
  weighed_all most two w =
      let m = by_met w.met in
      (λ v x p f. (w.within v x p f).0, record { within = λ v x p f. (w.within v x p f).1; met = m }, omega (arith, some_chunks m.1, m.4))
    where
      by_met : ((count_of d ≡ 0) × (most ≡ 0)) ⊎ ((u : ℕ) × (y : ObjectView) × (u < count_of d) × IsFormAt d u h y × (chunks (measure y) ≡ most))
          → (u : ℕ) × (y : ObjectView) × (u < count_of d) × IsFormAt d u h y × (chunks (measure y) ≡ most)
      by_met (inl q) = absurd (omega (arith, two, q.0))
      by_met (inr m) = m
