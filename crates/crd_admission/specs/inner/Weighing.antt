-- For private clauses: what the forms of a hub value weigh.
use Rattle.std.specs.Prelude.{◌≡◌, ◌⊎◌, ℕ, ◌<◌, ◌≤◌, Option, None, Some, IfSome, MatchOption}
use Rattle.kube_meta.specs.View.{ObjectView}
use Rattle.kube_meta.specs.Shapes.{shaped}
use Rattle.kube_meta.specs.declared.object.Shape.{Shape}
use Rattle.api_calls.specs.Meaning.{Weighs, chunks, measure}
use Rattle.crd_meaning.specs.declared.limits.TheConstants.{MAX_MEASURE}
use Rattle.crd_meaning.specs.Definition.{Definition}
use Rattle.crd_meaning.specs.Objects.{IsFormAt}
use Rattle.crd_meaning.specs.Admission.{IsLight}
use Rattle.crd_meaning.specs.Meant.{meant}

-- the measure of a form, where it isn't above the limit
abbrev pub IsMeasure : ObjectView → Option ℕ → Type 0
IsMeasure x o = MatchOption o (MAX_MEASURE < measure x) (λ n. (n ≡ measure x) × (n ≤ MAX_MEASURE))

-- a form of h: what it becomes by a shape, or h itself
abbrev pub form_of : Option Shape → ObjectView → ObjectView
form_of None h = h
form_of (Some p) h = shaped p h

-- where a shape is kept, h becomes by it the form at the version
abbrev pub IsKept : Definition → ℕ → ObjectView → Option Shape → Type 0
IsKept d v h o = IfSome o (λ p. IsFormAt d v h (shaped p h))

-- the forms at the versions before v are light, and weigh at most so many chunks, of which there are as many as at one of
-- them
pub record AreWeighed (d : Definition) (h : ObjectView) (v most : ℕ) : Type 0 where
  pub within : (u : ℕ) (x : ObjectView) → u < v → IsFormAt d u h x → (measure x ≤ MAX_MEASURE) × (chunks (measure x) ≤ most)
  pub met : ((v ≡ 0) × (most ≡ 0)) ⊎ ((u : ℕ) × (x : ObjectView) × (u < v) × IsFormAt d u h x × (chunks (measure x) ≡ most))

-- the weight, with what is kept of the form at a version
abbrev pub IsWeightOf : Definition → ObjectView → ℕ → Option (ℕ × Option Shape) → Type 0
IsWeightOf d h v None = IsLight d h → ⊥
IsWeightOf d h v (Some w) = IsLight d h × Weighs (meant d) h w.0 × (0 < w.0) × IsKept d v h w.1
