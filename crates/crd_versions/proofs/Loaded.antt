-- The definition of what was loaded is the one that the first text spells.
use Rattle.std.proofs.Common.{◌≡◌, ◌∙◌, ℕ, List, ap, sym}
use Rattle.crd_reading.specs.View.{DefinitionView}
use Rattle.crd_loading.specs.View.{LoadedView, loaded_of}
use Rattle.crd_loading.specs.Load.{Defines, Loads}
use Rattle.crd_loading.specs.Set.{set_of}
use Rattle.crd_meaning.specs.Definition.{Definition}

pub spelled_by : (crd rules : List ℕ) (s : Definition) → (l : LoadedView) × Loads crd rules l × (s ≡ set_of l)
    → (d : DefinitionView) × Defines crd d × (d ≡ s.view)
unfolding loaded_of
spelled_by crd rules s p = (
  p.1.definition,
  p.1.defines,
  sym (ap (λ (l : LoadedView). l.definition) p.1.loads.loaded) ∙ sym (ap (λ (e : Definition). e.view) p.2),
)
