-- What a definition and the name of its hub load as, and what is refused of them. The whole definition is tried before the hub.
use Rattle.std.specs.Prelude.{◌≡◌, ◌≢◌, ◌<◌, ◌⊎◌, ℕ, List, codes}
use Rattle.crd_reading.specs.View.{DefinitionView}
use Rattle.crd_meaning.specs.Definition.{Definition, count_of, version_at}
use Rattle.crd_loading.specs.Blame.{Blame, blame}
use Rattle.crd_loading.specs.Load.{Defines, RefusesDefinition}
use Rattle.crd_loading.specs.declared.loading.LoadFault.{LoadFault}
use Rattle.crd_loading.specs.declared.loading.LoadFault.TheVariants.{Refused, NoMemory}
use Rattle.crd_loading.specs.declared.loading.Which.TheVariants.{Crd, Rules}
use Rattle.hook_versions.specs.Set.{without_rules}

-- the definition that the bytes are, with the version of the name as its hub
pub record LoadsHook (crd hub : List ℕ) (d : Definition) : Type 0 where
  pub view : DefinitionView
  pub defines : Defines crd view
  pub is : d ≡ without_rules view d.hub
  pub known : d.hub < count_of d
  pub named : (version_at d d.hub).name ≡ hub

-- the word `Hub`, at the versions
abbrev pub no_hub : Blame
no_hub = blame (codes "spec.versions") (codes "Hub")

-- no version has the name
pub record HasNoHub (crd hub : List ℕ) (b : Blame) : Type 0 where
  pub view : DefinitionView
  pub defines : Defines crd view
  pub unnamed : (v : ℕ) → v < count_of (without_rules view 0) → (version_at (without_rules view 0) v).name ≢ hub
  pub told : b ≡ no_hub

abbrev pub RefusesHook : List ℕ → List ℕ → LoadFault → Type 0
RefusesHook crd hub NoMemory = Unit {0}
RefusesHook crd hub (Refused Crd path word) = RefusesDefinition crd (blame path.bytes word.bytes) ⊎ HasNoHub crd hub (blame path.bytes word.bytes)
RefusesHook crd hub (Refused Rules path word) = ⊥
