-- What a definition is loaded as.
use Rattle.std.proofs.Common.{◌≡◌, ◌∙◌, ℕ, ◌<◌, List, inl, inr, refl, ap, sym, subst}
use Rattle.std.specs.Prelude.{◌≢◌}
use Rattle.crd_reading.specs.View.{DefinitionView}
use Rattle.crd_meaning.specs.Definition.{Definition, count_of, version_at}
use Rattle.crd_loading.specs.Load.{Defines}
use Rattle.crd_loading.specs.Told.{RefusesCrd}
use Rattle.crd_loading.specs.declared.loading.LoadFault.{LoadFault}
use Rattle.crd_loading.specs.declared.loading.LoadFault.TheVariants.{Refused, NoMemory}
use Rattle.crd_loading.specs.declared.loading.Which.TheVariants.{Crd, Rules}
use Rattle.hook_versions.specs.Set.{without_rules}
use Rattle.hook_versions.specs.Loads.{LoadsHook, HasNoHub, RefusesHook}
use Rattle.hook_versions.specs.inner.Hubs.{SaysNoHub}

module _ (crd hub : List ℕ) (view : DefinitionView) (defines : Defines crd view) where
  here : (place : ℕ) (d : Definition) → place < count_of (without_rules view 0) → (version_at (without_rules view 0) place).name ≡ hub → d ≡ without_rules view place → LoadsHook crd hub d
  here place d known named same = subst (LoadsHook crd hub) (sym same) (record { view = view; defines = defines; is = refl; known = known; named = named })

  pub loads : (place : ℕ) (all d : Definition) → all ≡ without_rules view 0 → (place < count_of all) × ((version_at all place).name ≡ hub) → d ≡ without_rules all.view place → LoadsHook crd hub d
  loads place all d is found same =
      subst (λ (x : Definition). (place < count_of x) × ((version_at x place).name ≡ hub) → d ≡ without_rules x.view place → LoadsHook crd hub d) (sym is)
      (λ f s. here place d f.0 f.1 s) found same

  pub lacks : (all : Definition) (f : LoadFault) → all ≡ without_rules view 0 → ((v : ℕ) → v < count_of all → (version_at all v).name ≢ hub) → SaysNoHub f → RefusesHook crd hub f
  lacks all NoMemory is none said = tt
  lacks all (Refused Crd path word) is none said = inr (record {
    view = view;
    defines = defines;
    unnamed = subst (λ (x : Definition). (v : ℕ) → v < count_of x → (version_at x v).name ≢ hub) is none;
    told = said;
  })
  lacks all (Refused Rules path word) is none said = absurd said

pub refuses : (crd hub : List ℕ) (f : LoadFault) → RefusesCrd crd f → RefusesHook crd hub f
refuses crd hub NoMemory h = tt
refuses crd hub (Refused Crd path word) h = inl h
refuses crd hub (Refused Rules path word) h = absurd h
