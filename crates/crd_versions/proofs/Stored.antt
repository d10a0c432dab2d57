-- A stored text of a loaded definition, with and without the fact that it was loaded.
use Rattle.std.proofs.Common.{ℕ, List}
use Rattle.kube_meta.specs.View.{ObjectView}
use Rattle.api_calls.specs.Versions.{IsStored}
use Rattle.crd_meaning.specs.Definition.{Definition, IsLoaded}
use Rattle.crd_meaning.specs.Meant.{Settings, meant}
use Rattle.crd_laws.specs.Loaded.{loaded_meaning}

module _ (d : Definition) (o : Settings) where
  pub stored_plainly : (v : ℕ) (h : ObjectView) (bytes : List ℕ) → IsStored (loaded_meaning d o) v h bytes → IsStored (meant d) v h bytes
  stored_plainly v h bytes s =
      record { form = s.form; known = s.known; whole = s.whole.1; pairs = s.pairs; spelled = s.spelled; utf8 = s.utf8 }

  pub stored_so : IsLoaded d → (v : ℕ) (h : ObjectView) (bytes : List ℕ) → IsStored (meant d) v h bytes → IsStored (loaded_meaning d o) v h bytes
  stored_so l v h bytes s =
      record { form = s.form; known = s.known; whole = (l, s.whole); pairs = s.pairs; spelled = s.spelled; utf8 = s.utf8 }
