-- What a definition means of which only the mere fact is kept that it was loaded.
use Rattle.crd_meaning.specs.Definition.{Definition, IsLoaded}
use Rattle.crd_meaning.specs.Objects.{IsWholeValue}
use Rattle.crd_meaning.specs.Admission.{Admits}
use Rattle.crd_meaning.specs.Meant.{Settings, meaning_of}
use Rattle.api_calls.specs.Meaning.{Meaning}

-- A value is whole, and a request admitted, beside the fact that the definition was loaded: the laws of whole values and of
-- admission rest on it. The other relations are those of the definition.
abbrev pub loaded_meaning : Definition → Settings → Meaning
loaded_meaning d o = record (meaning_of d o) {
  whole = λ h. IsLoaded d × IsWholeValue d h;
  admits = λ r h e. IsLoaded d × Admits d r h e;
}
