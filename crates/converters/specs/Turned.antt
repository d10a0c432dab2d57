-- What an honest converter turns an object to. Whether that is valid, or comes back, is for others to test.
use Rattle.std.specs.Prelude.{◌≡◌, ◌≤◌, ℕ, ℤ, List, Option, Some, None, option_map}
use Rattle.kj_value.specs.Json.{Json, depth}
use Rattle.kube_meta.specs.Document.{document}
use Rattle.kube_meta.specs.View.{ObjectView}
use Rattle.object_reading.specs.Written.{IsWritable}
use Rattle.object_reading.specs.Keeping.{KeepsRules}
use Rattle.api_calls.specs.Meaning.{stamped}
use Rattle.api_calls.specs.declared.versions.TheConstants.{OBJECT_LEVELS}

-- the object of a version, as GROUP/VERSION, that an object is turned to, or none
abbrev pub Turned : Type 0
Turned = ObjectView → List ℕ → Option ObjectView

-- where nothing is known
abbrev pub nothing : Turned
nothing x to = None

-- the object at that version with the same kind, and the same metadata but for labels and annotations
pub record IsSameAt (x : ObjectView) (to : List ℕ) (y : ObjectView) : Type 0 where
  pub version : y.api_version ≡ to
  pub kind : y.kind ≡ x.kind
  pub meta : y.meta ≡ record x.meta { labels = y.meta.labels; annotations = y.meta.annotations }
  pub rules : KeepsRules y.meta

-- an object that isn't too deep, and whose metadata keep the rules of their fields, stays the same
abbrev pub Stays : Turned → Type 0
Stays turned = (x y : ObjectView) (to : List ℕ) → depth (document x) ≤ OBJECT_LEVELS → KeepsRules x.meta → turned x to ≡ Some y → IsSameAt x to y

-- stamps and the generation aren't looked at, and stay
abbrev pub IgnoresStamps : Turned → Type 0
IgnoresStamps turned = (x : ObjectView) (to : List ℕ) (created deleted : Option (List ℕ)) (generation : ℤ)
    → turned (stamped x created deleted generation) to ≡ option_map (λ y. stamped y created deleted generation) (turned x to)

-- the document is that of an object
pub record IsDocumentOf (j : Json) (x : ObjectView) : Type 0 where
  pub writable : IsWritable x
  pub is : j ≡ document x
