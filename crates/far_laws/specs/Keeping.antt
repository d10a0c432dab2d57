-- A server whose own items leave each value as it is.
use Rattle.std.specs.Prelude.{◌≡◌, ⊤, List, ◌++◌, Option, None, Some}
use Rattle.kube_meta.specs.Key.{KeyView}
use Rattle.api_calls.specs.Item.{Item}
use Rattle.api_calls.specs.Meaning.{Meaning}
use Rattle.api_calls.specs.Objects.{Stored, find}
use Rattle.api_calls.specs.State.{state}
use Rattle.wire_client.specs.Far.{Server}

-- an object on both sides, with one hub value, or none on either
abbrev pub SameValue : Option Stored → Option Stored → Type 0
SameValue None None = ⊤
SameValue None (Some f) = ⊥
SameValue (Some e) None = ⊥
SameValue (Some e) (Some f) = f.h ≡ e.h

-- behind these items each key has the object and the hub value that it had: nothing comes, nothing goes, and no value changes
abbrev pub KeepsValues : Meaning → List Item → List Item → Type 0
KeepsValues m log own = (key : KeyView) → SameValue (find key (state m log).objects) (find key (state m (log ++ own)).objects)

-- the server, where the items that it adds by an answer keep all values
abbrev pub keeping : Meaning → Server → Server
keeping m far = record { answers = λ log request answer own. far.answers log request answer own × KeepsValues m log own }
