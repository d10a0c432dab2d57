-- What a client has of an object that a server showed before.
use Rattle.std.specs.Prelude.{◌≡◌, ℕ, List, Some, IsUtf8}
use Rattle.kj_value.specs.Json.{Json}
use Rattle.kj_value.specs.Text.{text_of}
use Rattle.kube_meta.specs.Document.{document}
use Rattle.kube_meta.specs.Key.{KeyView}
use Rattle.kube_meta.specs.View.{ObjectView}
use Rattle.api_calls.specs.Documents.{numbered}
use Rattle.api_calls.specs.Item.{Item}
use Rattle.api_calls.specs.Meaning.{Meaning}
use Rattle.api_calls.specs.Objects.{Stored, find}
use Rattle.api_calls.specs.State.{state}
use Rattle.http_routes.specs.Actions.{IsVersion}
use Rattle.place.specs.Place.{Names}
use Rattle.far_laws.specs.Answering.{GoesOn}

-- the document was shown, at the version that the place names, of the object of that key at a history before
pub record WasShown (m : Meaning) (boot : ℕ) (n : Names) (log : List Item) (key : KeyView) (j : Json) : Type 0 where
  pub start : List Item
  pub to : GoesOn start log
  pub object : Stored
  pub there : find key (state m start).objects ≡ Some object
  pub v : ℕ
  pub version : IsVersion m n.version v
  pub form : ObjectView
  pub pair : m.pair v object.h form
  pub is : j ≡ document (numbered boot object.number object.born form)
  pub utf8 : IsUtf8 (text_of j)
