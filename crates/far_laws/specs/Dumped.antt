-- What a dump has of a server whose history is known.
use Rattle.std.specs.Prelude.{◌≡◌, ◌<◌, ◌^◌, ℕ, List, IsTrue, length}
use Rattle.kj_value.specs.Json.{Json}
use Rattle.kube_meta.specs.declared.limits.Limits.{Limits}
use Rattle.api_calls.specs.Calls.{Server}
use Rattle.api_calls.specs.Item.{Item}
use Rattle.api_calls.specs.Legal.{legal}
use Rattle.api_calls.specs.Meaning.{Meaning}
use Rattle.api_calls.specs.Replies.{AreShown}
use Rattle.api_calls.specs.State.{revision, state}
use Rattle.http_routes.specs.Actions.{IsVersion}
use Rattle.place.specs.Place.{Names}
use Rattle.record_dump.specs.Lines.{lines_of}
use Rattle.far_laws.specs.Answering.{GoesOn}

-- A server's history is legal, and it is known what its values mean. Its resource versions and its limit of objects are numbers of 63 bits.
pub record IsKnown (m : Meaning) (limits : Limits) (log : List Item) : Type 0 where
  pub honest : IsTrue m.honest
  pub legal : legal m limits log
  pub few : limits.objects < 2 ^ 63
  pub counted : revision log < 2 ^ 63

-- One document for each object that stands, in their order: its form at the version that the place names, with its number and its uid.
pub record AreAll (s : Server) (n : Names) (log : List Item) (objects : List Json) : Type 0 where
  pub v : ℕ
  pub version : IsVersion s.meaning n.version v
  pub shown : AreShown s.meaning s.boot v (state s.meaning log).objects objects

-- What was written are the lines of all objects of one moment between the two histories, and they are so many.
pub record IsDumpOf (s : Server) (n : Names) (first last : List Item) (written : List ℕ) (lines : ℕ) : Type 0 where
  pub at : List Item
  pub from : GoesOn first at
  pub to : GoesOn at last
  pub objects : List Json
  pub all : AreAll s n at objects
  pub wrote : written ≡ lines_of objects
  pub count : lines ≡ length objects
