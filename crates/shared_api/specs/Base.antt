-- What no call changes, and when the core that the turn keeps stands for a list of the passes' items.
use Rattle.std.specs.Prelude.{ℕ, List}
use Rattle.api_calls.specs.Calls.{Server}
use Rattle.api_calls.specs.Item.{Logged, items, items_of}
use Rattle.api_calls.specs.Legal.{CountsFrom}
use Rattle.api_calls.specs.Meaning.{Meaning}
use Rattle.api_core.specs.CoreOf.{CoreOf, StandsFor}
use Rattle.shared_api.specs.declared.cell.CoreBase.{CoreBase}

-- the server that the definitions speak of
abbrev pub server_of : {V : Type 0} → (V → Meaning) → CoreBase V → Server
server_of meaning b = record { meaning = meaning b.versions; limits = b.limits; boot = b.boot }

abbrev pub base_of : {V : Type 0} → CoreOf V → CoreBase V
base_of c = record { versions = c.versions; limits = c.view.limits; boot = c.view.boot }

-- the core stands for what the list says, and the items of each pass are counted 0, 1, 2 and on
abbrev pub StandsCell : {V : Type 0} → (V → Meaning) → CoreOf V → List Logged → Type 0
StandsCell meaning c log = StandsFor meaning c (items log) × ((p : ℕ) → CountsFrom 0 (items_of p log))
