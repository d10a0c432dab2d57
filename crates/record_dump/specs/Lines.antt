-- A dump of objects: one line for each.
use Rattle.std.specs.Prelude.{ℕ, List, [], ◌∷◌, ◌++◌, codes}
use Rattle.kj_value.specs.Characters.{line_feed}
use Rattle.kj_value.specs.Json.{Json, object, members_of}
use Rattle.kj_value.specs.Fields.{Pairs, field, with_field, without_field}
use Rattle.kj_value.specs.Text.{text_of}
use Rattle.object_reading.specs.Fields.{object_at}
use Rattle.wire_client.specs.Forms.{fields_of}

-- metadata without what a server sets anew
abbrev pub carried : Pairs → Pairs
carried ms = without_field (codes "uid") (without_field (codes "resourceVersion") (without_field (codes "generation") (without_field (codes "deletionTimestamp") (without_field (codes "creationTimestamp") ms))))

-- the object with this metadata in place of its own
unfoldable pub dumped : Json → Json
dumped j = object (members_of (with_field (codes "metadata") (object (members_of (carried (object_at (field (codes "metadata") (fields_of j)))))) (without_field (codes "metadata") (fields_of j))))

abbrev pub ended : List ℕ → List ℕ
ended line = line ++ line_feed ∷ []

-- its compact text, and a line feed
abbrev pub line_of : Json → List ℕ
line_of j = ended (text_of (dumped j))

-- one line after the other
abbrev pub lines_of : List Json → List ℕ
lines_of [] = []
lines_of (j ∷ js) = line_of j ++ lines_of js
