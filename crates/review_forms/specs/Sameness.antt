-- What stands at a name in two objects is the same, or nothing stands there in either.
use Rattle.std.specs.Prelude.{Bool, true, false, Option, None, Some}
use Rattle.kj_value.specs.Json.{Json}
use Rattle.kj_value.specs.Same.{json_same}

abbrev pub same_there : Option Json → Option Json → Bool
same_there None None = true
same_there None (Some b) = false
same_there (Some a) None = false
same_there (Some a) (Some b) = json_same a b
