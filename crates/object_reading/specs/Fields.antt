-- What a field holds.
use Rattle.std.specs.Prelude.{ℕ, List, [], Option, None, Some, unwrap_or}
use Rattle.kj_value.specs.Json.{Json, null, boolean, whole, text, list, object}
use Rattle.kj_value.specs.Fields.{Pairs}
use Rattle.kj_value.specs.Kinds.{as_text, as_list, as_object}
pub use Rattle.kj_value.specs.Kinds.{pairs_of, list_of}

-- a null stands for nothing
abbrev pub given : Option Json → Option Json
given None = None
given (Some null) = None
given (Some (boolean b)) = Some (boolean b)
given (Some (whole z)) = Some (whole z)
given (Some (text s)) = Some (text s)
given (Some (list js)) = Some (list js)
given (Some (object ms)) = Some (object ms)

-- the fields of the object that stands there, and none where there is no object
abbrev pub object_at : Option Json → Pairs
object_at None = []
object_at (Some j) = unwrap_or (as_object j) []

-- the items of the list that stands there, and none where there is no list
abbrev pub list_at : Option Json → List Json
list_at None = []
list_at (Some j) = unwrap_or (as_list j) []

-- the text that stands there
abbrev pub text_at : Option Json → Option (List ℕ)
text_at None = None
text_at (Some j) = as_text j
