-- A value of one kind: the bytes of a text, the items of a list in order, the fields of an object in the order of their names.
use Rattle.std.specs.Prelude.{ℕ, List, [], ◌∷◌, Option, None, Some}
use Rattle.kj_value.specs.Json.{Json, null, boolean, whole, text, list, object, Items, no_items, item, Members, no_members, member}
use Rattle.kj_value.specs.Fields.{Pairs}

abbrev pub pairs_of : Members → Pairs
pairs_of no_members = []
pairs_of (member k j ms) = (k, j) ∷ pairs_of ms

abbrev pub list_of : Items → List Json
list_of no_items = []
list_of (item j js) = j ∷ list_of js

-- the bytes, where the value is a text
abbrev pub as_text : Json → Option (List ℕ)
as_text null = None
as_text (boolean b) = None
as_text (whole z) = None
as_text (text s) = Some s
as_text (list js) = None
as_text (object ms) = None

-- the items, where the value is a list
abbrev pub as_list : Json → Option (List Json)
as_list null = None
as_list (boolean b) = None
as_list (whole z) = None
as_list (text s) = None
as_list (list js) = Some (list_of js)
as_list (object ms) = None

-- the fields, where the value is an object
abbrev pub as_object : Json → Option Pairs
as_object null = None
as_object (boolean b) = None
as_object (whole z) = None
as_object (text s) = None
as_object (list js) = None
as_object (object ms) = Some (pairs_of ms)
