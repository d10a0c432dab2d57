-- The rules of the fields of an object's metadata (ObjectMeta of meta/v1). A field that is absent or null keeps any rule.
use Rattle.std.specs.Prelude.{ℕ, Bool, true, false, ◌&&◌, List, Option, None, Some, length, nat_le}
use Rattle.std.specs.List.{list_all}
use Rattle.kj_value.specs.Json.{Json, null, boolean, whole, text, list, object}
use Rattle.kj_value.specs.Fields.{Pairs, field}
use Rattle.kube_meta.specs.Names.{is_name}
use Rattle.object_reading.specs.Labels.{is_label_key, is_label_value, is_annotation_key}
use Rattle.object_reading.specs.Finalizers.{is_finalizer}
use Rattle.object_reading.specs.Fields.{pairs_of, list_of, given}
use Rattle.object_reading.specs.declared.finalizers.TheConstants.{FINALIZERS}

abbrev pub keeps : (Json → Bool) → Option Json → Bool
keeps rule None = true
keeps rule (Some j) = rule j

-- a text of that kind
abbrev pub is_text : (List ℕ → Bool) → Json → Bool
is_text kind null = false
is_text kind (boolean b) = false
is_text kind (whole z) = false
is_text kind (text s) = kind s
is_text kind (list js) = false
is_text kind (object ms) = false

-- a list whose items are of that kind together
abbrev pub is_list : (List Json → Bool) → Json → Bool
is_list kind null = false
is_list kind (boolean b) = false
is_list kind (whole z) = false
is_list kind (text s) = false
is_list kind (list js) = kind (list_of js)
is_list kind (object ms) = false

-- an object whose fields are of that kind together
abbrev pub is_object : (Pairs → Bool) → Json → Bool
is_object kind null = false
is_object kind (boolean b) = false
is_object kind (whole z) = false
is_object kind (text s) = false
is_object kind (list js) = false
is_object kind (object ms) = kind (pairs_of ms)

abbrev pub any_text : List ℕ → Bool
any_text s = true

abbrev pub any_list : List Json → Bool
any_list js = true

abbrev pub any_object : Pairs → Bool
any_object es = true

abbrev pub is_label : List ℕ × Json → Bool
is_label e = is_label_key e.0 && is_text is_label_value e.1

abbrev pub are_labels : Json → Bool
are_labels j = is_object (list_all is_label) j

abbrev pub is_annotation : List ℕ × Json → Bool
is_annotation e = is_annotation_key e.0 && is_text any_text e.1

abbrev pub are_annotations : Json → Bool
are_annotations j = is_object (list_all is_annotation) j

abbrev pub few_finalizers : List Json → Bool
few_finalizers js = nat_le (length js) FINALIZERS && list_all (is_text is_finalizer) js

abbrev pub are_finalizers : Json → Bool
are_finalizers j = is_list few_finalizers j

-- the field keeps the rule
abbrev pub field_keeps : (Json → Bool) → List ℕ → Pairs → Bool
field_keeps rule k ms = keeps rule (given (field k ms))

-- the name has to be there
abbrev pub is_named : Option Json → Bool
is_named None = false
is_named (Some j) = is_text is_name j
