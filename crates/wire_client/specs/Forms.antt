-- The form of what a server answers with success: an object or a page of them (Kubernetes API conventions, "Lists and Simple kinds"). What else stands there is passed over.
use Rattle.std.specs.Prelude.{ℕ, suc, Bool, true, not, ◌&&◌, List, [], ◌∷◌, ◌++◌, Option, None, Some, is_none, is_some, option_map, option_and_then, unwrap_or, codes, decimal, if◌then◌else◌}
use Rattle.std.specs.Option.{option_or}
use Rattle.std.specs.Str.{bytes_eq}
use Rattle.kj_value.specs.Json.{Json}
use Rattle.kj_value.specs.Fields.{Pairs, field}
use Rattle.kj_value.specs.Kinds.{as_object, as_list, as_text}
use Rattle.kube_meta.specs.Key.{KeyView}
use Rattle.kube_meta.specs.Names.{is_name, is_namespace}
use Rattle.object_reading.specs.Fields.{given, object_at, text_at}
use Rattle.object_reading.specs.Refusal.{is_given_text}
use Rattle.object_reading.specs.Numbers.{is_number}
use Rattle.place.specs.Place.{Names}

-- the path of a place in a body, as in `items[3].metadata.name`; the whole body's is empty
abbrev pub Path : Type 0
Path = List ℕ

-- told exactly where the test holds
abbrev pub told_if : {A : Type 0} → Bool → A → Option A
told_if b a = if b then Some a else None

abbrev pub first_told : {A : Type 0} → List (Option A) → Option A
first_told [] = None
first_told (o ∷ os) = option_or o (first_told os)

-- ---- what stands in a body

-- GROUP/VERSION
unfoldable pub api_version : Names → List ℕ
api_version n = n.group ++ codes "/" ++ n.version

abbrev pub fields_of : Json → Pairs
fields_of j = object_at (Some j)

-- a field of the metadata
abbrev pub meta_field : List ℕ → Pairs → Option Json
meta_field name fs = field name (object_at (field (codes "metadata") fs))

abbrev pub has_version : List ℕ → Pairs → Bool
has_version version fs = is_given_text (λ s. bytes_eq s version) (field (codes "apiVersion") fs)

-- the decimal text, without leading zeros, of a number below 2^64
abbrev pub has_number : Pairs → Bool
has_number fs = is_given_text is_number (meta_field (codes "resourceVersion") fs)

-- the whole has another form where it is no object
abbrev pub of_object : (Pairs → Option Path) → Option Pairs → Option Path
of_object fault None = Some []
of_object fault (Some fs) = fault fs

-- ---- an object

-- the namespace and the name that it is to have, where they are known
pub record Wanted : Type 0 where
  pub ns : Option (List ℕ)
  pub name : Option (List ℕ)

-- an item of a page may have any
abbrev pub anything : Wanted
anything = record { ns = None; name = None }

abbrev pub this_one : KeyView → Wanted
this_one key = record { ns = Some key.ns; name = Some key.name }

-- where a text is known, it is that one
abbrev pub fits : Option (List ℕ) → List ℕ → Bool
fits None s = true
fits (Some w) s = bytes_eq s w

abbrev pub has_namespace : Option (List ℕ) → Pairs → Bool
has_namespace wanted fs = is_given_text (λ s. is_namespace s && fits wanted s) (meta_field (codes "namespace") fs)

abbrev pub has_name : Option (List ℕ) → Pairs → Bool
has_name wanted fs = is_given_text (λ s. is_name s && fits wanted s) (meta_field (codes "name") fs)

-- the path of the first field of an object of that version that has another form
unfoldable pub fields_fault : List ℕ → Wanted → Pairs → Option Path
fields_fault version w fs = first_told (
    told_if (not (has_version version fs)) (codes "apiVersion")
    ∷ told_if (not (has_namespace w.ns fs)) (codes "metadata.namespace")
    ∷ told_if (not (has_name w.name fs)) (codes "metadata.name")
    ∷ told_if (not (has_number fs)) (codes "metadata.resourceVersion")
    ∷ [])

abbrev pub object_fault : List ℕ → Wanted → Json → Option Path
object_fault version w j = of_object (fields_fault version w) (as_object j)

-- ---- a page

-- behind a point, where the path isn't empty
abbrev pub pointed : Path → Path
pointed [] = []
pointed (b ∷ bs) = codes "." ++ b ∷ bs

-- of an item, counted from 0
unfoldable pub item_path : ℕ → Path → Path
item_path i path = codes "items[" ++ decimal i ++ codes "]" ++ pointed path

-- of the items, of which the first is the i-th one
abbrev pub items_fault : List ℕ → ℕ → List Json → Option Path
items_fault version i [] = None
items_fault version i (j ∷ js) = option_or (option_map (item_path i) (object_fault version anything j)) (items_fault version (suc i) js)

-- a text, or null, or nothing
abbrev pub is_token : Option Json → Bool
is_token None = true
is_token (Some j) = is_some (as_text j)

abbrev pub items_in : Pairs → Option (List Json)
items_in fs = option_and_then as_list (field (codes "items") fs)

-- the path of the first field of a page of that version that has another form
unfoldable pub page_fields_fault : List ℕ → Pairs → Option Path
page_fields_fault version fs = first_told (
    told_if (not (has_version version fs)) (codes "apiVersion")
    ∷ told_if (is_none (items_in fs)) (codes "items")
    ∷ items_fault version 0 (unwrap_or (items_in fs) [])
    ∷ told_if (not (is_token (given (meta_field (codes "continue") fs)))) (codes "metadata.continue")
    ∷ told_if (not (has_number fs)) (codes "metadata.resourceVersion")
    ∷ [])

abbrev pub page_fault : List ℕ → Json → Option Path
page_fault version j = of_object (page_fields_fault version) (as_object j)

-- ---- what the fields of a body of the form tell

-- the text at a name of the metadata, and none where there is no text
abbrev pub meta_text : List ℕ → Pairs → List ℕ
meta_text name fs = unwrap_or (text_at (meta_field name fs)) []

abbrev pub key_in : Pairs → KeyView
key_in fs = record { ns = meta_text (codes "namespace") fs; name = meta_text (codes "name") fs }

-- the text of its number
abbrev pub number_in : Pairs → List ℕ
number_in fs = meta_text (codes "resourceVersion") fs

-- the token of the next page: empty where there is none
abbrev pub token_in : Pairs → List ℕ
token_in fs = meta_text (codes "continue") fs
