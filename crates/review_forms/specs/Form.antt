-- The form of a ConversionReview (apiextensions.k8s.io/v1): the path of each place at which something else may stand, in order.
use Rattle.std.specs.Prelude.{ℕ, Bool, true, false, not, List, [], ◌∷◌, ◌++◌, Option, Some, is_none, option_map, option_and_then, codes, decimal}
use Rattle.std.specs.List.{position_from}
use Rattle.std.specs.Str.{bytes_eq}
use Rattle.kj_value.specs.Json.{Json}
use Rattle.kj_value.specs.Fields.{Pairs, field}
use Rattle.kj_value.specs.Kinds.{as_text, as_list, as_object}
use Rattle.kj_value.specs.Reading.{Reads}
use Rattle.object_reading.specs.Fields.{object_at}
use Rattle.object_reading.specs.Refusal.{is_given_text}
use Rattle.review_forms.specs.First.{told_if}
use Rattle.review_forms.specs.declared.levels.TheConstants.{REVIEW_LEVELS}

abbrev pub Path : Type 0
Path = List ℕ

-- ---- what stands at a name

abbrev pub text_in : Option Json → Option (List ℕ)
text_in o = option_and_then as_text o

abbrev pub list_in : Option Json → Option (List Json)
list_in o = option_and_then as_list o

abbrev pub object_in : Option Json → Option Pairs
object_in o = option_and_then as_object o

abbrev pub is_filled : List ℕ → Bool
is_filled [] = false
is_filled (b ∷ bs) = true

-- this very text stands there
abbrev pub has_text : List ℕ → Option Json → Bool
has_text wanted o = is_given_text (λ s. bytes_eq s wanted) o

-- ---- a review

unfoldable pub review_version : List ℕ
review_version = codes "apiextensions.k8s.io/v1"

unfoldable pub review_kind : List ℕ
review_kind = codes "ConversionReview"

abbrev pub fields_of : Json → Pairs
fields_of j = object_at (Some j)

-- the fields of the part of that name: of a request or a response
abbrev pub part : List ℕ → Json → Pairs
part name j = object_at (field name (fields_of j))

abbrev pub response_part : List ℕ
response_part = codes "response"

-- where a review with a part of that name has another form: the whole, its version, its kind, the part
abbrev pub review_faults : List ℕ → Json → List (Option Path)
review_faults name j =
    told_if (is_none (as_object j)) []
    ∷ told_if (not (has_text review_version (field (codes "apiVersion") (fields_of j)))) (codes "apiVersion")
    ∷ told_if (not (has_text review_kind (field (codes "kind") (fields_of j)))) (codes "kind")
    ∷ told_if (is_none (object_in (field name (fields_of j)))) name
    ∷ []

-- no value of at most so many levels is read
abbrev pub IsUnreadable : List ℕ → Type 0
IsUnreadable bytes = (j : Json) → Reads bytes REVIEW_LEVELS j → ⊥

-- where the first item of a list is that is no object
abbrev pub no_object : Path → List Json → Option Path
no_object path js = option_map (λ i. path ++ (codes "[" ++ decimal i ++ codes "]")) (position_from (λ j. is_none (as_object j)) 0 js)
