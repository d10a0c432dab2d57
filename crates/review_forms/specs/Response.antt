-- The response of a review, held against what was asked: what is refused, in order, and the objects that are taken.
use Rattle.std.specs.Prelude.{◌≡◌, ℕ, Bool, not, ◌&&◌, List, [], ◌∷◌, length, nat_eq, Option, None, Some, is_none, option_map, unwrap_or, codes, if◌then◌else◌}
use Rattle.std.specs.List.{position_from, zip}
use Rattle.kj_value.specs.Json.{Json, object, members_of}
use Rattle.kj_value.specs.Fields.{Pairs, field, with_field, without_field}
use Rattle.kj_value.specs.Reading.{Reads}
use Rattle.object_reading.specs.Fields.{given, object_at}
use Rattle.object_reading.specs.Refusal.{is_given_text}
use Rattle.review_forms.specs.declared.levels.TheConstants.{REVIEW_LEVELS}
use Rattle.review_forms.specs.First.{told_if, first_told}
use Rattle.review_forms.specs.Form.{Path, text_in, list_in, object_in, is_filled, has_text, fields_of, part, review_faults, response_part, no_object, IsUnreadable}
use Rattle.review_forms.specs.Sameness.{same_there}

-- ---- its form

abbrev pub converted_path : Path
converted_path = codes "response.convertedObjects"

-- the fields of `result`
abbrev pub result_of : Pairs → Pairs
result_of rs = object_at (field (codes "result") rs)

-- every other status is a failed one
abbrev pub succeeded : Pairs → Bool
succeeded rs = has_text (codes "Success") (field (codes "status") (result_of rs))

-- of a failed result the objects aren't looked at
abbrev pub converted_of : Pairs → List Json
converted_of rs = if succeeded rs then unwrap_or (list_in (field (codes "convertedObjects") rs)) [] else []

abbrev pub response_faults : Pairs → List (Option Path)
response_faults rs =
    told_if (not (is_given_text is_filled (field (codes "uid") rs))) (codes "response.uid")
    ∷ told_if (is_none (object_in (field (codes "result") rs))) (codes "response.result")
    ∷ told_if (is_none (text_in (field (codes "status") (result_of rs)))) (codes "response.result.status")
    ∷ told_if (succeeded rs && is_none (list_in (field (codes "convertedObjects") rs))) converted_path
    ∷ no_object converted_path (converted_of rs)
    ∷ []

-- ---- what was asked

pub record Asked : Type 0 where
  pub uid : List ℕ
  pub desired : List ℕ
  pub sent : List Json

-- ---- an object beside the one that was sent

abbrev pub metadata_of : Json → Pairs
metadata_of j = object_at (field (codes "metadata") (fields_of j))

-- the field of the metadata, where a null stands for nothing
abbrev pub meta_field : List ℕ → Json → Option Json
meta_field name j = given (field name (metadata_of j))

-- kind, name, namespace and uid are the ones that were sent, or are absent on both sides
abbrev pub is_same_object : Json → Json → Bool
is_same_object k s =
    same_there (field (codes "kind") (fields_of k)) (field (codes "kind") (fields_of s))
    && (same_there (meta_field (codes "name") k) (meta_field (codes "name") s)
    && (same_there (meta_field (codes "namespace") k) (meta_field (codes "namespace") s)
    && same_there (meta_field (codes "uid") k) (meta_field (codes "uid") s)))

-- a field with that value, or without one
abbrev pub put : List ℕ → Option Json → Pairs → Pairs
put name None es = without_field name es
put name (Some v) es = with_field name v es

-- the fields of metadata that were sent, with the labels and annotations of other ones
abbrev pub metadata_from : Pairs → Pairs → Pairs
metadata_from ms sent = put (codes "annotations") (given (field (codes "annotations") ms)) (put (codes "labels") (given (field (codes "labels") ms)) sent)

-- the object of the response with those metadata
abbrev pub taken : Json → Json → Json
taken k s = object (members_of (with_field (codes "metadata") (object (members_of (metadata_from (metadata_of k) (metadata_of s)))) (without_field (codes "metadata") (fields_of k))))

abbrev pub all_taken : List Json → List Json → List Json
all_taken [] ss = []
all_taken (k ∷ ks) [] = []
all_taken (k ∷ ks) (s ∷ ss) = taken k s ∷ all_taken ks ss

-- ---- what is refused

pub data Refusal : Type 0 where
  not_review : Path → Refusal
  wrong_uid : Refusal
  remote_failed : List ℕ → Refusal
  -- how many are wanted, and how many there are
  wrong_count : ℕ → ℕ → Refusal
  wrong_version : ℕ → Refusal
  changed_identity : ℕ → Refusal

-- in the fields of a result
abbrev pub message_in : Pairs → List ℕ
message_in es = unwrap_or (text_in (field (codes "message") es)) []

-- of the objects beside those that were sent, in order
abbrev pub object_refusals : List ℕ → List Json → List Json → List (Option Refusal)
object_refusals desired sent ks =
    told_if (not (nat_eq (length sent) (length ks))) (wrong_count (length sent) (length ks))
    ∷ option_map wrong_version (position_from (λ k. not (has_text desired (field (codes "apiVersion") (fields_of k)))) 0 ks)
    ∷ option_map changed_identity (position_from (λ p. not (is_same_object p.0 p.1)) 0 (zip ks sent))
    ∷ []

-- of the response's fields, in order: where they have another form, and then what doesn't fit
abbrev pub refusals : Asked → Pairs → List (Option Refusal)
refusals asked rs =
    option_map not_review (first_told (response_faults rs))
    ∷ told_if (not (has_text asked.uid (field (codes "uid") rs))) wrong_uid
    ∷ told_if (not (succeeded rs)) (remote_failed (message_in (result_of rs)))
    ∷ object_refusals asked.desired asked.sent (converted_of rs)

-- the first thing that is refused of a response
abbrev pub refusal : Asked → Json → Option Refusal
refusal asked j = first_told (option_map not_review (first_told (review_faults response_part j)) ∷ refusals asked (part response_part j))

-- ---- of bytes

-- nothing is refused of the response, and its objects are taken
pub record IsTakenResponse (bytes : List ℕ) (asked : Asked) (ks : List Json) : Type 0 where
  pub review : Json
  pub reads : Reads bytes REVIEW_LEVELS review
  pub nothing : refusal asked review ≡ None
  pub objects : ks ≡ all_taken (converted_of (part response_part review)) asked.sent

pub data IsRefused (bytes : List ℕ) (asked : Asked) : Refusal → Type 0 where
  unread : IsUnreadable bytes → IsRefused bytes asked (not_review [])
  first : (j : Json) (r : Refusal) → Reads bytes REVIEW_LEVELS j → refusal asked j ≡ Some r → IsRefused bytes asked r
