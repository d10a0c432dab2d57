-- The request of a review.
use Rattle.std.specs.Prelude.{ℕ, not, List, [], ◌∷◌, ◌++◌, Option, is_none, unwrap_or, codes}
use Rattle.kj_value.specs.Json.{Json, text, list, object, items_of, members_of}
use Rattle.kj_value.specs.Fields.{Pairs, field}
use Rattle.object_reading.specs.Refusal.{is_given_text}
use Rattle.review_forms.specs.First.{told_if, first_told}
use Rattle.review_forms.specs.Form.{Path, text_in, list_in, is_filled, review_version, review_kind, part, review_faults, no_object}

abbrev pub request_part : List ℕ
request_part = codes "request"

abbrev pub objects_path : Path
objects_path = codes "request.objects"

-- the uid of a review, the version that is wanted, and the objects to be converted, in order
pub record RequestView : Type 0 where
  pub uid : List ℕ
  pub desired : List ℕ
  pub objects : List Json

-- where the fields of a request have another form
abbrev pub field_faults : Pairs → List (Option Path)
field_faults rs =
    told_if (not (is_given_text is_filled (field (codes "uid") rs))) (codes "request.uid")
    ∷ told_if (is_none (text_in (field (codes "desiredAPIVersion") rs))) (codes "request.desiredAPIVersion")
    ∷ told_if (is_none (list_in (field (codes "objects") rs))) objects_path
    ∷ no_object objects_path (unwrap_or (list_in (field (codes "objects") rs)) [])
    ∷ []

-- the path of the first place at which a review of a request has another form
abbrev pub request_fault : Json → Option Path
request_fault j = first_told (review_faults request_part j ++ field_faults (part request_part j))

abbrev pub request_of : Pairs → RequestView
request_of rs = record {
  uid = unwrap_or (text_in (field (codes "uid") rs)) [];
  desired = unwrap_or (text_in (field (codes "desiredAPIVersion") rs)) [];
  objects = unwrap_or (list_in (field (codes "objects") rs)) [];
}

-- ---- the document of a request

abbrev pub review_document : List ℕ → Json → Json
review_document name j = object (members_of (
    (codes "apiVersion", text review_version) ∷ (codes "kind", text review_kind) ∷ (name, j) ∷ []))

abbrev pub request_document : RequestView → Json
request_document r = review_document request_part (object (members_of (
    (codes "desiredAPIVersion", text r.desired) ∷ (codes "objects", list (items_of r.objects)) ∷ (codes "uid", text r.uid) ∷ [])))
