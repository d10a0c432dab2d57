-- Which refusal of a response is the first one.
use Rattle.std.proofs.Common.{◌≡◌, ℕ, List, ◌∷◌, ◌++◌, Bool, true, false, not, Option, Some, None, refl, ap, sym, ◌∙◌}
use Rattle.std.specs.Prelude.{codes, decimal, is_none, option_map, if◌then◌else◌}
use Rattle.std.specs.List.{position_from}
use Rattle.std.specs.Option.{option_or}
use Rattle.kj_value.specs.Json.{Json}
use Rattle.kj_value.specs.Kinds.{as_object}
use Rattle.kj_value.specs.Fields.{Pairs, field}
use Rattle.object_reading.specs.Refusal.{is_given_text}
use Rattle.review_forms.specs.First.{told_if, first_told}
use Rattle.review_forms.specs.Form.{Path, text_in, list_in, object_in, has_text, is_filled, review_faults, part, response_part}
use Rattle.review_forms.specs.Response.{Asked, not_review, wrong_uid, remote_failed, message_in, result_of, succeeded, converted_of, converted_path, object_refusals, refusals, refusal}
use Rattle.review_forms.specs.Seen.{IsSuccess}

-- the first fields have their form
pub record HasHead (rs : Pairs) : Type 0 where
  pub uid : is_given_text is_filled (field (codes "uid") rs) ≡ true
  pub result : is_none (object_in (field (codes "result") rs)) ≡ false
  pub status : is_none (text_in (field (codes "status") (result_of rs))) ≡ false

module _ (asked : Asked) (rs : Pairs) (h : HasHead rs) where
  pub unsuccessful : (answers : Bool) → has_text asked.uid (field (codes "uid") rs) ≡ answers → succeeded rs ≡ false
      → first_told (refusals asked rs) ≡ Some (if answers then remote_failed (message_in (result_of rs)) else wrong_uid)
  unsuccessful true u e = rw (h.uid, h.result, h.status, e, u) refl
  unsuccessful false u e = rw (h.uid, h.result, h.status, e, u) refl

  module _ (e : succeeded rs ≡ true) where
    pub no_list : list_in (field (codes "convertedObjects") rs) ≡ None → first_told (refusals asked rs) ≡ Some (not_review converted_path)
    no_list l = rw (h.uid, h.result, h.status, e, l) refl

    module _ (ks : List Json) (l : list_in (field (codes "convertedObjects") rs) ≡ Some ks) where
      pub other_item : (i : ℕ) → position_from (λ j. is_none (as_object j)) 0 ks ≡ Some i
          → first_told (refusals asked rs) ≡ Some (not_review (converted_path ++ (codes "[" ++ decimal i ++ codes "]")))
      other_item i p = rw (h.uid, h.result, h.status, e, l, p) refl

      pub other_uid : position_from (λ j. is_none (as_object j)) 0 ks ≡ None → has_text asked.uid (field (codes "uid") rs) ≡ false
          → first_told (refusals asked rs) ≡ Some wrong_uid
      other_uid p u = rw (h.uid, h.result, h.status, e, l, p, u) refl

      pub is_success : (uid : List ℕ) → position_from (λ j. is_none (as_object j)) 0 ks ≡ None → has_text uid (field (codes "uid") rs) ≡ true → IsSuccess uid rs ks
      is_success uid p u = record {
        form = rw (h.uid, h.result, h.status, e, l, p) refl;
        answers = u;
        succeeded = e;
        objects = rw (e, l) refl;
      }

-- behind the fields only the objects are left to be looked at
pub objects_left : (asked : Asked) (rs : Pairs) (ks : List Json) → IsSuccess asked.uid rs ks
    → first_told (refusals asked rs) ≡ first_told (object_refusals asked.desired asked.sent ks)
objects_left asked rs ks s =
    ap (λ (o : Option Path). option_or (option_map not_review o) (first_told (told_if (not (has_text asked.uid (field (codes "uid") rs))) wrong_uid ∷ told_if (not (succeeded rs)) (remote_failed (message_in (result_of rs))) ∷ object_refusals asked.desired asked.sent (converted_of rs)))) s.form
    ∙ (ap (λ (b : Bool). option_or (told_if (not b) wrong_uid) (first_told (told_if (not (succeeded rs)) (remote_failed (message_in (result_of rs))) ∷ object_refusals asked.desired asked.sent (converted_of rs)))) s.answers
    ∙ (ap (λ (b : Bool). option_or (told_if (not b) (remote_failed (message_in (result_of rs)))) (first_told (object_refusals asked.desired asked.sent (converted_of rs)))) s.succeeded
    ∙ ap (λ (js : List Json). first_told (object_refusals asked.desired asked.sent js)) (sym s.objects)))

-- of a review of a response only the response's fields are left to be looked at
pub fields_left : (asked : Asked) (j : Json) (rs : Pairs) → first_told (review_faults response_part j) ≡ None → rs ≡ part response_part j
    → refusal asked j ≡ first_told (refusals asked rs)
fields_left asked j rs h e =
    ap (λ (o : Option Path). option_or (option_map not_review o) (first_told (refusals asked (part response_part j)))) h
    ∙ ap (λ (es : Pairs). first_told (refusals asked es)) (sym e)

pub form_told : (asked : Asked) (j : Json) (p : Path) → first_told (review_faults response_part j) ≡ Some p → refusal asked j ≡ Some (not_review p)
form_told asked j p h = ap (λ (o : Option Path). option_or (option_map not_review o) (first_told (refusals asked (part response_part j)))) h
