-- Which fault of a review's form is the first one.
use Rattle.std.proofs.Common.{◌≡◌, ℕ, List, [], ◌++◌, true, false, Option, Some, None, refl}
use Rattle.std.specs.Prelude.{codes}
use Rattle.kj_value.specs.Json.{Json}
use Rattle.kj_value.specs.Kinds.{as_object}
use Rattle.kj_value.specs.Fields.{Pairs, field}
use Rattle.review_forms.specs.First.{first_told}
use Rattle.review_forms.specs.Form.{Path, has_text, object_in, review_version, review_kind, review_faults}

module _ (name : List ℕ) (j : Json) (rest : List (Option Path)) where
  pub no_object : as_object j ≡ None → first_told (review_faults name j ++ rest) ≡ Some []
  no_object h = rw h refl

  module _ (es : Pairs) (is : as_object j ≡ Some es) where
    pub other_version : has_text review_version (field (codes "apiVersion") es) ≡ false → first_told (review_faults name j ++ rest) ≡ Some (codes "apiVersion")
    other_version h = rw (is, h) refl

    pub other_kind : has_text review_version (field (codes "apiVersion") es) ≡ true → has_text review_kind (field (codes "kind") es) ≡ false
        → first_told (review_faults name j ++ rest) ≡ Some (codes "kind")
    other_kind h k = rw (is, h, k) refl

    pub no_part : has_text review_version (field (codes "apiVersion") es) ≡ true → has_text review_kind (field (codes "kind") es) ≡ true
        → object_in (field name es) ≡ None → first_told (review_faults name j ++ rest) ≡ Some name
    no_part h k p = rw (is, h, k, p) refl

    pub has_form : (ps : Pairs) → has_text review_version (field (codes "apiVersion") es) ≡ true → has_text review_kind (field (codes "kind") es) ≡ true
        → object_in (field name es) ≡ Some ps → first_told (review_faults name j ++ rest) ≡ first_told rest
    has_form ps h k p = rw (is, h, k, p) refl
