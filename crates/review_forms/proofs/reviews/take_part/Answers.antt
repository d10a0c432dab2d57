use Rattle.std.proofs.Common.{◌≡◌, ◌∙◌, true, false, ◌++◌, Some, None, codes, sym, arith}
use Rattle.kj_value.specs.Kinds.{as_object}
use Rattle.kj_value.specs.Fields.{field}
use Rattle.kj_value.specs.Seen.{json}
use Rattle.review_forms.specs.First.{first_told}
use Rattle.review_forms.specs.Form.{Path, has_text, object_in, review_version, review_kind, review_faults}
use Rattle.review_forms.proofs.Paths.{on_path}
use Rattle.review_forms.proofs.Forms.{other_version, other_kind, no_part, has_form}
use Rattle.review_forms.proofs.Depths.{object_depth, object_levels}
use Rattle.review_forms.proofs.reviews.take_part.Goals as goal

pub returns-then-not-has_text-clause-refused : goal.returns-then-not-has_text-clause-refused
unfolding review_version
returns-then-not-has_text-clause-refused c rest =
    let is : as_object (json c.args.review) ≡ Some c.in-Some.fields = sym c.into_object.ensures ∙ c.in-Some.is in
    let h : has_text review_version (field (codes "apiVersion") c.in-Some.fields) ≡ false = sym c.has_text.ensures ∙ c.if-not-has_text.true in
    on_path (λ (p : Path). first_told (review_faults c.args.name.now (json c.args.review) ++ rest) ≡ Some p) (codes "apiVersion") c.not_review-then-not-has_text.result (other_version c.args.name.now (json c.args.review) rest c.in-Some.fields is h) c.not_review-then-not-has_text.ensures

pub returns-then-not-has_text-2-clause-refused : goal.returns-then-not-has_text-2-clause-refused
unfolding review_version review_kind
returns-then-not-has_text-2-clause-refused c rest =
    let is : as_object (json c.args.review) ≡ Some c.in-Some.fields = sym c.into_object.ensures ∙ c.in-Some.is in
    let h : has_text review_version (field (codes "apiVersion") c.in-Some.fields) ≡ true = sym c.has_text.ensures ∙ c.if-not-has_text.false in
    let k : has_text review_kind (field (codes "kind") c.in-Some.fields) ≡ false = sym c.has_text-2.ensures ∙ c.if-not-has_text-2.true in
    on_path (λ (p : Path). first_told (review_faults c.args.name.now (json c.args.review) ++ rest) ≡ Some p) (codes "kind") c.not_review-then-not-has_text-2.result (other_kind c.args.name.now (json c.args.review) rest c.in-Some.fields is h k) c.not_review-then-not-has_text-2.ensures

pub returns-in_default-take_object-clause-refused : goal.returns-in_default-take_object-clause-refused
unfolding review_version review_kind
returns-in_default-take_object-clause-refused c rest =
    let is : as_object (json c.args.review) ≡ Some c.in-Some.fields = sym c.into_object.ensures ∙ c.in-Some.is in
    let h : has_text review_version (field (codes "apiVersion") c.in-Some.fields) ≡ true = sym c.has_text.ensures ∙ c.if-not-has_text.false in
    let k : has_text review_kind (field (codes "kind") c.in-Some.fields) ≡ true = sym c.has_text-2.ensures ∙ c.if-not-has_text-2.false in
    let p : object_in (field c.args.name.now c.in-Some.fields) ≡ None = sym c.take_object.ensures ∙ c.in_default-take_object.is in
    on_path (λ (q : Path). first_told (review_faults c.args.name.now (json c.args.review) ++ rest) ≡ Some q) c.args.name.now c.not_review-in_default-take_object.result (no_part c.args.name.now (json c.args.review) rest c.in-Some.fields is h k p) c.not_review-in_default-take_object.ensures

pub returns-clause-form : goal.returns-clause-form
unfolding review_version review_kind
returns-clause-form c rest =
    let is : as_object (json c.args.review) ≡ Some c.in-Some.fields = sym c.into_object.ensures ∙ c.in-Some.is in
    let h : has_text review_version (field (codes "apiVersion") c.in-Some.fields) ≡ true = sym c.has_text.ensures ∙ c.if-not-has_text.false in
    let k : has_text review_kind (field (codes "kind") c.in-Some.fields) ≡ true = sym c.has_text-2.ensures ∙ c.if-not-has_text-2.false in
    let p : object_in (field c.args.name.now c.in-Some.fields) ≡ Some c.in-Some-take_object.part = sym c.take_object.ensures ∙ c.in-Some-take_object.is in
    has_form c.args.name.now (json c.args.review) rest c.in-Some.fields is c.in-Some-take_object.part h k p

pub returns-clause-levels : goal.returns-clause-levels
returns-clause-levels c =
    let is : as_object (json c.args.review) ≡ Some c.in-Some.fields = sym c.into_object.ensures ∙ c.in-Some.is in
    let p : object_in (field c.args.name.now c.in-Some.fields) ≡ Some c.in-Some-take_object.part = sym c.take_object.ensures ∙ c.in-Some-take_object.is in
    omega (arith, object_depth (json c.args.review) c.in-Some.fields is, object_levels c.args.name.now c.in-Some.fields c.in-Some-take_object.part p)
