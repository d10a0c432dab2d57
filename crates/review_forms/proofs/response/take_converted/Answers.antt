use Rattle.std.proofs.Common.{◌≡◌, ◌∙◌, ◌++◌, ℕ, List, [], true, false, Some, None, codes, ap, sym}
use Rattle.std.specs.Prelude.{is_none, decimal, if◌then◌else◌}
use Rattle.std.specs.List.{position_from}
use Rattle.std.specs.Str.{bytes_eq}
use Rattle.object_reading.specs.Refusal.{is_given_text}
use Rattle.review_forms.specs.Form.{is_filled}
use Rattle.kj_value.specs.Json.{Json}
use Rattle.kj_value.specs.Kinds.{as_object}
use Rattle.kj_value.specs.Fields.{Pairs, field}
use Rattle.review_forms.specs.First.{first_told}
use Rattle.review_forms.specs.Form.{Path, text_in, list_in, object_in, has_text}
use Rattle.review_forms.specs.Response.{Asked, Refusal, not_review, wrong_uid, remote_failed, message_in, succeeded, converted_path, refusals}
use Rattle.review_forms.proofs.Facts.{text_there, object_there, is_there}
use Rattle.review_forms.proofs.Paths.{on_refusal, on_response}
use Rattle.review_forms.proofs.Responses.{HasHead, unsuccessful, no_list, other_item, other_uid, is_success}
use Rattle.review_forms.proofs.response.take_converted.Goals as goal

-- the fields that were looked at
head : (rs es : Pairs) (u s : List ℕ) → is_given_text is_filled (field (codes "uid") rs) ≡ true → object_in (field (codes "result") rs) ≡ Some es
    → text_in (field (codes "status") es) ≡ Some s → HasHead rs
head rs es u s a o t = record {
  uid = a;
  result = is_there _ es o;
  status = ap (λ (x : Pairs). is_none (text_in (field (codes "status") x))) (object_there _ es o) ∙ is_there _ s t;
}

told : (rs es : Pairs) (s : List ℕ) → object_in (field (codes "result") rs) ≡ Some es → text_in (field (codes "status") es) ≡ Some s
    → succeeded rs ≡ bytes_eq s (codes "Success")
told rs es s o t = ap (λ (x : Pairs). has_text (codes "Success") (field (codes "status") x)) (object_there _ es o) ∙ text_there _ s (codes "Success") t

pub returns-then-not-succeeded-clause-refused : goal.returns-then-not-succeeded-clause-refused
returns-then-not-succeeded-clause-refused c desired sent =
    let rs = c.args.fields in
    let es = c.in-Some-object_at.result.now in
    let o : object_in (field (codes "result") rs) ≡ Some es = sym c.in-Some-object_at.ensures in
    let t : text_in (field (codes "status") es) ≡ Some c.in-Some-text_at.status.now = sym c.in-Some-text_at.ensures in
    let h : HasHead rs = head rs es c.in-Some.given.now c.in-Some-text_at.status.now c.in-Some.ensures.filled o t in
    let u : has_text c.args.uid.now (field (codes "uid") rs) ≡ c.eq-answers.result = text_there (field (codes "uid") rs) c.in-Some.given.now c.args.uid.now c.in-Some.ensures.text ∙ sym c.eq-answers.ensures in
    let asked : Asked = record { uid = c.args.uid.now; desired = desired; sent = sent } in
    let e : succeeded rs ≡ false = told rs es c.in-Some-text_at.status.now o t ∙ (sym c.eq-succeeded.ensures ∙ c.if-not-succeeded.true) in
    on_refusal (λ (r : Refusal). r ≡ (if c.eq-answers.result then remote_failed (message_in es) else wrong_uid)) (λ (r : Refusal). first_told (refusals asked rs) ≡ Some r) c.failed.result (λ r k. unsuccessful asked rs h c.eq-answers.result u e ∙ (ap (λ (x : Pairs). Some (if c.eq-answers.result then remote_failed (message_in x) else wrong_uid)) (object_there _ es o) ∙ ap (λ (x : Refusal). Some x) (sym k))) c.failed.ensures

pub returns-in_default-take_list-clause-refused : goal.returns-in_default-take_list-clause-refused
returns-in_default-take_list-clause-refused c desired sent =
    let rs = c.args.fields in
    let es = c.in-Some-object_at.result.now in
    let o : object_in (field (codes "result") rs) ≡ Some es = sym c.in-Some-object_at.ensures in
    let t : text_in (field (codes "status") es) ≡ Some c.in-Some-text_at.status.now = sym c.in-Some-text_at.ensures in
    let h : HasHead rs = head rs es c.in-Some.given.now c.in-Some-text_at.status.now c.in-Some.ensures.filled o t in
    let u : has_text c.args.uid.now (field (codes "uid") rs) ≡ c.eq-answers.result = text_there (field (codes "uid") rs) c.in-Some.given.now c.args.uid.now c.in-Some.ensures.text ∙ sym c.eq-answers.ensures in
    let asked : Asked = record { uid = c.args.uid.now; desired = desired; sent = sent } in
    let e : succeeded rs ≡ true = told rs es c.in-Some-text_at.status.now o t ∙ (sym c.eq-succeeded.ensures ∙ c.if-not-succeeded.false) in
    let l : list_in (field (codes "convertedObjects") rs) ≡ None = sym c.take_list.ensures ∙ c.in_default-take_list.is in
    on_refusal (λ (r : Refusal). r ≡ not_review converted_path) (λ (r : Refusal). first_told (refusals asked rs) ≡ Some r) c.other-in_default-take_list.result (λ r k. no_list asked rs h e l ∙ ap (λ (x : Refusal). Some x) (sym k)) c.other-in_default-take_list.ensures

pub returns-in-Some-first_other-clause-refused : goal.returns-in-Some-first_other-clause-refused
returns-in-Some-first_other-clause-refused c desired sent =
    let rs = c.args.fields in
    let es = c.in-Some-object_at.result.now in
    let o : object_in (field (codes "result") rs) ≡ Some es = sym c.in-Some-object_at.ensures in
    let t : text_in (field (codes "status") es) ≡ Some c.in-Some-text_at.status.now = sym c.in-Some-text_at.ensures in
    let h : HasHead rs = head rs es c.in-Some.given.now c.in-Some-text_at.status.now c.in-Some.ensures.filled o t in
    let u : has_text c.args.uid.now (field (codes "uid") rs) ≡ c.eq-answers.result = text_there (field (codes "uid") rs) c.in-Some.given.now c.args.uid.now c.in-Some.ensures.text ∙ sym c.eq-answers.ensures in
    let asked : Asked = record { uid = c.args.uid.now; desired = desired; sent = sent } in
    let e : succeeded rs ≡ true = told rs es c.in-Some-text_at.status.now o t ∙ (sym c.eq-succeeded.ensures ∙ c.if-not-succeeded.false) in
    let ks = c.in-Some-take_list.objects in
    let l : list_in (field (codes "convertedObjects") rs) ≡ Some ks = sym c.take_list.ensures ∙ c.in-Some-take_list.is in
    let i = c.in-Some-first_other.i in
    let at : position_from (λ (j : Json). is_none (as_object j)) 0 ks ≡ Some i = sym c.first_other.ensures ∙ c.in-Some-first_other.is in
    on_response (λ (p : Path). p ≡ converted_path ++ (codes "[" ++ decimal i ++ codes "]")) (λ (r : Refusal). first_told (refusals asked rs) ≡ Some r) c.not_object.result c.from.result c.from.ensures (λ p k. other_item asked rs h e ks l i at ∙ ap (λ (q : Path). Some (not_review q)) (sym k)) c.not_object.ensures

pub returns-then-not-answers-clause-refused : goal.returns-then-not-answers-clause-refused
returns-then-not-answers-clause-refused c desired sent =
    let rs = c.args.fields in
    let es = c.in-Some-object_at.result.now in
    let o : object_in (field (codes "result") rs) ≡ Some es = sym c.in-Some-object_at.ensures in
    let t : text_in (field (codes "status") es) ≡ Some c.in-Some-text_at.status.now = sym c.in-Some-text_at.ensures in
    let h : HasHead rs = head rs es c.in-Some.given.now c.in-Some-text_at.status.now c.in-Some.ensures.filled o t in
    let u : has_text c.args.uid.now (field (codes "uid") rs) ≡ c.eq-answers.result = text_there (field (codes "uid") rs) c.in-Some.given.now c.args.uid.now c.in-Some.ensures.text ∙ sym c.eq-answers.ensures in
    let asked : Asked = record { uid = c.args.uid.now; desired = desired; sent = sent } in
    let e : succeeded rs ≡ true = told rs es c.in-Some-text_at.status.now o t ∙ (sym c.eq-succeeded.ensures ∙ c.if-not-succeeded.false) in
    let ks = c.in-Some-take_list.objects in
    let l : list_in (field (codes "convertedObjects") rs) ≡ Some ks = sym c.take_list.ensures ∙ c.in-Some-take_list.is in
    let at : position_from (λ (j : Json). is_none (as_object j)) 0 ks ≡ None = sym c.first_other.ensures ∙ c.in_default-first_other.is in
    other_uid asked rs h e ks l at (u ∙ c.if-not-answers.true)

pub returns-clause-taken : goal.returns-clause-taken
returns-clause-taken c =
    let rs = c.args.fields in
    let es = c.in-Some-object_at.result.now in
    let o : object_in (field (codes "result") rs) ≡ Some es = sym c.in-Some-object_at.ensures in
    let t : text_in (field (codes "status") es) ≡ Some c.in-Some-text_at.status.now = sym c.in-Some-text_at.ensures in
    let h : HasHead rs = head rs es c.in-Some.given.now c.in-Some-text_at.status.now c.in-Some.ensures.filled o t in
    let u : has_text c.args.uid.now (field (codes "uid") rs) ≡ c.eq-answers.result = text_there (field (codes "uid") rs) c.in-Some.given.now c.args.uid.now c.in-Some.ensures.text ∙ sym c.eq-answers.ensures in
    let asked : Asked = record { uid = c.args.uid.now; desired = []; sent = [] } in
    let e : succeeded rs ≡ true = told rs es c.in-Some-text_at.status.now o t ∙ (sym c.eq-succeeded.ensures ∙ c.if-not-succeeded.false) in
    let ks = c.in-Some-take_list.objects in
    let l : list_in (field (codes "convertedObjects") rs) ≡ Some ks = sym c.take_list.ensures ∙ c.in-Some-take_list.is in
    let at : position_from (λ (j : Json). is_none (as_object j)) 0 ks ≡ None = sym c.first_other.ensures ∙ c.in_default-first_other.is in
    is_success asked rs h e ks l c.args.uid.now at (u ∙ c.if-not-answers.false)
