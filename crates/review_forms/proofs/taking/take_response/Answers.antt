use Rattle.std.proofs.Common.{◌≡◌, ◌∙◌, [], Some, List, ap, sym, subst}
use Rattle.std.proofs.lemmas.Result.{err_from_is_err_and}
use Rattle.kj_value.specs.Json.{Json}
use Rattle.kj_value.specs.Seen.{json}
use Rattle.review_forms.specs.First.{first_told}
use Rattle.review_forms.specs.Form.{Path, review_faults, response_part, IsUnreadable}
use Rattle.review_forms.specs.Response.{Asked, Refusal, not_review, refusals, object_refusals, converted_of, all_taken, IsRefused, unread, first}
use Rattle.review_forms.proofs.Paths.{on_refusal, on_response}
use Rattle.review_forms.proofs.Responses.{objects_left, fields_left, form_told}
use Rattle.review_forms.proofs.taking.take_response.Goals as goal

pub returns-in-Err-clause-refused : goal.returns-in-Err-clause-refused
returns-in-Err-clause-refused c =
    let bytes = c.args.bytes.now in
    let asked : Asked = record { uid = c.args.uid.now; desired = c.args.desired.now; sent = c.args.sent.now } in
    on_response (λ (p : Path). (p ≡ []) × IsUnreadable bytes) (IsRefused bytes asked) c.in-Err.fault c.from.result c.from.ensures (λ p k. subst (λ (q : Path). IsRefused bytes asked (not_review q)) (sym k.0) (unread k.1)) c.in-Err.ensures.refused

pub returns-in-Err-take_part-clause-refused : goal.returns-in-Err-take_part-clause-refused
returns-in-Err-take_part-clause-refused c =
    let bytes = c.args.bytes.now in
    let asked : Asked = record { uid = c.args.uid.now; desired = c.args.desired.now; sent = c.args.sent.now } in
    let j = json c.in-Ok.document in
    on_response (λ (p : Path). first_told (review_faults response_part j) ≡ Some p) (IsRefused bytes asked) c.in-Err-take_part.fault c.from-in-Err-take_part.result c.from-in-Err-take_part.ensures (λ p k. first j (not_review p) c.in-Ok.ensures.read (form_told asked j p k)) (c.in-Err-take_part.ensures.refused [])

pub returns-in_err-objects-clause-refused : goal.returns-in_err-objects-clause-refused
returns-in_err-objects-clause-refused c =
    let bytes = c.args.bytes.now in
    let asked : Asked = record { uid = c.args.uid.now; desired = c.args.desired.now; sent = c.args.sent.now } in
    let j = json c.in-Ok.document in
    let fields = c.in-Ok-take_part.fields in
    let p = err_from_is_err_and c.from_residual.result c.from_residual.ensures.1 in
    rw (p.1, p.2) (on_refusal (λ (r : Refusal). first_told (refusals asked fields) ≡ Some r) (IsRefused bytes asked) c.in_err-objects.field-0.0 (λ r k. first j r c.in-Ok.ensures.read (fields_left asked j fields (c.in-Ok-take_part.ensures.form []) c.in-Ok-take_part.ensures.part ∙ k)) (c.in_err-objects.ensures.refused c.args.desired.now c.args.sent.now))

pub returns-in_err-check-clause-refused : goal.returns-in_err-check-clause-refused
returns-in_err-check-clause-refused c =
    let bytes = c.args.bytes.now in
    let asked : Asked = record { uid = c.args.uid.now; desired = c.args.desired.now; sent = c.args.sent.now } in
    let j = json c.in-Ok.document in
    let fields = c.in-Ok-take_part.fields in
    let ks = c.in_ok-objects.objects in
    let p = err_from_is_err_and c.from_residual-in_err-check.result c.from_residual-in_err-check.ensures.1 in
    rw (p.1, p.2) (on_refusal (λ (r : Refusal). first_told (object_refusals c.args.desired.now c.args.sent.now ks) ≡ Some r) (IsRefused bytes asked) c.in_err-check.field-0.0 (λ r k. first j r c.in-Ok.ensures.read (fields_left asked j fields (c.in-Ok-take_part.ensures.form []) c.in-Ok-take_part.ensures.part ∙ (objects_left asked fields ks c.in_ok-objects.ensures.taken ∙ k))) c.in_err-check.ensures.refused)

pub returns-clause-taken : goal.returns-clause-taken
returns-clause-taken c =
    let asked : Asked = record { uid = c.args.uid.now; desired = c.args.desired.now; sent = c.args.sent.now } in
    let j = json c.in-Ok.document in
    let fields = c.in-Ok-take_part.fields in
    let ks = c.in_ok-objects.objects in
    record {
      review = j;
      reads = c.in-Ok.ensures.read;
      nothing = fields_left asked j fields (c.in-Ok-take_part.ensures.form []) c.in-Ok-take_part.ensures.part ∙ (objects_left asked fields ks c.in_ok-objects.ensures.taken ∙ c.in_ok-check.ensures.nothing);
      objects = c.in_ok-all_taken.ensures ∙ ap (λ (es : List Json). all_taken es c.args.sent.now) (c.in_ok-objects.ensures.taken.objects ∙ ap converted_of c.in-Ok-take_part.ensures.part);
    }
