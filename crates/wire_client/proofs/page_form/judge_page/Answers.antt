use Rattle.std.proofs.Common.{◌≡◌, ◌∙◌, List, [], Option, true, false, None, Some, map, is_none, unwrap_or, codes, ap, sym, subst}
use Rattle.std.proofs.lemmas.Result.{err_from_is_err_and}
use Rattle.kj_value.specs.Json.{Json}
use Rattle.kj_value.specs.Seen.{json}
use Rattle.wire_client.specs.Forms.{Path, has_version, items_in, items_fault, page_fields_fault}
use Rattle.wire_client.specs.Keys.{AreKeyed}
use Rattle.wire_client.proofs.PageFaults.{HasItems, bad_version, no_items, bad_item, bad_token, bad_number, fine, on_shape, told_shape}
use Rattle.wire_client.proofs.page_form.judge_page.Goals as goal

pub returns-then-not-has_version-clause-shape : goal.returns-then-not-has_version-clause-shape
returns-then-not-has_version-clause-shape c =
    told_shape (page_fields_fault c.args.version.now c.args.fields.now) (codes "apiVersion") c.shape.result
    (bad_version c.args.version.now c.args.fields.now (sym c.has_version.ensures ∙ c.if-not-has_version.true)) c.shape.ensures

pub returns-in_default-clause-shape : goal.returns-in_default-clause-shape
returns-in_default-clause-shape c =
    told_shape (page_fields_fault c.args.version.now c.args.fields.now) (codes "items") c.shape-in_default.result
    (no_items c.args.version.now c.args.fields.now (sym c.has_version.ensures ∙ c.if-not-has_version.false) (sym c.in_default.ensures)) c.shape-in_default.ensures

pub returns-in_err-judge_items-clause-shape : goal.returns-in_err-judge_items-clause-shape
returns-in_err-judge_items-clause-shape c =
    let h : HasItems c.args.version.now c.args.fields.now (map json c.as_slice.result.now) = record {
      kept = sym c.has_version.ensures ∙ c.if-not-has_version.false;
      there = sym c.in-Some.ensures ∙ ap (λ (js : List Json). Some js) (sym c.as_slice.ensures.value);
    } in
    let p = err_from_is_err_and c.from_residual.result c.from_residual.ensures.1 in
    rw (p.1, p.2) (on_shape
    (λ q. items_fault c.args.version.now 0 (map json c.as_slice.result.now) ≡ Some q) (λ q. page_fields_fault c.args.version.now c.args.fields.now ≡ Some q)
    c.in_err-judge_items.field-0.0 (λ q e. bad_item c.args.version.now c.args.fields.now (map json c.as_slice.result.now) q h e) c.in_err-judge_items.ensures)

pub returns-in_default-token_in-clause-shape : goal.returns-in_default-token_in-clause-shape
returns-in_default-token_in-clause-shape c =
    let h : HasItems c.args.version.now c.args.fields.now (map json c.as_slice.result.now) = record {
      kept = sym c.has_version.ensures ∙ c.if-not-has_version.false;
      there = sym c.in-Some.ensures ∙ ap (λ (js : List Json). Some js) (sym c.as_slice.ensures.value);
    } in
    told_shape (page_fields_fault c.args.version.now c.args.fields.now) (codes "metadata.continue") c.shape-in_default-token_in.result
    (bad_token c.args.version.now c.args.fields.now (map json c.as_slice.result.now) h c.in_ok-judge_items.ensures.0 c.in_default-token_in.ensures) c.shape-in_default-token_in.ensures

pub returns-in_default-number_in-clause-shape : goal.returns-in_default-number_in-clause-shape
returns-in_default-number_in-clause-shape c =
    let h : HasItems c.args.version.now c.args.fields.now (map json c.as_slice.result.now) = record {
      kept = sym c.has_version.ensures ∙ c.if-not-has_version.false;
      there = sym c.in-Some.ensures ∙ ap (λ (js : List Json). Some js) (sym c.as_slice.ensures.value);
    } in
    told_shape (page_fields_fault c.args.version.now c.args.fields.now) (codes "metadata.resourceVersion") c.shape-in_default-number_in.result
    (bad_number c.args.version.now c.args.fields.now (map json c.as_slice.result.now) h c.in_ok-judge_items.ensures.0 c.in-Some-token_in.ensures.0 c.in_default-number_in.ensures) c.shape-in_default-number_in.ensures

pub returns-clause-head : goal.returns-clause-head
returns-clause-head c =
    let h : HasItems c.args.version.now c.args.fields.now (map json c.as_slice.result.now) = record {
      kept = sym c.has_version.ensures ∙ c.if-not-has_version.false;
      there = sym c.in-Some.ensures ∙ ap (λ (js : List Json). Some js) (sym c.as_slice.ensures.value);
    } in
    record {
      form = fine c.args.version.now c.args.fields.now (map json c.as_slice.result.now) h c.in_ok-judge_items.ensures.0 c.in-Some-token_in.ensures.0 c.in-Some-number_in.ensures.0;
      items = ap is_none h.there;
      keyed = subst (λ (o : Option (List Json)). AreKeyed (unwrap_or o [])) (sym h.there) c.in_ok-judge_items.ensures.1;
      token = c.in_ok-token.ensures ∙ c.in-Some-token_in.ensures.1;
      rv = c.in-Some-number_in.ensures.1;
    }
