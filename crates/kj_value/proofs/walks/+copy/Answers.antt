use Rattle.std.proofs.Common.{◌≡◌, ◌++◌, ◌∷◌, [], List, map, take, get_or, ◌∙◌, ap, sym, arith}
use Rattle.std.proofs.lemmas.List.{map_more, map-append, take_all}
use Rattle.kj_value.specs.Json.{Json, text, list, object, depth, items_of, members_of}
use Rattle.kj_value.specs.Fields.{Pairs}
use Rattle.kj_value.specs.Seen.{json}
use Rattle.kj_value.specs.Pair.{pair_of}
use Rattle.kj_value.specs.declared.value.JVal.{JVal}
use Rattle.kj_value.specs.declared.value.Field.{Field}
use Rattle.kj_value.specs.laws.Inside.{item_depth, field_depth}
use Rattle.kj_value.proofs.walks.+copy.Goals as goal

pub copy-copy_items-requires : goal.copy-copy_items-requires
copy-copy_items-requires t c = omega (arith, c.decreases, ap depth (ap json c.in-List.is))

pub copy-copy_fields-requires : goal.copy-copy_fields-requires
copy-copy_fields-requires t c = omega (arith, c.decreases, ap depth (ap json c.in-Obj.is))

pub copy-returns-in_ok-of-in-Text : goal.copy-returns-in_ok-of-in-Text
copy-returns-in_ok-of-in-Text t c =
    ap text (c.in_ok-of-in-Text.ensures ∙ c.as_str.ensures) ∙ ap json (sym c.in-Text.is)

pub copy-returns-in_ok-copy_items-in-List : goal.copy-returns-in_ok-copy_items-in-List
copy-returns-in_ok-copy_items-in-List t c =
    ap (λ js. list (items_of js)) c.in_ok-copy_items-in-List.ensures ∙ ap json (sym c.in-List.is)

pub copy-returns-in_ok-copy_fields-in-Obj : goal.copy-returns-in_ok-copy_fields-in-Obj
copy-returns-in_ok-copy_fields-in-Obj t c =
    ap (λ ms. object (members_of ms)) c.in_ok-copy_fields-in-Obj.ensures ∙ ap json (sym c.in-Obj.is)

pub copy_items-copy-requires : goal.copy_items-copy-requires
copy_items-copy-requires t c =
    omega (arith, c.decreases, item_depth _ _ _ _ c.as_slice-x-items.ensures.value c.loop-x-test.true c.x-item.is)

pub copy_items-loop-x-preserved : goal.copy_items-loop-x-preserved
copy_items-loop-x-preserved t c =
    let xs = c.as_slice-x-items.result.now in
    let l = c.loop-x in
    let copied : json c.in_ok-copy.field-0 ≡ json (get_or xs l.x-index c.x-item.result) = c.in_ok-copy.ensures ∙ ap json c.x-item.is in
    c.in_ok-push.ensures.ok ∙ ap (λ (js : List Json). js ++ json c.in_ok-copy.field-0 ∷ []) l.invariant
    ∙ ap (λ j. map json (take l.x-index xs) ++ j ∷ []) copied ∙ sym (map_more json xs l.x-index c.x-item.result c.loop-x-test.true)

pub copy_items-returns : goal.copy_items-returns
copy_items-returns t c =
    let xs = c.as_slice-x-items.result.now in
    c.loop-x.invariant ∙ ap (λ (ys : List JVal). map json ys) (take_all c.loop-x.x-index xs (omega (arith, c.loop-x-test.false))) ∙ c.as_slice-x-items.ensures.value

pub copy_fields-copy-requires : goal.copy_fields-copy-requires
copy_fields-copy-requires t c =
    omega (arith, c.decreases, field_depth _ _ _ _ c.as_slice-f-items.ensures.value c.loop-f-test.true c.f-item.is)

pub copy_fields-loop-f-preserved : goal.copy_fields-loop-f-preserved
copy_fields-loop-f-preserved t c =
    let fs = c.as_slice-f-items.result.now in
    let l = c.loop-f in
    let pushed = map-append pair_of l.copies.items _ in
    let named : c.in_ok-name.name.bytes ≡ c.f-item.result.name.bytes = c.in_ok-name.ensures ∙ c.as_str.ensures in
    ap (λ (gs : List Field). map pair_of gs) c.in_ok-push.ensures.items ∙ pushed
    ∙ ap (λ (ps : Pairs). ps ++ (c.in_ok-name.name.bytes, json c.in_ok-value.value) ∷ []) l.invariant
    ∙ ap (λ n. map pair_of (take l.f-index fs) ++ (n, json c.in_ok-value.value) ∷ []) named
    ∙ ap (λ j. map pair_of (take l.f-index fs) ++ (c.f-item.result.name.bytes, j) ∷ []) c.in_ok-value.ensures
    ∙ ap (λ f. map pair_of (take l.f-index fs) ++ pair_of f ∷ []) c.f-item.is
    ∙ sym (map_more pair_of fs l.f-index c.f-item.result c.loop-f-test.true)

pub copy_fields-returns : goal.copy_fields-returns
copy_fields-returns t c =
    let fs = c.as_slice-f-items.result.now in
    c.from_vec.ensures ∙ c.loop-f.invariant ∙ ap (λ (gs : List Field). map pair_of gs) (take_all c.loop-f.f-index fs (omega (arith, c.loop-f-test.false))) ∙ c.as_slice-f-items.ensures.value
