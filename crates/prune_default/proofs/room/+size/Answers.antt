use Rattle.std.proofs.Common.{◌≡◌, ◌+◌, ◌∷◌, List, map, drop, length, ap, sym, ◌∙◌, arith}
use Rattle.std.proofs.lemmas.List.{drop_more, drop_all}
use Rattle.kj_value.specs.Json.{items_of, members_of}
use Rattle.kj_value.specs.Seen.{json}
use Rattle.kj_value.specs.Pair.{pair_of}
use Rattle.kj_value.specs.declared.value.JVal.{JVal}
use Rattle.kj_value.specs.declared.value.Field.{Field}
use Rattle.prune_default.specs.Size.{size, items_size, members_size}
use Rattle.prune_default.proofs.Sizes.{beside_both}
use Rattle.prune_default.proofs.room.+size.Goals as goal

pub beside_items-loop-x-preserved : goal.beside_items-loop-x-preserved
beside_items-loop-x-preserved t c =
    let l = c.loop-x in
    let xs = c.as_slice-x-items.result.now in
    let x = c.x-item.result in
    let step : items_size (items_of (map json (drop l.x-index xs))) ≡ (1 + size (json x)) + items_size (items_of (map json (drop (l.x-index + 1) xs))) =
    ap (λ (vs : List JVal). items_size (items_of (map json vs))) (drop_more xs l.x-index x c.loop-x-test.true ∙ ap (λ (y : JVal). y ∷ drop (l.x-index + 1) xs) (sym c.x-item.is)) in
    omega (arith, step, l.invariant, c.in_ok-left-2.ensures, c.in_ok-for_item.ensures)

pub beside_items-returns : goal.beside_items-returns
beside_items-returns t c =
    let none : items_size (items_of (map json (drop c.loop-x.x-index c.as_slice-x-items.result.now))) ≡ 0 =
    ap (λ (vs : List JVal). items_size (items_of (map json vs))) (drop_all c.loop-x.x-index c.as_slice-x-items.result.now c.loop-x-test.false) in
    omega (arith, none, c.loop-x.invariant)

pub beside_fields-loop-f-preserved : goal.beside_fields-loop-f-preserved
beside_fields-loop-f-preserved t c =
    let l = c.loop-f in
    let fs = c.as_slice-f-items.result.now in
    let f = c.f-item.result in
    let step : members_size (members_of (map pair_of (drop l.f-index fs))) ≡ (length f.name.bytes + 4 + size (json f.value)) + members_size (members_of (map pair_of (drop (l.f-index + 1) fs))) =
    ap (λ (gs : List Field). members_size (members_of (map pair_of gs))) (drop_more fs l.f-index f c.loop-f-test.true ∙ ap (λ (y : Field). y ∷ drop (l.f-index + 1) fs) (sym c.f-item.is)) in
    let name : length c.as_str.result.now ≡ length f.name.bytes = ap length c.as_str.ensures in
    omega (arith, step, name, l.invariant, c.in_ok-left-2.ensures)

pub beside_fields-returns : goal.beside_fields-returns
beside_fields-returns t c =
    let none : members_size (members_of (map pair_of (drop c.loop-f.f-index c.as_slice-f-items.result.now))) ≡ 0 =
    ap (λ (gs : List Field). members_size (members_of (map pair_of gs))) (drop_all c.loop-f.f-index c.as_slice-f-items.result.now c.loop-f-test.false) in
    omega (arith, none, c.loop-f.invariant)

pub beside_field-returns : goal.beside_field-returns
beside_field-returns t c =
    let name : c.in_ok-for_value.for_value + (length c.args.name.now + 4) ≡ c.args.room = omega (arith, c.in_ok-for_name.ensures, c.in_ok-for_value.ensures) in
    beside_both c.beside_value.result c.args.room c.in_ok-for_value.for_value (length c.args.name.now + 4) (size (json c.args.v.now)) name c.beside_value.ensures
