use Rattle.std.proofs.Common.{◌≡◌, ◌∙◌, ◌≤◌, ◌+◌, suc, length, map, refl, arith}
use Rattle.std.proofs.lemmas.List.{length-map}
use Rattle.kj_value.specs.laws.Inside.{item_depth}
use Rattle.kj_value.specs.Seen.{json}
use Rattle.review_forms.proofs.Snoc.{item_added, read_at}
use Rattle.review_forms.proofs.asking.add_items.Goals as goal

pub write-requires : goal.write-requires
write-requires c =
    omega (arith, item_depth c.as_slice-values.result.now c.args.items.now c.loop-i.i c.index-values-i.result c.as_slice-values.ensures.value c.loop-i-test.true c.index-values-i.is, c.requires)

pub loop-i-preserved : goal.loop-i-preserved
loop-i-preserved c =
    let vs = c.as_slice-values.result.now in
    let next : suc c.loop-i.i ≡ c.loop-i.i + 1 = omega arith in
    let within : c.loop-i.i ≤ length (map json vs) = omega (arith, length-map vs json, c.loop-i-test.true) in
    rw (← next) (item_added c.args.page.now c.loop-i.page c.add.new.self c.add-in-loop-i.new.self (map json vs) c.loop-i.i (json c.index-values-i.result) c.comma_before.result.now c.as_str.result.now (read_at vs (map json vs) c.loop-i.i c.index-values-i.result refl c.loop-i-test.true c.index-values-i.is) within c.loop-i.invariant c.in_ok-add.ensures c.in_ok-add-2.ensures c.comma_before.ensures (c.as_str.ensures ∙ c.in_ok-text.ensures.text))
