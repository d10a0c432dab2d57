use Rattle.std.proofs.Common.{map, sym, arith}
use Rattle.kj_value.specs.Seen.{json}
use Rattle.wire_client.specs.Forms.{items_fault, item_path}
use Rattle.wire_client.proofs.Items.{item_other, item_fine, items_fine}
use Rattle.wire_client.proofs.Keyed.{items_keyed}
use Rattle.wire_client.proofs.PageFaults.{told_shape}
use Rattle.wire_client.proofs.page_form.judge_items.Goals as goal

pub returns-in-Some : goal.returns-in-Some
returns-in-Some c =
    told_shape (items_fault c.args.version.now 0 (map json c.args.items.now)) (item_path c.loop-i.i c.in-Some.path.now) c.item_shape.result
    (item_other c.args.version.now c.args.items.now c.loop-i.i c.index-items-i.result c.in-Some.path.now c.loop-i-test.true c.index-items-i.is c.loop-i.invariant (sym c.in-Some.ensures))
    c.item_shape.ensures

pub loop-i-preserved : goal.loop-i-preserved
loop-i-preserved c =
    item_fine c.args.version.now c.args.items.now c.loop-i.i c.index-items-i.result c.loop-i-test.true c.index-items-i.is c.loop-i.invariant (sym c.in_default.ensures)

pub returns : goal.returns
returns c =
    let fine = items_fine c.args.version.now c.args.items.now c.loop-i.i (omega (arith, c.loop-i-test.false)) c.loop-i.invariant in
    (fine, items_keyed c.args.version.now 0 (map json c.args.items.now) fine)
