use Rattle.std.proofs.Common.{◌≡◌, drop, map}
use Rattle.kj_value.specs.Seen.{json}
use Rattle.wire_client.specs.Forms.{items_fault}
use Rattle.wire_client.proofs.page_form.judge_items.Given as goal

-- none of those before has another form
abbrev pub invariant-loop-i : goal.invariant-loop-i
invariant-loop-i l = items_fault l.version 0 (map json l.items) ≡ items_fault l.version l.i (drop l.i (map json l.items))
