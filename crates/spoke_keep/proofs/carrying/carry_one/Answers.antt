use Rattle.spoke_keep.specs.inner.Seen.{own_name, fate_note}
use Rattle.spoke_keep.proofs.Loops.{carried_one, bad_renamed}
use Rattle.spoke_keep.proofs.carrying.carry_one.Goals as goal

pub returns-in-Ok-move_one-clause-ok : goal.returns-in-Ok-move_one-clause-ok
returns-in-Ok-move_one-clause-ok c =
    carried_one c.args.all.now (own_name c.args.own) c.args.body.now c.args.t c.args.notes.now c.move_one.new.notes c.as_str.result.now c.as_str-2.result.now (λ u. fate_note u c.in-Ok.fate) c.as_str.ensures c.as_str-2.ensures c.in-Ok.ensures.ok c.in-Ok-move_one.ensures

pub returns-in-Err-clause-err : goal.returns-in-Err-clause-err
returns-in-Err-clause-err c =
    bad_renamed c.args.all.now (own_name c.args.own) c.args.t c.as_str.result.now c.as_str-2.result.now _ c.as_str.ensures c.as_str-2.ensures c.in-Err.ensures.err
