use Rattle.std.proofs.Common.{◌≡◌, false}
use Rattle.std.specs.List.{list_any}
use Rattle.kube_meta.specs.Plan.{is_loose}
use Rattle.migrate_core.specs.Rows.{keys}
use Rattle.migrate_core.proofs.Plans.{may_next, slots_next}
use Rattle.migrate_core.proofs.claims.hold.Goals as goal

pub returns-clause-was : goal.returns-clause-was
returns-clause-was g c =
    let none : list_any is_loose c.args.slots.now ≡ false = cc in
    may_next c.args.claim c.args.cursor.now c.args.slots.now c.hold_loose.new.slots c.hold_next.result none c.hold_loose.ensures.slots c.hold_next.ensures.was

pub returns-clause-slots : goal.returns-clause-slots
returns-clause-slots g c =
    let none : list_any is_loose c.args.slots.now ≡ false = cc in
    slots_next c.args.claim c.args.cursor.now c.args.slots.now c.hold_loose.new.slots c.hold_next.new.slots (keys (g.R.Records.rows c.args.records.now)) c.hold_next.result
    none c.hold_loose.ensures.slots c.hold_next.ensures.slots
