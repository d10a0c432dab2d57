use Rattle.std.proofs.Common.{arith, w64, to_z, pos, refl, ◌≡◌, ◌+ℤ◌, ◌∙◌}
use Rattle.std.proofs.lemmas.Bool.{iff_false}
use Rattle.std.proofs.lemmas.Int.{to_z_pos}
use Rattle.jiff.specs.Words.{epoch_day}
use Rattle.jiff.proofs.SpanFacts.{signed_arith, date_add-days, can_add-days}
use Rattle.edge_io.proofs.Days.{epoch_day-first}
use Rattle.edge_io.proofs.stamps.date_of.Goals as goal

pub unreachable-requires : goal.unreachable-requires
unreachable-requires c =
    let start : epoch_day c.date.result ≡ pos 0 = epoch_day-first c.date.result c.date.ensures.0 (omega (arith, signed_arith, c.date.ensures.1)) (omega (arith, signed_arith, c.date.ensures.2)) in
    let plain : to_z w64 c.args.day ≡ pos c.args.day = to_z_pos w64 c.args.day (omega (arith, c.requires)) in
    let can = can_add-days c.date.result (to_z w64 c.args.day) c.days.result c.days.ensures in
    iff_false c.in-Err.ensures.succeeds refl (can.1 (rw (start, plain) (omega (arith, signed_arith, c.requires))))

pub returns : goal.returns
returns c =
    let start : epoch_day c.date.result ≡ pos 0 = epoch_day-first c.date.result c.date.ensures.0 (omega (arith, signed_arith, c.date.ensures.1)) (omega (arith, signed_arith, c.date.ensures.2)) in
    let plain : to_z w64 c.args.day ≡ pos c.args.day = to_z_pos w64 c.args.day (omega (arith, c.requires)) in
    let added : epoch_day c.in-Ok.date ≡ epoch_day c.date.result +ℤ to_z w64 c.args.day = c.in-Ok.ensures.value ∙ date_add-days c.date.result (to_z w64 c.args.day) c.days.result c.days.ensures in
    added ∙ rw (start, plain) (omega (arith, signed_arith))
