use Rattle.std.proofs.Common.{◌≡◌, List, sym, subst}
use Rattle.api_calls.specs.Item.{Item, items}
use Rattle.api_core.specs.CoreOf.{StandsFor}
use Rattle.api_core.specs.Ends.{turn_end}
use Rattle.api_core.specs.Prepared.{KnownAt}
use Rattle.api_calls.specs.Ends.{grown}
use Rattle.api_core.specs.declared.seen.Prepared.{Prepared}
use Rattle.shared_api.specs.inner.Turning.{Closes, item_if}
use Rattle.shared_api.specs.inner.Working.{item_or, second_of}
use Rattle.shared_api.proofs.Working.{few-claims, few-revision, later-items, ready-fits, ready-known, ready-here, ready-next, second-stands, stands-later, touches}
use Rattle.shared_api.proofs.worker.touch.Goals as goal

pub migration_turn-end-requires-clause-few : goal.migration_turn-end-requires-clause-few
migration_turn-end-requires-clause-few g c =
    rw c.deref_mut.ensures.value (let t = c.take-cell.ensures.taken in
    few-revision g.V.Versions.meaning c.take-cell.result.core.value c.take-cell.new.pass.seat.me.0.seen t.1 t.3)

pub migration_turn-end-requires-clause-claims : goal.migration_turn-end-requires-clause-claims
migration_turn-end-requires-clause-claims g c =
    rw c.deref_mut.ensures.value (let t = c.take-cell.ensures.taken in
    few-claims g.V.Versions.meaning c.take-cell.result.core.value c.take-cell.new.pass.seat.me.0.seen t.1 t.3)

pub migration_turn-end-requires-clause-fits : goal.migration_turn-end-requires-clause-fits
migration_turn-end-requires-clause-fits g c =
    rw c.deref_mut.ensures.value (let t = c.take-cell.ensures.taken in
    let core = c.take-cell.result.core.value in
    let v = c.args.pass.now.seat.me.0 in
    let log = c.take-cell.new.pass.seat.me.0.seen in
    ready-fits (g.V.Versions.meaning core.versions) core.view (items v.seen) (later-items v log t.4).0 c.args.w.now.claim c.args.rv c.args.new
    (stands-later g.V.Versions.meaning core v log t.4 t.1) (ready-here g.V.Versions.meaning core v c.args.w.now.claim c.args.rv c.args.new t.2 c.requires.ready))

pub migration_turn-end-requires-clause-next : goal.migration_turn-end-requires-clause-next
migration_turn-end-requires-clause-next g c =
    rw c.deref_mut.ensures.value (let t = c.take-cell.ensures.taken in
    let core = c.take-cell.result.core.value in
    let v = c.args.pass.now.seat.me.0 in
    let log = c.take-cell.new.pass.seat.me.0.seen in
    ready-next (g.V.Versions.meaning core.versions) core.view (items v.seen) (later-items v log t.4).0 c.args.w.now.claim c.args.rv c.args.new
    (stands-later g.V.Versions.meaning core v log t.4 t.1) (ready-here g.V.Versions.meaning core v c.args.w.now.claim c.args.rv c.args.new t.2 c.requires.ready))

pub finish-requires-clause-stands : goal.finish-requires-clause-stands
finish-requires-clause-stands g c =
    let t = c.take-cell.ensures.taken in
    let core = c.take-cell.result.core.value in
    let after = c.migration_turn-end.new.self in
    let v = c.args.pass.now.seat.me.0 in
    let log = c.take-cell.new.pass.seat.me.0.seen in
    let ready = ready-here g.V.Versions.meaning core v c.args.w.now.claim c.args.rv c.args.new t.2 c.requires.ready in
    let known : KnownAt (g.V.Versions.meaning core.versions) (items log) c.args.new.key c.args.rv (λ e. ready.asked.object.h ≡ e.h) =
    subst (λ (is : List Item). KnownAt (g.V.Versions.meaning core.versions) is c.args.new.key c.args.rv (λ e. ready.asked.object.h ≡ e.h)) (sym (later-items v log t.4).1)
    (ready-known (g.V.Versions.meaning core.versions) core.view (items v.seen) (later-items v log t.4).0 c.args.w.now.claim c.args.rv c.args.new (stands-later g.V.Versions.meaning core v log t.4 t.1) ready) in
    subst
    (λ (p : Prepared). StandsFor g.V.Versions.meaning after (grown (items log)
    (item_if c.enters-entered.result (item_or (second_of (g.V.Versions.meaning after.versions) (items log) c.args.w.now.claim p.key c.args.rv p.at).decision.item))))
    (sym c.of.ensures)
    (second-stands g.V.Versions.meaning core after (items log) c.args.w.now.claim c.migration_turn-end.new.w.claim c.args.new.key c.args.rv c.args.new.at (turn_end c.migration_turn-end.result)
    c.enters-entered.result (rw c.deref_mut.ensures.value at c.migration_turn-end.ensures.base) ((rw c.deref_mut.ensures.value at c.migration_turn-end.ensures.turn) (items log) ready.asked.object.h t.1.0 ready.value known) c.enters-entered.ensures)

pub returns-clause-touches : goal.returns-clause-touches
returns-clause-touches g c b is =
    let t = c.take-cell.ensures.taken in
    let core = c.take-cell.result.core.value in
    let after = c.migration_turn-end.new.self in
    let v = c.args.pass.now.seat.me.0 in
    let w = c.take-cell.new.pass.seat.me.0 in
    let log = w.seen in
    let z = c.finish.new.pass.seat.me.0 in
    let ready = ready-here g.V.Versions.meaning core v c.args.w.now.claim c.args.rv c.args.new t.2 c.requires.ready in
    let known : KnownAt (g.V.Versions.meaning core.versions) (items log) c.args.new.key c.args.rv (λ e. ready.asked.object.h ≡ e.h) =
    subst (λ (is : List Item). KnownAt (g.V.Versions.meaning core.versions) is c.args.new.key c.args.rv (λ e. ready.asked.object.h ≡ e.h)) (sym (later-items v log t.4).1)
    (ready-known (g.V.Versions.meaning core.versions) core.view (items v.seen) (later-items v log t.4).0 c.args.w.now.claim c.args.rv c.args.new (stands-later g.V.Versions.meaning core v log t.4 t.1) ready) in
    let closed = subst
    (λ (p : Prepared). Closes (item_if c.enters-entered.result (item_or (second_of (g.V.Versions.meaning after.versions) (items log) c.args.w.now.claim p.key c.args.rv p.at).decision.item)) w z)
    c.of.ensures c.finish.ensures.closes in
    touches g.V.Versions.meaning core after b v w z c.args.w.now.claim c.migration_turn-end.new.w.claim c.args.new.key c.args.rv c.args.new.at c.step_of.result (turn_end c.migration_turn-end.result) c.enters-entered.result
    t.2 is t.0 t.4 t.1 t.3 (rw c.deref_mut.ensures.value at c.migration_turn-end.ensures.base) ((rw c.deref_mut.ensures.value at c.migration_turn-end.ensures.turn) (items log) ready.asked.object.h t.1.0 ready.value known) c.enters-entered.ensures
    c.step_of.ensures closed c.finish.ensures.legal
