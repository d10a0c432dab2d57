use Rattle.std.proofs.Common.{Bool, List, Option, ℕ, ap, sym, ◌≡◌, ◌∙◌, subst, arith}
use Rattle.api_calls.specs.Ends.{grown}
use Rattle.api_calls.specs.Item.{Item, entry, StartMigration, items}
use Rattle.api_calls.specs.Settings.{start_decision}
use Rattle.api_calls.specs.State.{State, state}
use Rattle.api_core.specs.CoreOf.{StandsFor}
use Rattle.api_core.specs.Ends.{start_end}
use Rattle.shared_api.specs.inner.Turning.{item_if}
use Rattle.shared_api.proofs.StartCalls.{begins, start-item}
use Rattle.shared_api.proofs.Turns.{few_entries}
use Rattle.shared_api.proofs.start.start.Goals as goal

pub start_migration-end-requires-clause-few : goal.start_migration-end-requires-clause-few
start_migration-end-requires-clause-few g c =
    rw c.deref_mut.ensures.value (let t = c.take-cell.ensures.taken in
    let few = few_entries c.take-cell.new.pass.seat.me.0.seen t.3 in
    let is = t.1.0.revision in
    omega (arith, few, is))

pub finish-requires-clause-stands : goal.finish-requires-clause-stands
finish-requires-clause-stands g c =
    let t = c.take-cell.ensures.taken in
    let core = c.take-cell.result.core.value in
    let log = items c.take-cell.new.pass.seat.me.0.seen in
    let s : State = state (g.V.Versions.meaning core.versions) log in
    let turn = (rw c.deref_mut.ensures.value at c.start_migration-end.ensures.turn) log t.1.0 in
    let item = start-item core.view.limits s c.args.name.bytes (start_end c.start_migration-end.result) turn.0
    ∙ ap (λ (b : Bool). item_if b (entry (StartMigration c.args.name.bytes))) (sym c.is_started.ensures)
    ∙ ap (λ (name : List ℕ). item_if c.is_started.result (entry (StartMigration name))) (sym c.requires.copy) in
    subst (λ (i : Option Item). StandsFor g.V.Versions.meaning c.start_migration-end.new.self (grown log i)) item turn.1

pub returns-clause-begins : goal.returns-clause-begins
returns-clause-begins g c b is =
    let t = c.take-cell.ensures.taken in
    let core = c.take-cell.result.core.value in
    let log = items c.take-cell.new.pass.seat.me.0.seen in
    let s : State = state (g.V.Versions.meaning core.versions) log in
    let turn = (rw c.deref_mut.ensures.value at c.start_migration-end.ensures.turn) log t.1.0 in
    let ended : start_end c.start_migration-end.result ≡ (start_decision core.view.limits s c.args.copy.now.bytes).answer =
    turn.0 ∙ ap (λ (name : List ℕ). (start_decision core.view.limits s name).answer) (sym c.requires.copy) in
    begins g.V.Versions.meaning core c.start_migration-end.new.self b c.args.pass.now.seat.me.0 c.take-cell.new.pass.seat.me.0 c.finish.new.pass.seat.me.0
    c.args.copy.now.bytes (start_end c.start_migration-end.result) c.is_started.result c.settings-revision.result.0
    t.2 is t.0 t.4 t.1 t.3 (rw c.deref_mut.ensures.value at c.start_migration-end.ensures.base) (rw c.deref.ensures at c.settings-revision.ensures.flags) (rw c.deref.ensures at c.settings-revision.ensures.are_flags)
    ended c.is_started.ensures c.finish.ensures.closes c.finish.ensures.legal
