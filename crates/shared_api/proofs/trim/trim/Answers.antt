use Rattle.std.proofs.Common.{Bool, Option, All, ap, sym, ◌∙◌, ◌<◌, subst, arith}
use Rattle.api_calls.specs.Ends.{grown}
use Rattle.api_calls.specs.Item.{Item, entry, Trim, items}
use Rattle.api_calls.specs.State.{State, state}
use Rattle.api_calls.specs.Versions.{versions_of}
use Rattle.api_core.specs.CoreOf.{StandsFor}
use Rattle.api_core.specs.Ends.{trim_end}
use Rattle.shared_api.specs.inner.Turning.{item_if}
use Rattle.shared_api.proofs.Trimming.{trim-item, turn-shows, turn-version, trims}
use Rattle.shared_api.proofs.Turns.{few_entries}
use Rattle.shared_api.proofs.trim.trim.Goals as goal

pub trim-end-requires-clause-few : goal.trim-end-requires-clause-few
trim-end-requires-clause-few g c =
    rw c.deref_mut.ensures.value (let t = c.take-cell.ensures.taken in
    let few = few_entries c.take-cell.new.pass.seat.me.0.seen t.3 in
    let is = t.1.0.revision in
    omega (arith, few, is))

pub finish-requires-clause-stands : goal.finish-requires-clause-stands
finish-requires-clause-stands g c =
    let t = c.take-cell.ensures.taken in
    let core = c.take-cell.result.core.value in
    let log = items c.take-cell.new.pass.seat.me.0.seen in
    let s : State = state (g.V.Versions.meaning core.versions) log in
    let keep = versions_of c.args.keep.now in
    let stored = versions_of c.settings-revision.result.1 in
    let turn = (rw c.deref_mut.ensures.value at c.trim-end.ensures.turn) log t.1.0 in
    let shows = turn-shows core c.trim-end.new.self s keep c.trim-end.result c.settings-revision.result.0 stored turn.0 t.1.0.present.flags t.1.0.present.stored
    (rw c.deref_mut.ensures.value at c.trim-end.ensures.leaves) (rw c.deref.ensures at c.settings-revision.ensures.flags) (rw c.deref.ensures at c.settings-revision.ensures.stored) in
    let item = trim-item s keep c.settings-revision.result.0 stored (trim_end c.trim-end.result) turn.0 shows
    ∙ ap (λ (b : Bool). item_if b (entry (Trim stored))) (sym c.is_trimmed.ensures) in
    subst (λ (i : Option Item). StandsFor g.V.Versions.meaning c.trim-end.new.self (grown log i)) item turn.1

pub returns-clause-trims : goal.returns-clause-trims
returns-clause-trims g c b is =
    let t = c.take-cell.ensures.taken in
    let core = c.take-cell.result.core.value in
    let log = items c.take-cell.new.pass.seat.me.0.seen in
    let m = g.V.Versions.meaning core.versions in
    let s : State = state m log in
    let keep = versions_of c.args.keep.now in
    let stored = versions_of c.settings-revision.result.1 in
    let turn = (rw c.deref_mut.ensures.value at c.trim-end.ensures.turn) log t.1.0 in
    let shows = turn-shows core c.trim-end.new.self s keep c.trim-end.result c.settings-revision.result.0 stored turn.0 t.1.0.present.flags t.1.0.present.stored
    (rw c.deref_mut.ensures.value at c.trim-end.ensures.leaves) (rw c.deref.ensures at c.settings-revision.ensures.flags) (rw c.deref.ensures at c.settings-revision.ensures.stored) in
    let all = subst (λ (x : g.row.V.Denot). All (λ v. v < (g.V.Versions.meaning x).count) stored) (rw c.deref_mut.ensures.value at c.trim-end.ensures.base).versions (rw c.deref.ensures at c.settings-revision.ensures.is_list).versions.known in
    let held = turn-version m.count core c.trim-end.new.self s keep c.trim-end.result stored turn.0 t.1.0.present.stored
    (rw c.deref_mut.ensures.value at c.trim-end.ensures.leaves) (rw c.deref.ensures at c.settings-revision.ensures.stored) all in
    trims g.V.Versions.meaning core c.trim-end.new.self b c.args.pass.now.seat.me.0 c.take-cell.new.pass.seat.me.0 c.finish.new.pass.seat.me.0
    keep c.trim-end.result c.is_trimmed.result c.settings-revision.result.0 c.settings-revision.result.1
    t.2 is t.0 t.4 t.1 t.3 (rw c.deref_mut.ensures.value at c.trim-end.ensures.base) turn.0 c.is_trimmed.ensures shows held (rw c.deref.ensures at c.settings-revision.ensures.are_flags) (rw c.deref.ensures at c.settings-revision.ensures.is_list)
    c.finish.ensures.closes c.finish.ensures.legal
