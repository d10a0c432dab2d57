use Rattle.std.proofs.Common.{Bool, Option, ap, sym, ◌∙◌, subst, arith}
use Rattle.api_calls.specs.Ends.{grown}
use Rattle.api_calls.specs.Item.{Item, entry, SetVersions, items}
use Rattle.api_calls.specs.State.{State, state}
use Rattle.api_core.specs.CoreOf.{StandsFor}
use Rattle.api_core.specs.Ends.{set_end}
use Rattle.shared_api.specs.Base.{base_of}
use Rattle.shared_api.specs.inner.Turning.{item_if}
use Rattle.shared_api.proofs.Changing.{set-item, sets}
use Rattle.shared_api.proofs.Turns.{few_entries}
use Rattle.shared_api.proofs.set.set.Goals as goal

pub set_versions-end-requires-clause-few : goal.set_versions-end-requires-clause-few
set_versions-end-requires-clause-few g c =
    rw c.deref_mut.ensures.value (let t = c.take-cell.ensures.taken in
    let few = few_entries c.take-cell.new.pass.seat.me.0.seen t.3 in
    let is = t.1.0.revision in
    omega (arith, few, is))

pub set_versions-end-requires-clause-flags : goal.set_versions-end-requires-clause-flags
set_versions-end-requires-clause-flags g c =
    rw c.deref_mut.ensures.value (c.requires.flags (base_of c.take-cell.result.core.value) c.take-cell.ensures.taken.2)

pub finish-requires-clause-stands : goal.finish-requires-clause-stands
finish-requires-clause-stands g c =
    let t = c.take-cell.ensures.taken in
    let core = c.take-cell.result.core.value in
    let log = items c.take-cell.new.pass.seat.me.0.seen in
    let s : State = state (g.V.Versions.meaning core.versions) log in
    let turn = (rw c.deref_mut.ensures.value at c.set_versions-end.ensures.turn) log t.1.0 in
    let item = set-item s c.args.flags (set_end c.set_versions-end.result) turn.0 ∙ ap (λ (b : Bool). item_if b (entry (SetVersions c.args.flags))) (sym c.is_set.ensures) in
    subst (λ (i : Option Item). StandsFor g.V.Versions.meaning c.set_versions-end.new.self (grown log i)) item turn.1

pub returns-clause-sets : goal.returns-clause-sets
returns-clause-sets g c b is =
    let t = c.take-cell.ensures.taken in
    let core = c.take-cell.result.core.value in
    let turn = (rw c.deref_mut.ensures.value at c.set_versions-end.ensures.turn) (items c.take-cell.new.pass.seat.me.0.seen) t.1.0 in
    sets g.V.Versions.meaning core c.set_versions-end.new.self b c.args.pass.now.seat.me.0 c.take-cell.new.pass.seat.me.0 c.finish.new.pass.seat.me.0
    c.args.flags c.set_versions-end.result c.is_set.result c.settings-revision.result.1
    t.2 is t.0 t.4 t.1 t.3 (rw c.deref_mut.ensures.value at c.set_versions-end.ensures.base) (rw c.deref_mut.ensures.value at c.set_versions-end.ensures.leaves) turn.0 c.is_set.ensures (rw c.deref.ensures at c.settings-revision.ensures.stored) (rw c.deref.ensures at c.settings-revision.ensures.is_list)
    c.finish.ensures.closes c.finish.ensures.legal
