use Rattle.std.proofs.Common.{◌≡◌, Option, subst}
use Rattle.api_calls.specs.Item.{Item, note, GiveBack, items}
use Rattle.api_calls.specs.State.{state}
use Rattle.api_calls.specs.Work.{give_back_decision}
use Rattle.shared_api.specs.Base.{base_of, server_of}
use Rattle.shared_api.specs.inner.Turning.{item_if}
use Rattle.shared_api.specs.inner.Working.{number_of}
use Rattle.shared_api.specs.declared.cell.CoreBase.{CoreBase}
use Rattle.shared_api.proofs.Entering.{writes}
use Rattle.shared_api.proofs.Working.{give_back_calls}
use Rattle.shared_api.proofs.give_back.give_claim.Goals as goal

pub returns-clause-answer : goal.returns-clause-answer
returns-clause-answer g c b is =
    let t = c.take-cell.ensures.taken in
    let core = c.take-cell.result.core.value in
    let v = c.args.pass.now.seat.me.0 in
    let w = c.take-cell.new.pass.seat.me.0 in
    let z = c.finish.new.pass.seat.me.0 in
    let held = c.give_back-held.result in
    let claim = c.args.w.now.claim in
    let i : Option Item = item_if held (note (GiveBack (number_of claim))) in
    let ended = writes g.V.Versions.meaning core c.give_back-held.new.self b v w z i t.2 is t.0 t.4 t.1 t.3 (rw c.deref_mut.ensures.value at c.give_back-held.ensures.base) c.finish.ensures.closes c.finish.ensures.legal in
    let decided = ((rw c.deref_mut.ensures.value at c.give_back-held.ensures.turn) (items w.seen) t.1.0).0 in
    let same : base_of core ≡ b = (let based = t.2 in cc (based, is)) in
    give_back_calls (server_of g.V.Versions.meaning b) v z w.seen claim held
    (subst (λ (x : CoreBase g.row.V.Denot). held ≡ (give_back_decision (state (g.V.Versions.meaning x.versions) (items w.seen)) claim).answer) same decided) ended
