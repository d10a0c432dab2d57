use Rattle.std.proofs.Common.{◌≡◌, ◌+◌, ap, sym, subst}
use Rattle.kube_meta.specs.Key.{KeyView}
use Rattle.api_calls.specs.Item.{Item, entry, Release, items}
use Rattle.api_calls.specs.State.{revision, state}
use Rattle.api_core.specs.Ends.{release_end}
use Rattle.api_core.specs.Prepared.{IsEnding}
use Rattle.shared_api.specs.Base.{base_of}
use Rattle.shared_api.specs.inner.WriteTurns.{SeenAt, releases}
use Rattle.shared_api.specs.declared.cell.CoreBase.{CoreBase}
use Rattle.shared_api.proofs.Committing.{EntersIt, commits, committed-stands, few-revision, release-item, seen-later}
use Rattle.shared_api.proofs.writing.enter_release.Goals as goal

pub commit_release-end-requires : goal.commit_release-end-requires
commit_release-end-requires g c =
    rw c.deref_mut.ensures.value (let t = c.take-cell.ensures.taken in
    few-revision g.V.Versions.meaning c.take-cell.result.core.value c.take-cell.new.pass.seat.me.0.seen t.1 t.3)

pub finish-requires-clause-stands : goal.finish-requires-clause-stands
finish-requires-clause-stands g c =
    let t = c.take-cell.ensures.taken in
    let core = c.take-cell.result.core.value in
    let k = c.args.key.now in
    let over = c.args.expected in
    let i : Item = entry (Release c.of.result.value over) in
    let named : i ≡ entry (Release k over) = ap (λ (j : KeyView). entry (Release j over)) c.of.ensures in
    let same : c.requires.value.0 ≡ base_of core = (let based = t.2 in let known = c.requires.value.1 in cc (based, known)) in
    let known_there = seen-later (g.V.Versions.meaning core.versions) c.args.pass.now.seat.me.0.seen c.take-cell.new.pass.seat.me.0.seen k over IsEnding
    (subst (λ (x : CoreBase g.row.V.Denot). SeenAt (g.V.Versions.meaning x.versions) (items c.args.pass.now.seat.me.0.seen) k over IsEnding) same c.requires.value.2) t.4.0 in
    committed-stands g.V.Versions.meaning core c.commit_release-end.new.self c.args.pass.now.seat.me.0 c.take-cell.new.pass.seat.me.0 c.args.pass.now.seat.me.0
    (λ s log. releases s c.args.v k over log) (release_end c.commit_release-end.result) i c.released-entered.result
    (λ s log. subst (λ (j : Item). EntersIt j (releases s c.args.v k over log)) (sym named) (release-item (revision log + 1) (state s.meaning log) c.args.v k over))
    ((rw c.deref_mut.ensures.value at c.commit_release-end.ensures.turn) (items c.take-cell.new.pass.seat.me.0.seen) t.1.0 known_there) c.released-entered.ensures

pub returns-clause-commits : goal.returns-clause-commits
returns-clause-commits g c b is =
    let t = c.take-cell.ensures.taken in
    let core = c.take-cell.result.core.value in
    let k = c.args.key.now in
    let over = c.args.expected in
    let i : Item = entry (Release c.of.result.value over) in
    let named : i ≡ entry (Release k over) = ap (λ (j : KeyView). entry (Release j over)) c.of.ensures in
    let same : c.requires.value.0 ≡ base_of core = (let based = t.2 in let known = c.requires.value.1 in cc (based, known)) in
    let known_there = seen-later (g.V.Versions.meaning core.versions) c.args.pass.now.seat.me.0.seen c.take-cell.new.pass.seat.me.0.seen k over IsEnding
    (subst (λ (x : CoreBase g.row.V.Denot). SeenAt (g.V.Versions.meaning x.versions) (items c.args.pass.now.seat.me.0.seen) k over IsEnding) same c.requires.value.2) t.4.0 in
    commits g.V.Versions.meaning core c.commit_release-end.new.self c.args.pass.now.seat.me.0 c.take-cell.new.pass.seat.me.0 c.finish.new.pass.seat.me.0
    (λ s log. releases s c.args.v k over log) (release_end c.commit_release-end.result) i c.released-entered.result
    (λ s log. subst (λ (j : Item). EntersIt j (releases s c.args.v k over log)) (sym named) (release-item (revision log + 1) (state s.meaning log) c.args.v k over))
    ((rw c.deref_mut.ensures.value at c.commit_release-end.ensures.turn) (items c.take-cell.new.pass.seat.me.0.seen) t.1.0 known_there) c.released-entered.ensures
    b t.2 is t.0 t.4 t.1 t.3 (rw c.deref_mut.ensures.value at c.commit_release-end.ensures.base) c.finish.ensures.closes c.finish.ensures.legal
