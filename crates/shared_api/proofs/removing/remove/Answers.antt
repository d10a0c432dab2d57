use Rattle.std.proofs.Common.{◌≡◌, ◌+◌, ap, refl, subst, sym}
use Rattle.kube_meta.specs.Key.{KeyView}
use Rattle.api_calls.specs.Item.{Item, entry, Delete, items}
use Rattle.api_calls.specs.State.{revision, state}
use Rattle.api_core.specs.Ends.{delete_end}
use Rattle.api_core.specs.Prepared.{IsFree}
use Rattle.shared_api.specs.Base.{base_of}
use Rattle.write_texts.specs.Removing.{WasAt}
use Rattle.shared_api.specs.inner.RemovalTurns.{removes}
use Rattle.shared_api.specs.declared.cell.CoreBase.{CoreBase}
use Rattle.shared_api.proofs.Committing.{EntersIt, commits, committed-stands, few-revision}
use Rattle.shared_api.proofs.Leaving.{delete-item, known-now}
use Rattle.shared_api.proofs.removing.remove.Goals as goal

pub commit_delete-end-requires-clause-few : goal.commit_delete-end-requires-clause-few
commit_delete-end-requires-clause-few g c =
    rw c.deref_mut.ensures.value (let t = c.take-cell.ensures.taken in
    few-revision g.V.Versions.meaning c.take-cell.result.core.value c.take-cell.new.pass.seat.me.0.seen t.1 t.3)

pub finish-requires-clause-stands : goal.finish-requires-clause-stands
finish-requires-clause-stands g c =
    let t = c.take-cell.ensures.taken in
    let core = c.take-cell.result.core.value in
    let k = c.args.key.now in
    let i : Item = entry (Delete c.of-about.result.value) in
    let named : i ≡ entry (Delete k) = ap (λ (x : KeyView). entry (Delete x)) c.of-about.ensures in
    let same : c.requires.known.0 ≡ base_of core = (let based = t.2 in let is = c.requires.known.1 in cc (based, is)) in
    let was = subst (λ (x : CoreBase g.row.V.Denot). WasAt (g.V.Versions.meaning x.versions) (items c.args.pass.now.seat.me.0.seen) k c.args.number IsFree) same c.requires.known.2 in
    let known = known-now (g.V.Versions.meaning core.versions) c.args.pass.now.seat.me.0.seen c.take-cell.new.pass.seat.me.0.seen k c.args.number IsFree t.4.0 was in
    committed-stands g.V.Versions.meaning core c.commit_delete-end.new.self c.args.pass.now.seat.me.0 c.take-cell.new.pass.seat.me.0 c.args.pass.now.seat.me.0
    (λ s log. removes s c.args.v k c.args.number log) (delete_end c.commit_delete-end.result) i c.entered-entered.result
    (λ s log. subst (λ (j : Item). EntersIt j (removes s c.args.v k c.args.number log)) (sym named) (delete-item (revision log + 1) (state s.meaning log) c.args.v k c.args.number))
    ((rw c.deref_mut.ensures.value at c.commit_delete-end.ensures.turn) refl (items c.take-cell.new.pass.seat.me.0.seen) t.1.0 known) c.entered-entered.ensures

pub returns-clause-commits : goal.returns-clause-commits
returns-clause-commits g c b is =
    let t = c.take-cell.ensures.taken in
    let core = c.take-cell.result.core.value in
    let k = c.args.key.now in
    let i : Item = entry (Delete c.of-about.result.value) in
    let named : i ≡ entry (Delete k) = ap (λ (x : KeyView). entry (Delete x)) c.of-about.ensures in
    let same : c.requires.known.0 ≡ base_of core = (let based = t.2 in let known = c.requires.known.1 in cc (based, known)) in
    let was = subst (λ (x : CoreBase g.row.V.Denot). WasAt (g.V.Versions.meaning x.versions) (items c.args.pass.now.seat.me.0.seen) k c.args.number IsFree) same c.requires.known.2 in
    let known = known-now (g.V.Versions.meaning core.versions) c.args.pass.now.seat.me.0.seen c.take-cell.new.pass.seat.me.0.seen k c.args.number IsFree t.4.0 was in
    commits g.V.Versions.meaning core c.commit_delete-end.new.self c.args.pass.now.seat.me.0 c.take-cell.new.pass.seat.me.0 c.finish.new.pass.seat.me.0
    (λ s log. removes s c.args.v k c.args.number log) (delete_end c.commit_delete-end.result) i c.entered-entered.result
    (λ s log. subst (λ (j : Item). EntersIt j (removes s c.args.v k c.args.number log)) (sym named) (delete-item (revision log + 1) (state s.meaning log) c.args.v k c.args.number))
    ((rw c.deref_mut.ensures.value at c.commit_delete-end.ensures.turn) refl (items c.take-cell.new.pass.seat.me.0.seen) t.1.0 known) c.entered-entered.ensures
    b t.2 is t.0 t.4 t.1 t.3 (rw c.deref_mut.ensures.value at c.commit_delete-end.ensures.base) c.finish.ensures.closes c.finish.ensures.legal
