use Rattle.std.proofs.Common.{◌≡◌, ◌+◌, refl, subst, sym}
use Rattle.kube_meta.specs.View.{object_of}
use Rattle.api_calls.specs.Item.{Item, entry, Mark, items}
use Rattle.api_calls.specs.State.{revision, state}
use Rattle.api_core.specs.Ends.{delete_end}
use Rattle.api_core.specs.Prepared.{Marking, PreparesValue}
use Rattle.shared_api.specs.Base.{base_of}
use Rattle.write_texts.specs.Removing.{IsToMark}
use Rattle.shared_api.specs.inner.RemovalTurns.{marks}
use Rattle.shared_api.specs.declared.cell.CoreBase.{CoreBase}
use Rattle.shared_api.proofs.Committing.{EntersIt, commits, committed-stands, few-revision}
use Rattle.shared_api.proofs.Leaving.{fits-now, known-now, mark-item}
use Rattle.shared_api.proofs.removing.mark.Goals as goal

pub commit_delete-end-requires-clause-few : goal.commit_delete-end-requires-clause-few
commit_delete-end-requires-clause-few g c =
    rw c.deref_mut.ensures.value (let t = c.take-cell.ensures.taken in
    few-revision g.V.Versions.meaning c.take-cell.result.core.value c.take-cell.new.pass.seat.me.0.seen t.1 t.3)

pub commit_delete-end-requires-clause-fits : goal.commit_delete-end-requires-clause-fits
commit_delete-end-requires-clause-fits g c =
    rw c.deref_mut.ensures.value (let t = c.take-cell.ensures.taken in
    let core = c.take-cell.result.core.value in
    let h = object_of c.args.hub.now in
    let same : c.requires.known.0 ≡ base_of core = (let based = t.2 in let is = c.requires.known.1 in cc (based, is)) in
    let to = subst (λ (x : CoreBase g.row.V.Denot). IsToMark (g.V.Versions.meaning x.versions) (items c.args.pass.now.seat.me.0.seen) c.args.key.now c.args.number c.args.new h c.args.stamp.text)
    same c.requires.known.3 in
    fits-now (g.V.Versions.meaning core.versions) core.view c.args.pass.now.seat.me.0.seen c.take-cell.new.pass.seat.me.0.seen c.args.key.now c.args.number c.args.new h c.args.stamp.text
    t.4.0 t.1.0 to)

pub finish-requires-clause-stands : goal.finish-requires-clause-stands
finish-requires-clause-stands g c =
    let t = c.take-cell.ensures.taken in
    let core = c.take-cell.result.core.value in
    let m = g.V.Versions.meaning core.versions in
    let k = c.args.key.now in
    let h = object_of c.args.hub.now in
    let stamp = c.args.stamp.text in
    let i : Item = entry (Mark c.of.result.value c.of-2.result.value c.of-3.result.value.text) in
    let named : i ≡ entry (Mark k c.args.number stamp) = (λ j. entry (Mark (c.of.ensures j) (c.of-2.ensures j) (c.of-3.ensures j).text)) in
    let same : c.requires.known.0 ≡ base_of core = (let based = t.2 in let is = c.requires.known.1 in cc (based, is)) in
    let to = subst (λ (x : CoreBase g.row.V.Denot). IsToMark (g.V.Versions.meaning x.versions) (items c.args.pass.now.seat.me.0.seen) k c.args.number c.args.new h stamp) same c.requires.known.3 in
    let prepares = subst (λ (x : CoreBase g.row.V.Denot). PreparesValue (g.V.Versions.meaning x.versions) c.args.new h) same c.requires.known.2 in
    let known = known-now m c.args.pass.now.seat.me.0.seen c.take-cell.new.pass.seat.me.0.seen k c.args.number (Marking h stamp) t.4.0 to.was in
    committed-stands g.V.Versions.meaning core c.commit_delete-end.new.self c.args.pass.now.seat.me.0 c.take-cell.new.pass.seat.me.0 c.args.pass.now.seat.me.0
    (λ s log. marks s c.args.v c.args.new.at k c.args.number stamp log) (delete_end c.commit_delete-end.result) i c.entered-entered.result
    (λ s log. subst (λ (j : Item). EntersIt j (marks s c.args.v c.args.new.at k c.args.number stamp log)) (sym named) (mark-item (revision log + 1) (state s.meaning log) c.args.v c.args.new.at k c.args.number stamp))
    ((rw c.deref_mut.ensures.value at c.commit_delete-end.ensures.marks) c.args.new refl (items c.take-cell.new.pass.seat.me.0.seen) h stamp t.1.0 prepares known) c.entered-entered.ensures

pub returns-clause-commits : goal.returns-clause-commits
returns-clause-commits g c b is =
    let t = c.take-cell.ensures.taken in
    let core = c.take-cell.result.core.value in
    let m = g.V.Versions.meaning core.versions in
    let k = c.args.key.now in
    let h = object_of c.args.hub.now in
    let stamp = c.args.stamp.text in
    let i : Item = entry (Mark c.of.result.value c.of-2.result.value c.of-3.result.value.text) in
    let named : i ≡ entry (Mark k c.args.number stamp) = (λ j. entry (Mark (c.of.ensures j) (c.of-2.ensures j) (c.of-3.ensures j).text)) in
    let same : c.requires.known.0 ≡ base_of core = (let based = t.2 in let known = c.requires.known.1 in cc (based, known)) in
    let to = subst (λ (x : CoreBase g.row.V.Denot). IsToMark (g.V.Versions.meaning x.versions) (items c.args.pass.now.seat.me.0.seen) k c.args.number c.args.new h stamp) same c.requires.known.3 in
    let prepares = subst (λ (x : CoreBase g.row.V.Denot). PreparesValue (g.V.Versions.meaning x.versions) c.args.new h) same c.requires.known.2 in
    let known = known-now m c.args.pass.now.seat.me.0.seen c.take-cell.new.pass.seat.me.0.seen k c.args.number (Marking h stamp) t.4.0 to.was in
    commits g.V.Versions.meaning core c.commit_delete-end.new.self c.args.pass.now.seat.me.0 c.take-cell.new.pass.seat.me.0 c.finish.new.pass.seat.me.0
    (λ s log. marks s c.args.v c.args.new.at k c.args.number stamp log) (delete_end c.commit_delete-end.result) i c.entered-entered.result
    (λ s log. subst (λ (j : Item). EntersIt j (marks s c.args.v c.args.new.at k c.args.number stamp log)) (sym named) (mark-item (revision log + 1) (state s.meaning log) c.args.v c.args.new.at k c.args.number stamp))
    ((rw c.deref_mut.ensures.value at c.commit_delete-end.ensures.marks) c.args.new refl (items c.take-cell.new.pass.seat.me.0.seen) h stamp t.1.0 prepares known) c.entered-entered.ensures
    b t.2 is t.0 t.4 t.1 t.3 (rw c.deref_mut.ensures.value at c.commit_delete-end.ensures.base) c.finish.ensures.closes c.finish.ensures.legal
