use Rattle.std.proofs.Common.{◌≡◌, ◌+◌, ◌<◌, ℕ, ap, sym, subst, ◌∙◌}
use Rattle.kube_meta.specs.View.{object_of}
use Rattle.kube_meta.specs.declared.object.Object.{Object}
use Rattle.api_calls.specs.Item.{Item, entry, Replace, items}
use Rattle.api_calls.specs.ReplyLaws.{moved-stands}
use Rattle.api_calls.specs.State.{revision, state}
use Rattle.api_calls.specs.declared.flags.Flags.{Flags}
use Rattle.api_core.specs.Ends.{replace_end}
use Rattle.api_core.specs.Prepared.{PreparesValue, Replacing}
use Rattle.api_core.specs.declared.seen.Prepared.{Prepared}
use Rattle.shared_api.specs.Base.{base_of}
use Rattle.shared_api.specs.inner.WriteTurns.{SeenAt, replaces}
use Rattle.shared_api.specs.declared.cell.CoreBase.{CoreBase}
use Rattle.shared_api.proofs.Committing.{EntersIt, commits, committed-stands, few-revision, replace-item, seen-later}
use Rattle.shared_api.proofs.writing.enter_over.Goals as goal

pub commit_replace-end-requires-clause-few : goal.commit_replace-end-requires-clause-few
commit_replace-end-requires-clause-few g c =
    rw c.deref_mut.ensures.value (let t = c.take-cell.ensures.taken in
    few-revision g.V.Versions.meaning c.take-cell.result.core.value c.take-cell.new.pass.seat.me.0.seen t.1 t.3)

pub finish-requires-clause-stands : goal.finish-requires-clause-stands
finish-requires-clause-stands g c =
    let t = c.take-cell.ensures.taken in
    let core = c.take-cell.result.core.value in
    let new = c.args.new in
    let h = object_of c.args.hub.now in
    let i : Item = entry (Replace c.of.result.value.key c.args.expected (object_of c.of-2.result.value) c.of.result.value.weight) in
    let named : i ≡ entry (Replace new.key c.args.expected h new.weight) =
    ap (λ (p : Prepared). entry (Replace p.key c.args.expected (object_of c.of-2.result.value) p.weight)) c.of.ensures ∙ ap (λ (o : Object). entry (Replace new.key c.args.expected (object_of o) new.weight)) c.of-2.ensures in
    let same : c.requires.value.0 ≡ base_of core = (let based = t.2 in let known = c.requires.value.1 in cc (based, known)) in
    let prepares = subst (λ (x : CoreBase g.row.V.Denot). PreparesValue (g.V.Versions.meaning x.versions) new h) same c.requires.value.2 in
    let known_there = seen-later (g.V.Versions.meaning core.versions) c.args.pass.now.seat.me.0.seen c.take-cell.new.pass.seat.me.0.seen new.key c.args.expected (Replacing new h)
    (subst (λ (x : CoreBase g.row.V.Denot). SeenAt (g.V.Versions.meaning x.versions) (items c.args.pass.now.seat.me.0.seen) new.key c.args.expected (Replacing new h)) same c.requires.value.3) t.4.0 in
    committed-stands g.V.Versions.meaning core c.commit_replace-end.new.self c.args.pass.now.seat.me.0 c.take-cell.new.pass.seat.me.0 c.args.pass.now.seat.me.0
    (λ s log. replaces s c.args.v c.args.expected new h log) (replace_end c.commit_replace-end.result) i c.replaced-entered.result
    (λ s log. subst (λ (j : Item). EntersIt j (replaces s c.args.v c.args.expected new h log)) (sym named)
    (replace-item s.limits (revision log + 1) (state s.meaning log) c.args.v new.at new.key c.args.expected h new.weight))
    ((rw c.deref_mut.ensures.value at c.commit_replace-end.ensures.turn) (items c.take-cell.new.pass.seat.me.0.seen) h t.1.0 prepares known_there) c.replaced-entered.ensures

pub returns-clause-commits : goal.returns-clause-commits
returns-clause-commits g c b is =
    let t = c.take-cell.ensures.taken in
    let core = c.take-cell.result.core.value in
    let new = c.args.new in
    let h = object_of c.args.hub.now in
    let i : Item = entry (Replace c.of.result.value.key c.args.expected (object_of c.of-2.result.value) c.of.result.value.weight) in
    let named : i ≡ entry (Replace new.key c.args.expected h new.weight) =
    ap (λ (p : Prepared). entry (Replace p.key c.args.expected (object_of c.of-2.result.value) p.weight)) c.of.ensures ∙ ap (λ (o : Object). entry (Replace new.key c.args.expected (object_of o) new.weight)) c.of-2.ensures in
    let same : c.requires.value.0 ≡ base_of core = (let based = t.2 in let known = c.requires.value.1 in cc (based, known)) in
    let prepares = subst (λ (x : CoreBase g.row.V.Denot). PreparesValue (g.V.Versions.meaning x.versions) new h) same c.requires.value.2 in
    let known_there = seen-later (g.V.Versions.meaning core.versions) c.args.pass.now.seat.me.0.seen c.take-cell.new.pass.seat.me.0.seen new.key c.args.expected (Replacing new h)
    (subst (λ (x : CoreBase g.row.V.Denot). SeenAt (g.V.Versions.meaning x.versions) (items c.args.pass.now.seat.me.0.seen) new.key c.args.expected (Replacing new h)) same c.requires.value.3) t.4.0 in
    commits g.V.Versions.meaning core c.commit_replace-end.new.self c.args.pass.now.seat.me.0 c.take-cell.new.pass.seat.me.0 c.finish.new.pass.seat.me.0
    (λ s log. replaces s c.args.v c.args.expected new h log) (replace_end c.commit_replace-end.result) i c.replaced-entered.result
    (λ s log. subst (λ (j : Item). EntersIt j (replaces s c.args.v c.args.expected new h log)) (sym named)
    (replace-item s.limits (revision log + 1) (state s.meaning log) c.args.v new.at new.key c.args.expected h new.weight))
    ((rw c.deref_mut.ensures.value at c.commit_replace-end.ensures.turn) (items c.take-cell.new.pass.seat.me.0.seen) h t.1.0 prepares known_there) c.replaced-entered.ensures
    b t.2 is t.0 t.4 t.1 t.3 (rw c.deref_mut.ensures.value at c.commit_replace-end.ensures.base) c.finish.ensures.closes c.finish.ensures.legal

pub returns-clause-storage : goal.returns-clause-storage
returns-clause-storage g c b is now ended =
    let t = c.take-cell.ensures.taken in
    let core = c.take-cell.result.core.value in
    let log = items c.take-cell.new.pass.seat.me.0.seen in
    let new = c.args.new in
    let h = object_of c.args.hub.now in
    let known : c.requires.value.0 ≡ base_of core = (let based = t.2 in let first = c.requires.value.1 in cc (based, first)) in
    let same : base_of core ≡ b = (let based = t.2 in cc (based, is)) in
    let prepares = subst (λ (x : CoreBase g.row.V.Denot). PreparesValue (g.V.Versions.meaning x.versions) new h) known c.requires.value.2 in
    let known_there = seen-later (g.V.Versions.meaning core.versions) c.args.pass.now.seat.me.0.seen c.take-cell.new.pass.seat.me.0.seen new.key c.args.expected (Replacing new h)
    (subst (λ (x : CoreBase g.row.V.Denot). SeenAt (g.V.Versions.meaning x.versions) (items c.args.pass.now.seat.me.0.seen) new.key c.args.expected (Replacing new h)) known c.requires.value.3) t.4.0 in
    let turn = (rw c.deref_mut.ensures.value at c.commit_replace-end.ensures.turn) log h t.1.0 prepares known_there in
    let storage = (moved-stands core.view.limits (revision log + 1) (state (g.V.Versions.meaning core.versions) log) c.args.v new.at new.key c.args.expected h new.weight now (sym turn.0 ∙ ended)).4 in
    let flags = ap (λ (f : Flags). f.storage) ((rw c.deref.ensures at c.settings.ensures.flags) ∙ t.1.0.present.flags) ∙ storage in
    subst (λ (x : CoreBase g.row.V.Denot). now < (g.V.Versions.meaning x.versions).count) same
    (subst (λ (n : ℕ). n < (g.V.Versions.meaning core.versions).count) flags (rw c.deref.ensures at c.settings.ensures.are_flags).storage)
