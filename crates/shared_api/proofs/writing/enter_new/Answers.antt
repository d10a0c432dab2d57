use Rattle.std.proofs.Common.{◌≡◌, ◌+◌, ◌<◌, ℕ, ap, sym, subst, ◌∙◌}
use Rattle.kube_meta.specs.View.{object_of}
use Rattle.kube_meta.specs.declared.object.Object.{Object}
use Rattle.api_calls.specs.Item.{Item, entry, Create, items}
use Rattle.api_calls.specs.State.{revision, state}
use Rattle.api_calls.specs.declared.flags.Flags.{Flags}
use Rattle.api_core.specs.Ends.{create_end}
use Rattle.api_core.specs.Prepared.{PreparesValue}
use Rattle.api_core.specs.declared.seen.Prepared.{Prepared}
use Rattle.shared_api.specs.Base.{base_of}
use Rattle.shared_api.specs.inner.WriteTurns.{creates}
use Rattle.shared_api.specs.declared.cell.CoreBase.{CoreBase}
use Rattle.shared_api.proofs.Committing.{EntersIt, commits, committed-stands, create-item, create-storage, few-revision}
use Rattle.shared_api.proofs.writing.enter_new.Goals as goal

pub commit_create-end-requires-clause-few : goal.commit_create-end-requires-clause-few
commit_create-end-requires-clause-few g c =
    rw c.deref_mut.ensures.value (let t = c.take-cell.ensures.taken in
    few-revision g.V.Versions.meaning c.take-cell.result.core.value c.take-cell.new.pass.seat.me.0.seen t.1 t.3)

pub finish-requires-clause-stands : goal.finish-requires-clause-stands
finish-requires-clause-stands g c =
    let t = c.take-cell.ensures.taken in
    let core = c.take-cell.result.core.value in
    let new = c.args.new in
    let h = object_of c.args.hub.now in
    let i : Item = entry (Create c.of.result.value.key (object_of c.of-2.result.value) c.of.result.value.weight) in
    let named : i ≡ entry (Create new.key h new.weight) =
    ap (λ (p : Prepared). entry (Create p.key (object_of c.of-2.result.value) p.weight)) c.of.ensures ∙ ap (λ (o : Object). entry (Create new.key (object_of o) new.weight)) c.of-2.ensures in
    let same : c.requires.value.0 ≡ base_of core = (let based = t.2 in let known = c.requires.value.1 in cc (based, known)) in
    let prepares = subst (λ (x : CoreBase g.row.V.Denot). PreparesValue (g.V.Versions.meaning x.versions) new h) same c.requires.value.2 in
    committed-stands g.V.Versions.meaning core c.commit_create-end.new.self c.args.pass.now.seat.me.0 c.take-cell.new.pass.seat.me.0 c.args.pass.now.seat.me.0
    (λ s log. creates s c.args.v new h log) (create_end c.commit_create-end.result) i c.created-entered.result
    (λ s log. subst (λ (j : Item). EntersIt j (creates s c.args.v new h log)) (sym named)
    (create-item s.limits (revision log + 1) (state s.meaning log) c.args.v new.at new.key h new.weight))
    ((rw c.deref_mut.ensures.value at c.commit_create-end.ensures.turn) (items c.take-cell.new.pass.seat.me.0.seen) h t.1.0 prepares (λ honest. c.requires.fresh)) c.created-entered.ensures

pub returns-clause-commits : goal.returns-clause-commits
returns-clause-commits g c b is =
    let t = c.take-cell.ensures.taken in
    let core = c.take-cell.result.core.value in
    let new = c.args.new in
    let h = object_of c.args.hub.now in
    let i : Item = entry (Create c.of.result.value.key (object_of c.of-2.result.value) c.of.result.value.weight) in
    let named : i ≡ entry (Create new.key h new.weight) =
    ap (λ (p : Prepared). entry (Create p.key (object_of c.of-2.result.value) p.weight)) c.of.ensures ∙ ap (λ (o : Object). entry (Create new.key (object_of o) new.weight)) c.of-2.ensures in
    let same : c.requires.value.0 ≡ base_of core = (let based = t.2 in let known = c.requires.value.1 in cc (based, known)) in
    let prepares = subst (λ (x : CoreBase g.row.V.Denot). PreparesValue (g.V.Versions.meaning x.versions) new h) same c.requires.value.2 in
    commits g.V.Versions.meaning core c.commit_create-end.new.self c.args.pass.now.seat.me.0 c.take-cell.new.pass.seat.me.0 c.finish.new.pass.seat.me.0
    (λ s log. creates s c.args.v new h log) (create_end c.commit_create-end.result) i c.created-entered.result
    (λ s log. subst (λ (j : Item). EntersIt j (creates s c.args.v new h log)) (sym named)
    (create-item s.limits (revision log + 1) (state s.meaning log) c.args.v new.at new.key h new.weight))
    ((rw c.deref_mut.ensures.value at c.commit_create-end.ensures.turn) (items c.take-cell.new.pass.seat.me.0.seen) h t.1.0 prepares (λ honest. c.requires.fresh)) c.created-entered.ensures
    b t.2 is t.0 t.4 t.1 t.3 (rw c.deref_mut.ensures.value at c.commit_create-end.ensures.base) c.finish.ensures.closes c.finish.ensures.legal

pub returns-clause-storage : goal.returns-clause-storage
returns-clause-storage g c b is now ended =
    let t = c.take-cell.ensures.taken in
    let core = c.take-cell.result.core.value in
    let log = items c.take-cell.new.pass.seat.me.0.seen in
    let new = c.args.new in
    let h = object_of c.args.hub.now in
    let known : c.requires.value.0 ≡ base_of core = (let based = t.2 in let first = c.requires.value.1 in cc (based, first)) in
    let same : base_of core ≡ b = (let based = t.2 in cc (based, is)) in
    let prepares = subst (λ (x : CoreBase g.row.V.Denot). PreparesValue (g.V.Versions.meaning x.versions) new h) known c.requires.value.2 in
    let turn = (rw c.deref_mut.ensures.value at c.commit_create-end.ensures.turn) log h t.1.0 prepares (λ honest. c.requires.fresh) in
    let storage = create-storage core.view.limits (revision log + 1) (state (g.V.Versions.meaning core.versions) log) c.args.v new.at new.key h new.weight now (sym turn.0 ∙ ended) in
    let flags = ap (λ (f : Flags). f.storage) ((rw c.deref.ensures at c.settings.ensures.flags) ∙ t.1.0.present.flags) ∙ storage in
    subst (λ (x : CoreBase g.row.V.Denot). now < (g.V.Versions.meaning x.versions).count) same
    (subst (λ (n : ℕ). n < (g.V.Versions.meaning core.versions).count) flags (rw c.deref.ensures at c.settings.ensures.are_flags).storage)
