use Rattle.std.proofs.Common.{◌≡◌, ◌⊎◌, ◌<◌, ℕ, List, Some, Err, false, true, inl, refl, ap, sym, subst, ◌∙◌, arith}
use Rattle.std.specs.Prelude.{IfOk, IfSome, IsSome, Option, Result}
use Rattle.kj_value.specs.declared.error.NoMemory.{NoMemory}
use Rattle.kube_meta.specs.Names.{is_namespace}
use Rattle.kube_meta.specs.Shapes.{shaped}
use Rattle.kube_meta.specs.View.{ObjectView, object_of}
use Rattle.kube_meta.specs.declared.object.Shape.{Shape}
use Rattle.api_calls.specs.Item.{Logged, items}
use Rattle.api_calls.specs.Refusal.{no_memory, no_resource, refusal_of}
use Rattle.api_calls.specs.Replies.{WeighsIt}
use Rattle.api_calls.specs.State.{served, state}
use Rattle.api_calls.specs.Versions.{AreFlags, IsStored, Refused, request_of}
use Rattle.api_core.specs.Prepared.{Sees}
use Rattle.api_core.specs.declared.seen.Peeked.{Peeked}
use Rattle.turn_cell.specs.declared.view.View.{View}
use Rattle.call_texts.specs.Told.{decided}
use Rattle.shared_api.specs.Base.{server_of}
use Rattle.call_texts.specs.Faults.{admission}
use Rattle.write_texts.specs.Replacing.{Changes, GoesOver, RefusesReplace, RepliesToReplace}
use Rattle.shared_api.specs.declared.cell.CoreBase.{CoreBase}
use Rattle.write_texts.proofs.Overs.{goes, not_admitted-came, refuses-came, refuses-rises, stored-found, unserved-came}
use Rattle.shared_api.proofs.Replaces.{looked_calls, seen-of, settled-join, settled_calls}
use Rattle.shared_api.proofs.Shaping.{shape-updated}
use Rattle.shared_api.proofs.replace.replace_with.Goals as goal

pub returns-in-Err-clause-answer : goal.returns-in-Err-clause-answer
returns-in-Err-clause-answer g c b is =
    let looked = c.look.ensures.looks b is in
    looked_calls (server_of g.V.Versions.meaning b) (g.V.Tool.Tool.faults c.args.tool.now < g.V.Tool.Tool.faults c.args.tool.now) c.args.pass.now.seat.me.0 c.look.new.pass.seat.me.0 looked.log
    (request_of c.args.input.now) c.args.key.now (Err no_memory) looked.reads refl

pub returns-then-not-is_served-clause-answer : goal.returns-then-not-is_served-clause-answer
returns-then-not-is_served-clause-answer g c b is =
    let looked = c.look.ensures.looks b is in
    let s = server_of g.V.Versions.meaning b in
    let rose = g.V.Tool.Tool.faults c.args.tool.now < g.V.Tool.Tool.faults c.args.tool.now in
    let v = c.args.input.now.version in
    let sees : Sees s.meaning (items looked.log) c.args.key.now c.in-Ok.looked =
    subst (λ (r : Result Peeked NoMemory). IfOk r (λ p. Sees s.meaning (items looked.log) c.args.key.now p)) c.in-Ok.is looked.sees in
    let never : served (state s.meaning (items looked.log)).flags v ≡ false = ap (λ f. served f v) (sym sees.flags) ∙ sym c.is_served.ensures.served ∙ c.if-not-is_served.true in
    looked_calls s rose c.args.pass.now.seat.me.0 c.look.new.pass.seat.me.0 looked.log (request_of c.args.input.now) c.args.key.now (Err no_resource) looked.reads
    (unserved-came s rose (request_of c.args.input.now) c.args.key.now (items looked.log) never)

pub admit-requires-clause-known : goal.admit-requires-clause-known
admit-requires-clause-known g c =
    let base = c.requires.base in
    let looked = c.look.ensures.looks base.0 base.1 in
    let flags = subst (λ (r : Result Peeked NoMemory). IfOk r (λ p. AreFlags (g.V.Versions.meaning base.0.versions).count p.flags)) c.in-Ok.is looked.flags in
    let here = subst (λ (x : g.row.V.Denot). AreFlags (g.V.Versions.meaning x).count c.in-Ok.looked.flags) (sym base.2) flags in
    record {
      known = c.is_served.ensures.known (g.V.Versions.meaning c.args.lent.now.versions.now).count here c.if-not-is_served.false;
      ns = subst (λ (n : List ℕ). is_namespace n ≡ true) (sym c.requires.key.0) c.requires.ns;
    }

pub admit-requires-clause-creating : goal.admit-requires-clause-creating
admit-requires-clause-creating g c = ((λ creating. absurd (c.requires.replaces creating)), (λ none. absurd (none c.requires.named)))

pub returns-in-Err-admit-clause-answer : goal.returns-in-Err-admit-clause-answer
returns-in-Err-admit-clause-answer g c b is =
    let base = c.requires.base in
    let same : base.0 ≡ b = (let first = base.1 in cc (first, is)) in
    let versions = base.2 ∙ ap (λ (x : CoreBase g.row.V.Denot). x.versions) same in
    let looked = c.look.ensures.looks b is in
    let s = server_of g.V.Versions.meaning b in
    let rose = g.V.Tool.Tool.faults c.args.tool.now < g.V.Tool.Tool.faults c.admit.new.tool in
    let r = request_of c.args.input.now in
    let sees : Sees s.meaning (items looked.log) c.args.key.now c.in-Ok.looked =
    subst (λ (x : Result Peeked NoMemory). IfOk x (λ p. Sees s.meaning (items looked.log) c.args.key.now p)) c.in-Ok.is looked.sees in
    let may : served (state s.meaning (items looked.log)).flags r.version ≡ true = ap (λ f. served f r.version) (sym sees.flags) ∙ sym c.is_served.ensures.served ∙ c.if-not-is_served.false in
    let e = refusal_of c.not_admitted.result.refusal in
    looked_calls s rose c.args.pass.now.seat.me.0 c.look.new.pass.seat.me.0 looked.log r c.args.key.now (Err e) looked.reads
    (not_admitted-came s rose r c.args.key.now (items looked.log) may c.in-Err-admit.fault e
    (subst (λ (x : g.row.V.Denot). Refused ((g.V.Versions.meaning x).refuses r) rose c.in-Err-admit.fault) versions c.in-Err-admit.ensures.refused)
    (subst (λ (x : g.row.V.Denot). (e ≡ no_memory) ⊎ (e ≡ admission (g.V.Versions.meaning x) c.in-Err-admit.fault)) versions c.not_admitted.ensures))

pub changing-requires-clause-stored : goal.changing-requires-clause-stored
changing-requires-clause-stored g c =
    let base = c.requires.base in
    let looked = c.look.ensures.looks base.0 base.1 in
    let m = g.V.Versions.meaning base.0.versions in
    let sees : Sees m (items looked.log) c.args.key.now c.in-Ok.looked =
    subst (λ (x : Result Peeked NoMemory). IfOk x (λ p. Sees m (items looked.log) c.args.key.now p)) c.in-Ok.is looked.sees in
    subst (λ (x : g.row.V.Denot). IfSome c.in-Ok.looked.found (λ o. (h : ObjectView) × IsStored (g.V.Versions.meaning x) o.at h o.bytes.bytes)) (sym base.2)
    (stored-found m (items looked.log) c.args.key.now c.in-Ok.looked sees)

pub changing-requires-clause-whole : goal.changing-requires-clause-whole
changing-requires-clause-whole g c =
    let it = c.args.lent.now.versions.now in
    ((g.met.V.Versions.admitted it).admitted (request_of c.args.input.now) (object_of c.in-Ok-admit.admitted.hub) c.in-Ok-admit.admitted.expected c.in-Ok-admit.ensures.ok).whole

pub changing-requires-clause-expected : goal.changing-requires-clause-expected
changing-requires-clause-expected g c =
    let it = c.args.lent.now.versions.now in
    ((g.met.V.Versions.admitted it).admitted (request_of c.args.input.now) (object_of c.in-Ok-admit.admitted.hub) c.in-Ok-admit.admitted.expected c.in-Ok-admit.ensures.ok).expected.1
    (subst (λ (o : Option (List ℕ)). IsSome o) (sym c.requires.key.1) refl)

pub returns-in-Err-changing-clause-answer : goal.returns-in-Err-changing-clause-answer
returns-in-Err-changing-clause-answer g c b is =
    let base = c.requires.base in
    let same : base.0 ≡ b = (let first = base.1 in cc (first, is)) in
    let versions = base.2 ∙ ap (λ (x : CoreBase g.row.V.Denot). x.versions) same in
    let looked = c.look.ensures.looks b is in
    let s = server_of g.V.Versions.meaning b in
    let rises = c.admit.ensures.rises in
    let rose = g.V.Tool.Tool.faults c.args.tool.now < g.V.Tool.Tool.faults c.changing.new.tool in
    let later = g.V.Tool.Tool.faults c.admit.new.tool < g.V.Tool.Tool.faults c.changing.new.tool in
    let r = request_of c.args.input.now in
    let k = c.args.key.now in
    let p = c.in-Ok.looked in
    let new = object_of c.in-Ok-admit.admitted.hub in
    let weight = c.in-Ok-admit.admitted.weight in
    let sees : Sees s.meaning (items looked.log) k p = subst (λ (x : Result Peeked NoMemory). IfOk x (λ o. Sees s.meaning (items looked.log) k o)) c.in-Ok.is looked.sees in
    let may : served p.flags r.version ≡ true = sym c.is_served.ensures.served ∙ c.if-not-is_served.false in
    let refuses = c.in-Err-changing.ensures.refuses in
    let e = refusal_of c.in-Err-changing.refused.refusal in
    let admits = subst (λ (o : Option ℕ). s.meaning.admits r new o) refuses.1 (subst (λ (x : g.row.V.Denot). (g.V.Versions.meaning x).admits r new c.in-Ok-admit.admitted.expected) versions c.in-Ok-admit.ensures.ok) in
    let weighs = subst (λ (x : g.row.V.Denot). WeighsIt (g.V.Versions.meaning x) new weight) versions c.in-Ok-admit.ensures.weighs in
    looked_calls s rose c.args.pass.now.seat.me.0 c.look.new.pass.seat.me.0 looked.log r k (Err e) looked.reads
    (refuses-came s rose (items looked.log) r k p new refuses.0 weight
    (λ at x y bytes honest i j. c.one_stored.ensures b.versions at x y bytes (sym (g.met.V.Versions.told b.versions) ∙ honest) i j) sees may admits weighs e
    (refuses-rises s.meaning rose later k refuses.0 p.found new e (λ more. omega (arith, rises, more))
    (subst (λ (x : g.row.V.Denot). RefusesReplace (g.V.Versions.meaning x) later k refuses.0 p.found new e) versions refuses.2)))

pub commit-requires-clause-base : goal.commit-requires-clause-base
commit-requires-clause-base g c =
    let base = c.requires.base in
    let looked = c.look.ensures.looks base.0 base.1 in
    (base.0, ap (λ (q : View (CoreBase g.row.V.Denot)). q.base) looked.reads.turned.3 ∙ base.1, base.2, base.3)

pub commit-requires-clause-goes : goal.commit-requires-clause-goes
commit-requires-clause-goes g c =
    let base = c.requires.base in
    let b = base.0 in
    let looked = c.look.ensures.looks b base.1 in
    let s = server_of g.V.Versions.meaning b in
    let r = request_of c.args.input.now in
    let k = c.args.key.now in
    let p = c.in-Ok.looked in
    let new = object_of c.in-Ok-admit.admitted.hub in
    let weight = c.in-Ok-admit.admitted.weight in
    let change = c.in-Ok-changing.change in
    let sees : Sees s.meaning (items looked.log) k p = subst (λ (x : Result Peeked NoMemory). IfOk x (λ o. Sees s.meaning (items looked.log) k o)) c.in-Ok.is looked.sees in
    let flags = subst (λ (x : Result Peeked NoMemory). IfOk x (λ o. AreFlags s.meaning.count o.flags)) c.in-Ok.is looked.flags in
    let changes = c.in-Ok-changing.ensures.changes in
    let here = goes s (items looked.log) r k p new c.in-Ok-admit.admitted.expected changes.0 weight change
    (g.met.V.Versions.stand b.versions) (g.met.V.Versions.unstamped b.versions) (g.met.V.Versions.admitted b.versions)
    (λ at x y bytes honest i j. c.one_stored.ensures b.versions at x y bytes (sym (g.met.V.Versions.told b.versions) ∙ honest) i j)
    (λ h w created deleted generation weighs. c.one_weight.ensures.unstamped b.versions h w created deleted generation weighs)
    looked.reads.legal.guards looked.reads.few sees flags.storage (c.is_served.ensures.known s.meaning.count flags c.if-not-is_served.false)
    (sym c.is_served.ensures.served ∙ c.if-not-is_served.false) c.requires.key.0 c.requires.key.1
    (subst (λ (x : g.row.V.Denot). (g.V.Versions.meaning x).admits r new c.in-Ok-admit.admitted.expected) base.2 c.in-Ok-admit.ensures.ok) changes.1
    (subst (λ (x : g.row.V.Denot). WeighsIt (g.V.Versions.meaning x) new weight) base.2 c.in-Ok-admit.ensures.weighs) c.in-Ok-admit.ensures.weight
    (subst (λ (x : g.row.V.Denot). Changes (g.V.Versions.meaning x) r.version changes.0 weight p.found new change) base.2 changes.2) in (
      r,
      subst (λ (x : g.row.V.Denot). GoesOver (g.V.Versions.meaning x) r k (items c.look.new.pass.seat.me.0.seen) change p.flags.storage) (sym base.2)
          (subst (λ (l : List Logged). GoesOver s.meaning r k (items l) change p.flags.storage) (sym (seen-of s c.args.pass.now.seat.me.0 c.look.new.pass.seat.me.0 looked.log looked.reads)) here),
    )

pub commit-requires-clause-shape : goal.commit-requires-clause-shape
commit-requires-clause-shape g c =
    let it = c.args.lent.now.versions.now in
    let m = g.V.Versions.meaning it in
    let v = c.in-Ok.looked.flags.storage in
    let h : ObjectView = object_of c.in-Ok-admit.admitted.hub in
    let its = subst (λ (o : Option Shape). IfSome o (λ p. m.pair v h (shaped p h))) (sym c.take-shape.ensures.value) c.in-Ok-admit.ensures.shape in
    let changes = c.in-Ok-changing.ensures.changes in
    shape-updated m (g.met.V.Versions.unstamped it) v changes.2.old h (object_of c.in-Ok-changing.change.hub) c.take-shape.result changes.2.update its

pub returns-clause-answer : goal.returns-clause-answer
returns-clause-answer g c b is =
    let base = c.requires.base in
    let same : base.0 ≡ b = (let first = base.1 in cc (first, is)) in
    let versions = base.2 ∙ ap (λ (x : CoreBase g.row.V.Denot). x.versions) same in
    let looked = c.look.ensures.looks b is in
    let s = server_of g.V.Versions.meaning b in
    let v = c.args.pass.now.seat.me.0 in
    let w = c.look.new.pass.seat.me.0 in
    let z = c.commit.new.pass.seat.me.0 in
    let r = request_of c.args.input.now in
    let k = c.args.key.now in
    let p = c.in-Ok.looked in
    let new = object_of c.in-Ok-admit.admitted.hub in
    let weight = c.in-Ok-admit.admitted.weight in
    let change = c.in-Ok-changing.change in
    let sees : Sees s.meaning (items looked.log) k p = subst (λ (x : Result Peeked NoMemory). IfOk x (λ o. Sees s.meaning (items looked.log) k o)) c.in-Ok.is looked.sees in
    let flags = subst (λ (x : Result Peeked NoMemory). IfOk x (λ o. AreFlags s.meaning.count o.flags)) c.in-Ok.is looked.flags in
    let changes = c.in-Ok-changing.ensures.changes in
    let here = goes s (items looked.log) r k p new c.in-Ok-admit.admitted.expected changes.0 weight change
    (g.met.V.Versions.stand b.versions) (g.met.V.Versions.unstamped b.versions) (g.met.V.Versions.admitted b.versions)
    (λ at x y bytes honest i j. c.one_stored.ensures b.versions at x y bytes (sym (g.met.V.Versions.told b.versions) ∙ honest) i j)
    (λ h w created deleted generation weighs. c.one_weight.ensures.unstamped b.versions h w created deleted generation weighs)
    looked.reads.legal.guards looked.reads.few sees flags.storage (c.is_served.ensures.known s.meaning.count flags c.if-not-is_served.false)
    (sym c.is_served.ensures.served ∙ c.if-not-is_served.false) c.requires.key.0 c.requires.key.1
    (subst (λ (x : g.row.V.Denot). (g.V.Versions.meaning x).admits r new c.in-Ok-admit.admitted.expected) versions c.in-Ok-admit.ensures.ok) changes.1
    (subst (λ (x : g.row.V.Denot). WeighsIt (g.V.Versions.meaning x) new weight) versions c.in-Ok-admit.ensures.weighs) c.in-Ok-admit.ensures.weight
    (subst (λ (x : g.row.V.Denot). Changes (g.V.Versions.meaning x) r.version changes.0 weight p.found new change) versions changes.2) in
    let there : w.base ≡ Some b = ap (λ (q : View (CoreBase g.row.V.Denot)). q.base) looked.reads.turned.3 ∙ is in
    let on = subst (λ (l : List Logged). GoesOver s.meaning r k (items l) change p.flags.storage) (sym (seen-of s v w looked.log looked.reads)) here in
    let came = c.commit.ensures.came b r there on in
    let first = c.admit.ensures.rises in
    let second = c.changing.ensures.rises in
    let rose = g.V.Tool.Tool.faults c.args.tool.now < g.V.Tool.Tool.faults c.commit.new.tool in
    let later = g.V.Tool.Tool.faults c.changing.new.tool < g.V.Tool.Tool.faults c.commit.new.tool in
    settled_calls s rose v w z looked.log r k (decided c.commit.result) looked.reads
    (settled-join s rose later w w z (RepliesToReplace s r k) (decided c.commit.result) (λ more. omega (arith, first, second, more)) (inl refl) came)
