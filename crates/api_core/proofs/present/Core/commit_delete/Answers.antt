use Rattle.std.proofs.Common.{◌+◌, ◌∙◌, sym, ap, refl}
use Rattle.record_store.specs.ByKey.{find}
use Rattle.record_store.specs.View.{item_key}
use Rattle.record_store.specs.Moves.{with_new}
use Rattle.record_store.specs.declared.record.NewRecord.{NewRecord}
use Rattle.api_core.specs.declared.seen.Prepared.{Prepared}
use Rattle.api_core.specs.Prepared.{FitsAt, record_for}
use Rattle.api_core.proofs.Removing.{delete-gone, delete-newer, delete-removed}
use Rattle.api_core.proofs.Replacing.{mark-gone, mark-newer, mark-moved, mark-written}
use Rattle.api_core.proofs.Ready.{one_some, of_some}
use Rattle.api_core.proofs.present.Core.commit_delete.Goals as goal

pub returns-in_default-clause-turn : goal.returns-in_default-clause-turn
returns-in_default-clause-turn g c =
    let may = sym c.is_served.ensures.served ∙ c.if-not-is_served.false in
    rw (← c.self.view_is) (λ none log stands known. delete-gone _ _ log stands c.args.v c.args.key.now c.args.expected may (sym c.look.ensures ∙ c.in_default.is))

pub returns-in_default-clause-marks : goal.returns-in_default-clause-marks
returns-in_default-clause-marks g c =
    let may = sym c.is_served.ensures.served ∙ c.if-not-is_served.false in
    rw (← c.self.view_is) (λ p is log h stamp stands prepares known.
    mark-gone _ _ log stands c.args.v p.at c.args.key.now c.args.expected stamp may (sym c.look.ensures ∙ c.in_default.is))

pub returns-then-standing-expected-clause-turn : goal.returns-then-standing-expected-clause-turn
returns-then-standing-expected-clause-turn g c =
    let may = sym c.is_served.ensures.served ∙ c.if-not-is_served.false in
    rw (← c.self.view_is) (λ none log stands known.
    delete-newer _ _ log stands c.args.v c.args.key.now c.args.expected c.in-Some.standing may (sym c.look.ensures ∙ c.in-Some.is) c.if-standing-expected.true)

pub returns-then-standing-expected-clause-marks : goal.returns-then-standing-expected-clause-marks
returns-then-standing-expected-clause-marks g c =
    let may = sym c.is_served.ensures.served ∙ c.if-not-is_served.false in
    rw (← c.self.view_is) (λ p is log h stamp stands prepares known.
    mark-newer _ _ log stands c.args.v p.at c.args.key.now c.args.expected stamp c.in-Some.standing may (sym c.look.ensures ∙ c.in-Some.is) c.if-standing-expected.true)

pub returns-in_default-ready-clause-turn : goal.returns-in_default-ready-clause-turn
returns-in_default-ready-clause-turn g c =
    let may = sym c.is_served.ensures.served ∙ c.if-not-is_served.false in
    rw (← c.self.view_is) (λ none log stands known.
    delete-removed _ _ log stands c.args.v c.args.key.now c.args.expected c.in-Some.standing c.remove_if-removed.new.self known may
    (sym c.look.ensures ∙ c.in-Some.is) c.if-standing-expected.false c.remove_if-removed.ensures.store)

pub returns-then-marked-now-clause-marks : goal.returns-then-marked-now-clause-marks
returns-then-marked-now-clause-marks g c =
    let may = sym c.is_served.ensures.served ∙ c.if-not-is_served.false in
    rw (← c.self.view_is) (λ p is log h stamp stands prepares known.
    mark-moved _ _ log stands c.args.v p.at c.args.key.now c.args.expected stamp c.in-Some.standing may (sym c.look.ensures ∙ c.in-Some.is) c.if-standing-expected.false
    (λ same. c.if-marked-now.true (ap (λ (q : Prepared). q.at) (one_some c.args.ready c.in-Some-ready.marked p c.in-Some-ready.is is) ∙ same)))

pub returns-clause-marks : goal.returns-clause-marks
returns-clause-marks g c =
    let may = sym c.is_served.ensures.served ∙ c.if-not-is_served.false in
    let fits = rw (← c.self.view_is) at c.requires.fits in
    let store = c.in-Done.ensures.store ∙ ap (λ (n : NewRecord). with_new (c.self.inside.revision + 1) n c.self.inside.store) c.into_record.ensures in
    rw (← c.self.view_is) (λ p is log h stamp stands prepares known.
    let one = one_some c.args.ready c.in-Some-ready.marked p c.in-Some-ready.is is in
    mark-written _ _ log stands c.args.v p c.args.key.now c.args.expected h stamp c.in-Some.standing c.touch_if.new.self
    (of_some c.args.ready (λ q. FitsAt c.args.key.now c.args.expected q (find item_key c.args.key.now c.self.inside.store.items)) p is fits) prepares known may
    (sym c.look.ensures ∙ c.in-Some.is) c.if-standing-expected.false (ap (λ (q : Prepared). q.at) (sym one) ∙ c.if-marked-now.false)
    (store ∙ ap (λ (q : Prepared). with_new (c.self.inside.revision + 1) (record_for q) c.self.inside.store) one))

pub returns-in_default-ready-clause-leaves : goal.returns-in_default-ready-clause-leaves
returns-in_default-ready-clause-leaves g c = rw (← c.self.view_is) (rw c.remove_if-removed.ensures.store refl)

pub returns-in_default-ready-clause-base : goal.returns-in_default-ready-clause-base
returns-in_default-ready-clause-base g c = rw (← c.self.view_is) (record { versions = refl; limits = refl; boot = refl })

pub returns-clause-leaves : goal.returns-clause-leaves
returns-clause-leaves g c =
    let store = c.in-Done.ensures.store ∙ ap (λ (n : NewRecord). with_new (c.self.inside.revision + 1) n c.self.inside.store) c.into_record.ensures in
    rw (← c.self.view_is) (rw (c.in-Some-ready.is, store) refl)

pub returns-clause-base : goal.returns-clause-base
returns-clause-base g c = rw (← c.self.view_is) (record { versions = refl; limits = refl; boot = refl })

pub returns-clause-turn : goal.returns-clause-turn
returns-clause-turn g c = λ none log stands known. absurd (cc c.in-Some-ready.is)

pub returns-in_default-ready-clause-marks : goal.returns-in_default-ready-clause-marks
returns-in_default-ready-clause-marks g c = λ p is log h stamp stands prepares known. absurd (cc c.in_default-ready.is)

pub returns-then-marked-now-clause-turn : goal.returns-then-marked-now-clause-turn
returns-then-marked-now-clause-turn g c = λ none log stands known. absurd (cc c.in-Some-ready.is)
