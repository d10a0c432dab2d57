use Rattle.std.proofs.Common.{◌∙◌, sym, refl}
use Rattle.api_core.proofs.Removing.{release-gone, release-newer, release-removed}
use Rattle.api_core.proofs.present.Core.commit_release.Goals as goal

pub returns-in_default-clause-turn : goal.returns-in_default-clause-turn
returns-in_default-clause-turn g c =
    let may = sym c.is_served.ensures.served ∙ c.if-not-is_served.false in
    rw (← c.self.view_is) (λ log stands known. release-gone _ _ log stands c.args.v c.args.key.now c.args.expected may (sym c.look.ensures ∙ c.in_default.is))

pub returns-then-ending-expected-clause-turn : goal.returns-then-ending-expected-clause-turn
returns-then-ending-expected-clause-turn g c =
    let may = sym c.is_served.ensures.served ∙ c.if-not-is_served.false in
    rw (← c.self.view_is) (λ log stands known.
    release-newer _ _ log stands c.args.v c.args.key.now c.args.expected c.in-Some.ending may (sym c.look.ensures ∙ c.in-Some.is) c.if-ending-expected.true)

pub returns-clause-turn : goal.returns-clause-turn
returns-clause-turn g c =
    let may = sym c.is_served.ensures.served ∙ c.if-not-is_served.false in
    rw (← c.self.view_is) (λ log stands known.
    release-removed _ _ log stands c.args.v c.args.key.now c.args.expected c.in-Some.ending c.remove_if-removed.new.self known may
    (sym c.look.ensures ∙ c.in-Some.is) c.if-ending-expected.false c.remove_if-removed.ensures.store)

pub returns-clause-leaves : goal.returns-clause-leaves
returns-clause-leaves g c = rw (← c.self.view_is) (rw c.remove_if-removed.ensures.store refl)

pub returns-clause-base : goal.returns-clause-base
returns-clause-base g c = rw (← c.self.view_is) (record { versions = refl; limits = refl; boot = refl })
