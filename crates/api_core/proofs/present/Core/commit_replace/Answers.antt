use Rattle.std.proofs.Common.{◌+◌, ◌∙◌, sym, ap, Some, refl}
use Rattle.record_store.specs.ByKey.{find}
use Rattle.record_store.specs.View.{item_key}
use Rattle.record_store.specs.Moves.{with_new}
use Rattle.record_store.specs.Room.{put_end}
use Rattle.record_store.specs.declared.record.NewRecord.{NewRecord}
use Rattle.api_core.proofs.Replacing.{replace-gone, replace-newer, replace-moved, replace-refused_full, replace-written}
use Rattle.api_core.proofs.present.Core.commit_replace.Goals as goal

pub returns-in_default-clause-turn : goal.returns-in_default-clause-turn
returns-in_default-clause-turn g c =
    let may = sym c.is_served.ensures.served ∙ c.if-not-is_served.false in
    rw (← c.self.view_is) (λ log h stands prepares known.
    replace-gone _ _ log stands c.args.v c.args.new c.args.expected h may (sym c.look.ensures ∙ c.in_default.is))

pub returns-then-old-expected-clause-turn : goal.returns-then-old-expected-clause-turn
returns-then-old-expected-clause-turn g c =
    let may = sym c.is_served.ensures.served ∙ c.if-not-is_served.false in
    rw (← c.self.view_is) (λ log h stands prepares known.
    replace-newer _ _ log stands c.args.v c.args.new c.args.expected h c.in-Some.old may (sym c.look.ensures ∙ c.in-Some.is) c.if-old-expected.true)

pub returns-then-new-now-clause-turn : goal.returns-then-new-now-clause-turn
returns-then-new-now-clause-turn g c =
    let may = sym c.is_served.ensures.served ∙ c.if-not-is_served.false in
    rw (← c.self.view_is) (λ log h stands prepares known.
    replace-moved _ _ log stands c.args.v c.args.new c.args.expected h c.in-Some.old may (sym c.look.ensures ∙ c.in-Some.is) c.if-old-expected.false c.if-new-now.true)

pub returns-in-Full-clause-turn : goal.returns-in-Full-clause-turn
returns-in-Full-clause-turn g c =
    let may = sym c.is_served.ensures.served ∙ c.if-not-is_served.false in
    let end = ap (λ (n : NewRecord). put_end (Some c.args.expected) n.weight (find item_key n.key c.self.inside.store.items) c.self.inside.store) (sym c.into_record.ensures) ∙ sym c.put_if.ensures.end ∙ c.in-Full.is in
    rw (← c.self.view_is) (λ log h stands prepares known.
    replace-refused_full _ _ log stands c.args.v c.args.new c.args.expected h c.in-Some.old c.in-Full.room c.put_if.new.self may
    (sym c.look.ensures ∙ c.in-Some.is) c.if-old-expected.false c.if-new-now.false end c.in-Full.ensures.store)

pub returns-in-Done-clause-turn : goal.returns-in-Done-clause-turn
returns-in-Done-clause-turn g c =
    let may = sym c.is_served.ensures.served ∙ c.if-not-is_served.false in
    let end = ap (λ (n : NewRecord). put_end (Some c.args.expected) n.weight (find item_key n.key c.self.inside.store.items) c.self.inside.store) (sym c.into_record.ensures) ∙ sym c.put_if.ensures.end ∙ c.in-Done.is in
    let store = c.in-Done.ensures.store ∙ ap (λ (n : NewRecord). with_new (c.self.inside.revision + 1) n c.self.inside.store) c.into_record.ensures in
    rw (← c.self.view_is) (λ log h stands prepares known.
    replace-written _ _ log stands c.args.v c.args.new c.args.expected h c.in-Some.old c.put_if.new.self prepares known may
    (sym c.look.ensures ∙ c.in-Some.is) c.if-old-expected.false c.if-new-now.false end store)

pub returns-in-Full-clause-leaves : goal.returns-in-Full-clause-leaves
returns-in-Full-clause-leaves g c = rw (← c.self.view_is) (rw c.in-Full.ensures.store refl)

pub returns-in-Full-clause-revision : goal.returns-in-Full-clause-revision
returns-in-Full-clause-revision g c = rw (← c.self.view_is) refl

pub returns-in-Full-clause-base : goal.returns-in-Full-clause-base
returns-in-Full-clause-base g c = rw (← c.self.view_is) (record { versions = refl; limits = refl; boot = refl })

pub returns-in-Done-clause-leaves : goal.returns-in-Done-clause-leaves
returns-in-Done-clause-leaves g c =
    let store = c.in-Done.ensures.store ∙ ap (λ (n : NewRecord). with_new (c.self.inside.revision + 1) n c.self.inside.store) c.into_record.ensures in
    rw (← c.self.view_is) (rw store refl)

pub returns-in-Done-clause-base : goal.returns-in-Done-clause-base
returns-in-Done-clause-base g c = rw (← c.self.view_is) (record { versions = refl; limits = refl; boot = refl })
