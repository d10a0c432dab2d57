use Rattle.std.proofs.Common.{◌+◌, ◌∙◌, sym, ap, None, refl}
use Rattle.record_store.specs.ByKey.{find}
use Rattle.record_store.specs.View.{item_key}
use Rattle.record_store.specs.Moves.{with_new}
use Rattle.record_store.specs.Room.{put_end}
use Rattle.record_store.specs.declared.record.NewRecord.{NewRecord}
use Rattle.api_core.proofs.Creating.{create-seen, create-moved, create-refused_present, create-refused_full, create-written}
use Rattle.api_core.proofs.present.Core.commit_create.Goals as goal

pub returns-in_default-clause-turn : goal.returns-in_default-clause-turn
returns-in_default-clause-turn g c =
    let may = sym c.is_served.ensures.served ∙ c.if-not-is_served.false in
    rw (← c.self.view_is) (λ log h stands prepares new.
    create-moved _ _ log stands c.args.v c.args.new h may (sym c.look.ensures ∙ c.in_default.is) c.if-new-now.true)

pub returns-then-new-now-clause-turn : goal.returns-then-new-now-clause-turn
returns-then-new-now-clause-turn g c =
    let may = sym c.is_served.ensures.served ∙ c.if-not-is_served.false in
    rw (← c.self.view_is) (λ log h stands prepares new.
    create-seen _ _ log stands c.args.v c.args.new h _ may (sym c.look.ensures ∙ c.in-Some.is))

pub returns-in-Present-clause-turn : goal.returns-in-Present-clause-turn
returns-in-Present-clause-turn g c =
    let may = sym c.is_served.ensures.served ∙ c.if-not-is_served.false in
    let end = ap (λ (n : NewRecord). put_end None n.weight (find item_key n.key c.self.inside.store.items) c.self.inside.store) (sym c.into_record.ensures) ∙ sym c.put_if.ensures.end ∙ c.in-Present.is in
    rw (← c.self.view_is) (λ log h stands prepares new.
    create-refused_present _ _ log stands c.args.v c.args.new h c.put_if.new.self may end c.in-Present.ensures.store)

pub returns-in-Full-clause-turn : goal.returns-in-Full-clause-turn
returns-in-Full-clause-turn g c =
    let may = sym c.is_served.ensures.served ∙ c.if-not-is_served.false in
    let end = ap (λ (n : NewRecord). put_end None n.weight (find item_key n.key c.self.inside.store.items) c.self.inside.store) (sym c.into_record.ensures) ∙ sym c.put_if.ensures.end ∙ c.in-Full.is in
    rw (← c.self.view_is) (λ log h stands prepares new.
    create-refused_full _ _ log stands c.args.v c.args.new h c.in-Full.room c.put_if.new.self may c.if-new-now.false end c.in-Full.ensures.store)

pub returns-in-Done-clause-turn : goal.returns-in-Done-clause-turn
returns-in-Done-clause-turn g c =
    let may = sym c.is_served.ensures.served ∙ c.if-not-is_served.false in
    let end = ap (λ (n : NewRecord). put_end None n.weight (find item_key n.key c.self.inside.store.items) c.self.inside.store) (sym c.into_record.ensures) ∙ sym c.put_if.ensures.end ∙ c.in-Done.is in
    let store = c.in-Done.ensures.store ∙ ap (λ (n : NewRecord). with_new (c.self.inside.revision + 1) n c.self.inside.store) c.into_record.ensures in
    rw (← c.self.view_is) (λ log h stands prepares new.
    create-written _ _ log stands c.args.v c.args.new h c.put_if.new.self prepares new may c.if-new-now.false end store)

pub returns-in-Full-clause-leaves : goal.returns-in-Full-clause-leaves
returns-in-Full-clause-leaves g c = rw (← c.self.view_is) (rw c.in-Full.ensures.store refl)

pub returns-in-Full-clause-revision : goal.returns-in-Full-clause-revision
returns-in-Full-clause-revision g c = rw (← c.self.view_is) refl

pub returns-in-Full-clause-base : goal.returns-in-Full-clause-base
returns-in-Full-clause-base g c = rw (← c.self.view_is) (record { versions = refl; limits = refl; boot = refl })

pub returns-in-Present-clause-leaves : goal.returns-in-Present-clause-leaves
returns-in-Present-clause-leaves g c = rw (← c.self.view_is) (rw c.in-Present.ensures.store refl)

pub returns-in-Present-clause-revision : goal.returns-in-Present-clause-revision
returns-in-Present-clause-revision g c = rw (← c.self.view_is) refl

pub returns-in-Present-clause-base : goal.returns-in-Present-clause-base
returns-in-Present-clause-base g c = rw (← c.self.view_is) (record { versions = refl; limits = refl; boot = refl })

pub returns-in-Done-clause-leaves : goal.returns-in-Done-clause-leaves
returns-in-Done-clause-leaves g c =
    let store = c.in-Done.ensures.store ∙ ap (λ (n : NewRecord). with_new (c.self.inside.revision + 1) n c.self.inside.store) c.into_record.ensures in
    rw (← c.self.view_is) (rw store refl)

pub returns-in-Done-clause-base : goal.returns-in-Done-clause-base
returns-in-Done-clause-base g c = rw (← c.self.view_is) (record { versions = refl; limits = refl; boot = refl })
