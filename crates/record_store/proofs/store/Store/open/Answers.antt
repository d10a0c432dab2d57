use Rattle.std.proofs.Common.{[], subst, sym}
use Rattle.record_region.specs.Places.{Places}
use Rattle.record_store.specs.Rows.{Rows}
use Rattle.record_store.specs.Pasts.{Pasts}
use Rattle.record_store.specs.Inside.{IsSoundStore}
use Rattle.record_store.proofs.Opened.{opened}
use Rattle.record_store.proofs.store.Store.open.Goals as goal

pub invariant_of-result : goal.invariant_of-result
invariant_of-result c =
    let P : Rows → Type 0 = λ ix. IsSoundStore c.args.limits ix c.in_ok-window.window c.in_ok-region.region 0 0 in
    let Q : Pasts → Type 0 = λ w. IsSoundStore c.args.limits (record { room = c.args.limits.objects; rows = [] }) w c.in_ok-region.region 0 0 in
    let R : Places → Type 0 = λ p. IsSoundStore c.args.limits (record { room = c.args.limits.objects; rows = [] }) (record { limits = c.args.limits; items = []; floor = 1 }) p 0 0 in
    subst P (sym c.in_ok-index.ensures) (subst Q (sym c.in_ok-window.ensures) (subst R (sym c.in_ok-region.ensures) (opened c.args.limits c.requires)))
