use Rattle.std.proofs.Common.{◌-◌, sym, ◌∙◌, arith}
use Rattle.crd_loading.proofs.Places.{place_before, place_behind, stands_at}
use Rattle.crd_loading.proofs.versions.LoadedVersions.place.Goals as goal

pub returns-then-v-hub-2 : goal.returns-then-v-hub-2
returns-then-v-hub-2 c =
    let d = c.args.self.now in
    let v = c.args.v in
    stands_at d v v (λ e. c.if-v-hub.false (e ∙ sym c.hub-hub.ensures.value)) (place_before d.hub v (omega arith)) (c.hub-hub.ensures.loaded.seats v c.requires)

pub returns : goal.returns
returns c =
    let d = c.args.self.now in
    let v = c.args.v in
    stands_at d v (v - 1) (λ e. c.if-v-hub.false (e ∙ sym c.hub-hub.ensures.value)) (place_behind d.hub v (omega arith)) (c.hub-hub.ensures.loaded.seats v c.requires)
