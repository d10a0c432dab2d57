use Rattle.std.proofs.Common.{◌≡◌, ◌<◌, Some, None, ap, sym, subst, ◌∙◌, arith}
use Rattle.std.specs.Prelude.{option_map}
use Rattle.kube_meta.specs.laws.WindowLaws.{fits-bounds}
use Rattle.record_store.specs.ByKey.{find}
use Rattle.record_store.specs.Rows.{row_key}
use Rattle.record_store.specs.Held.{holders}
use Rattle.record_store.specs.Pasts.{Pasts, past_by, past_weight, rows_of}
use Rattle.record_store.specs.View.{StoreView, IsStore, item_key, record_of}
use Rattle.record_store.specs.Moves.{removed}
use Rattle.record_store.specs.Inside.{row_weight}
use Rattle.record_store.proofs.Keyed.{weights-without}
use Rattle.record_store.proofs.Shares.{moves}
use Rattle.record_store.proofs.Changes.{is-store, unchanged, removal}
use Rattle.record_store.proofs.Answered.{looked}
use Rattle.record_store.proofs.store.Store.take_out.Goals as goal

pub invariant_of-self : goal.invariant_of-self
invariant_of-self c =
    let none : find row_key c.args.key.now c.self.inside.index.rows ≡ None = sym c.take.ensures.row ∙ c.in_default.is in
    (unchanged c.self.inside.limits c.self.inside.index c.self.inside.window c.self.inside.region c.self.inside.live c.self.inside.last c.self.invariant c.args.key.now c.args.now c.take.new.self c.take.ensures.rows none).sound

pub returns-in_default-clause-found : goal.returns-in_default-clause-found
returns-in_default-clause-found c =
    let none : find row_key c.args.key.now c.self.inside.index.rows ≡ None = sym c.take.ensures.row ∙ c.in_default.is in
    looked c.self.inside.region c.self.inside.index.rows c.args.key.now None c.self.invariant.shares.kept (sym none)
    ∙ ap (λ (v : StoreView). option_map record_of (find item_key c.args.key.now v.items)) c.self.view_is

pub returns-in_default-clause-store : goal.returns-in_default-clause-store
returns-in_default-clause-store c =
    let none : find row_key c.args.key.now c.self.inside.index.rows ≡ None = sym c.take.ensures.row ∙ c.in_default.is in
    (unchanged c.self.inside.limits c.self.inside.index c.self.inside.window c.self.inside.region c.self.inside.live c.self.inside.last c.self.invariant c.args.key.now c.args.now c.take.new.self c.take.ensures.rows none).seen
    ∙ ap (removed c.args.now c.args.key.now) c.self.view_is

pub returns-in_default-clause-sound : goal.returns-in_default-clause-sound
returns-in_default-clause-sound c =
    subst IsStore c.self.view_is (is-store c.self.inside.limits c.self.inside.index c.self.inside.window c.self.inside.region c.self.inside.live c.self.inside.last c.self.invariant c.take.ensures.order c.take.ensures.room)

pub overflow_sub-self : goal.overflow_sub-self
overflow_sub-self c =
    let found = sym c.take.ensures.row ∙ c.in-Some.is in
    let weigh = weights-without row_key row_weight c.args.key.now c.in-Some.row c.self.inside.index.rows found in
    let lives = c.self.invariant.lives in
    omega (arith, weigh, lives)

pub append-requires-clause-light : goal.append-requires-clause-light
append-requires-clause-light c =
    let found = sym c.take.ensures.row ∙ c.in-Some.is in
    let weigh = weights-without row_key row_weight c.args.key.now c.in-Some.row c.self.inside.index.rows found in
    let lives = c.self.invariant.lives in
    let light = c.self.invariant.light in
    let small = c.self.invariant.small in
    let bounds = fits-bounds past_by past_weight c.self.inside.limits c.self.inside.window.items c.self.invariant.window_fits in
    omega (arith, weigh, lives, light, small, bounds)

pub trim-requires : goal.trim-requires
trim-requires c =
    let found = sym c.take.ensures.row ∙ c.in-Some.is in
    let moved = moves c.args.key.now c.in-Some.row c.args.now c.self.inside.index.rows c.self.inside.window.items c.self.inside.region found c.self.invariant.shares in
    record {
      apart = λ chunk.
          let owned = moved.owned chunk in
          let same = ap (λ (w : Pasts). holders chunk (rows_of w.items)) c.append.ensures in
          omega (arith, owned, same);
    }

pub invariant_of-self-2 : goal.invariant_of-self-2
invariant_of-self-2 c =
    let found = sym c.take.ensures.row ∙ c.in-Some.is in
    let last = ap (λ (v : StoreView). v.last) c.self.view_is in
    let asked = c.requires.later in
    let later : c.self.inside.last < c.args.now = omega (arith, last, asked) in
    (removal c.self.inside.limits c.self.inside.index c.self.inside.window c.self.inside.region c.self.inside.live c.self.inside.last c.self.invariant c.args.key.now c.args.now c.in-Some.row found later c.take.new.self c.append.new.self c.trim.new.self c.trim.new.region c.take.ensures.rows c.append.ensures c.trim.ensures.limits c.trim.ensures.items c.trim.ensures.floor c.trim.ensures.region).sound

pub returns-clause-found : goal.returns-clause-found
returns-clause-found c =
    let found = sym c.take.ensures.row ∙ c.in-Some.is in
    looked c.self.inside.region c.self.inside.index.rows c.args.key.now (Some c.in-Some.row) c.self.invariant.shares.kept (sym found)
    ∙ ap (λ (v : StoreView). option_map record_of (find item_key c.args.key.now v.items)) c.self.view_is

pub returns-clause-store : goal.returns-clause-store
returns-clause-store c =
    let found = sym c.take.ensures.row ∙ c.in-Some.is in
    let last = ap (λ (v : StoreView). v.last) c.self.view_is in
    let asked = c.requires.later in
    let later : c.self.inside.last < c.args.now = omega (arith, last, asked) in
    (removal c.self.inside.limits c.self.inside.index c.self.inside.window c.self.inside.region c.self.inside.live c.self.inside.last c.self.invariant c.args.key.now c.args.now c.in-Some.row found later c.take.new.self c.append.new.self c.trim.new.self c.trim.new.region c.take.ensures.rows c.append.ensures c.trim.ensures.limits c.trim.ensures.items c.trim.ensures.floor c.trim.ensures.region).seen
    ∙ ap (removed c.args.now c.args.key.now) c.self.view_is

pub returns-clause-sound : goal.returns-clause-sound
returns-clause-sound c =
    subst IsStore c.self.view_is (is-store c.self.inside.limits c.self.inside.index c.self.inside.window c.self.inside.region c.self.inside.live c.self.inside.last c.self.invariant c.take.ensures.order c.take.ensures.room)
