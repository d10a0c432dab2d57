use Rattle.std.proofs.Common.{◌≡◌, ◌+◌, ◌<◌, ℕ, List, length, Some, ap, refl, sym, subst, ◌∙◌, arith}
use Rattle.std.specs.Prelude.{slice_set, IsUtf8}
use Rattle.record_region.specs.Places.{Places}
use Rattle.record_store.specs.Rows.{Rows}
use Rattle.record_store.specs.declared.row.Row.{Row}
use Rattle.record_store.specs.View.{StoreView}
use Rattle.record_store.specs.Moves.{added, with_new}
use Rattle.record_store.proofs.Pieces.{chunks-within}
use Rattle.record_store.proofs.Changes.{Changed, spare-enough, addition}
use Rattle.record_store.proofs.Overwritten.{is-new, written-fresh}
use Rattle.record_store.proofs.store.Store.add.Goals as goal

pub put-requires : goal.put-requires
put-requires c =
    let new = is-new c.self.inside.limits c.self.inside.index c.self.inside.window c.self.inside.region c.self.inside.live c.self.inside.last c.self.invariant c.args.new.key c.args.place c.args.new.weight c.args.self.now c.self.view_is c.requires.there c.requires.room in
    let long = ap (λ (b : List ℕ). length b) (c.as_bytes.ensures.value ∙ c.as_str.ensures) in
    let within = c.requires.within in
    let chunks = chunks-within (length c.as_bytes.result.now) c.args.new.weight c.requires.weighed (omega (arith, long, within)) in
    record { few = omega (arith, new.light, chunks, c.self.invariant.small) }

pub unreachable-requires : goal.unreachable-requires
unreachable-requires c =
    let new = is-new c.self.inside.limits c.self.inside.index c.self.inside.window c.self.inside.region c.self.inside.live c.self.inside.last c.self.invariant c.args.new.key c.args.place c.args.new.weight c.args.self.now c.self.view_is c.requires.there c.requires.room in
    let long = ap (λ (b : List ℕ). length b) (c.as_bytes.ensures.value ∙ c.as_str.ensures) in
    let within = c.requires.within in
    spare-enough c.self.inside.limits c.self.inside.index c.self.inside.window c.self.inside.region c.self.inside.live c.self.inside.last c.self.invariant (length c.as_bytes.result.now) c.args.new.weight new.light (chunks-within (length c.as_bytes.result.now) c.args.new.weight c.requires.weighed (omega (arith, long, within))) (c.in_default.ensures.full.0 refl)

pub insert-requires : goal.insert-requires
insert-requires c =
    let new = is-new c.self.inside.limits c.self.inside.index c.self.inside.window c.self.inside.region c.self.inside.live c.self.inside.last c.self.invariant c.args.new.key c.args.place c.args.new.weight c.args.self.now c.self.view_is c.requires.there c.requires.room in
    record { there = new.there; room = new.few }

pub overflow_add-self : goal.overflow_add-self
overflow_add-self c =
    let new = is-new c.self.inside.limits c.self.inside.index c.self.inside.window c.self.inside.region c.self.inside.live c.self.inside.last c.self.invariant c.args.new.key c.args.place c.args.new.weight c.args.self.now c.self.view_is c.requires.there c.requires.room in
    omega (arith, new.light, c.self.invariant.small)

changed : (c : goal.After-drop-bytes) → Changed c.self.inside.limits c.insert.new.self c.self.inside.window c.put.new.self (c.self.inside.live + c.args.new.weight) c.args.now (with_new c.args.now c.args.new c.args.self.now)
changed c =
    let new = is-new c.self.inside.limits c.self.inside.index c.self.inside.window c.self.inside.region c.self.inside.live c.self.inside.last c.self.invariant c.args.new.key c.args.place c.args.new.weight c.args.self.now c.self.view_is c.requires.there c.requires.room in
    let last = ap (λ (v : StoreView). v.last) c.self.view_is in
    let asked = c.requires.later in
    let later : c.self.inside.last < c.args.now = omega (arith, last, asked) in
    let within = c.requires.within in
    let long = c.len.ensures in
    let row : Row = record { key = c.args.new.key; «record» = record { at = c.args.new.at; rv = c.args.now; born = c.args.now; weight = c.args.new.weight; len = c.len.result }; piece = c.in-Ok.piece } in
    let bytes = c.args.new.bytes.bytes in
    let text : IsUtf8 bytes = subst IsUtf8 c.as_str.ensures c.as_str.utf8 in
    let here = addition c.self.inside.limits c.self.inside.index c.self.inside.window c.self.inside.region c.self.inside.live c.self.inside.last c.self.invariant c.args.now row bytes new.fresh c.in-Ok.ensures.unused c.in-Ok.ensures.within text (sym long) (chunks-within c.len.result c.args.new.weight c.requires.weighed (omega (arith, long, within))) new.light (omega (arith, later)) (omega (arith, later)) (omega arith) in
    let places : c.put.new.self ≡ slice_set c.self.inside.region c.in-Ok.piece (Some bytes) = c.in-Ok.ensures.put ∙ ap (λ (b : List ℕ). slice_set c.self.inside.region c.in-Ok.piece (Some b)) (c.as_bytes.ensures.value ∙ c.as_str.ensures) in
    let seen = here.seen ∙ ap (added c.args.now c.args.now c.args.new) c.self.view_is ∙ written-fresh c.args.now c.args.new c.args.self.now c.args.place c.requires.there in
    let after = with_new c.args.now c.args.new c.args.self.now in
    let P : Places → Type 0 = λ p. Changed c.self.inside.limits c.insert.new.self c.self.inside.window p (c.self.inside.live + c.args.new.weight) c.args.now after in
    let Q : Rows → Type 0 = λ ix. Changed c.self.inside.limits ix c.self.inside.window (slice_set c.self.inside.region c.in-Ok.piece (Some bytes)) (c.self.inside.live + c.args.new.weight) c.args.now after in
    subst P (sym places) (subst Q (sym c.insert.ensures) (record { sound = here.sound; seen = seen }))

pub invariant_of-self : goal.invariant_of-self
invariant_of-self c = (changed c).sound

pub returns : goal.returns
returns c = (changed c).seen
