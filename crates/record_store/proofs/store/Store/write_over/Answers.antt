use Rattle.std.proofs.Common.{◌≡◌, ◌+◌, ◌-◌, ◌<◌, ℕ, List, Option, Some, Ok, length, map, ap, refl, sym, subst, ◌∙◌, arith}
use Rattle.std.specs.Prelude.{option_map, slice_set, IsUtf8}
use Rattle.kube_meta.specs.laws.WindowLaws.{fits-bounds}
use Rattle.record_region.specs.Places.{Places}
use Rattle.record_store.specs.ByKey.{KeysRise, find, put}
use Rattle.record_store.specs.ByKey.{place as place_of}
use Rattle.record_store.specs.Rows.{Rows, row_key}
use Rattle.record_store.specs.declared.row.Row.{Row}
use Rattle.record_store.specs.declared.row.Record.{Record}
use Rattle.record_store.specs.Held.{holders}
use Rattle.record_store.specs.Pasts.{Pasts, past_by, past_weight, rows_of}
use Rattle.record_store.specs.View.{Item, StoreView, item_key}
use Rattle.record_store.specs.Moves.{added, born_of, removed, with_new}
use Rattle.record_store.specs.Inside.{item_of, row_weight}
use Rattle.record_store.proofs.Keyed.{weights-without}
use Rattle.record_store.proofs.Mapped.{find-seen}
use Rattle.record_store.proofs.Pieces.{chunks-within}
use Rattle.record_store.proofs.Shares.{moves}
use Rattle.record_store.proofs.Changes.{Changed, is-store}
use Rattle.record_store.proofs.Answered.{rewritten}
use Rattle.record_store.proofs.Overwritten.{place-seen, found-at, within-rows, within-put, placed, light, enough, overwrite}
use Rattle.record_store.proofs.store.Store.write_over.Goals as goal

pub record_at-standing-requires : goal.record_at-standing-requires
record_at-standing-requires c =
    let there = place-seen c.self.inside.region c.self.inside.index.rows c.args.new.key (Ok c.args.place) (ap (λ (v : StoreView). place_of c.args.new.key (map item_key v.items)) c.self.view_is ∙ c.requires.there) in
    record { within = within-rows c.self.inside.index.rows c.args.place c.args.new.key there }

pub replace-row-requires : goal.replace-row-requires
replace-row-requires c =
    record { there = place-seen c.self.inside.region c.self.inside.index.rows c.args.new.key (Ok c.args.place) (ap (λ (v : StoreView). place_of c.args.new.key (map item_key v.items)) c.self.view_is ∙ c.requires.there) }

pub append-requires-clause-light : goal.append-requires-clause-light
append-requires-clause-light c =
    let weigh = weights-without row_key row_weight c.args.new.key c.replace-row.result c.self.inside.index.rows c.replace-row.ensures.row in
    let lives = c.self.invariant.lives in
    let light = c.self.invariant.light in
    let small = c.self.invariant.small in
    let bounds = fits-bounds past_by past_weight c.self.inside.limits c.self.inside.window.items c.self.invariant.window_fits in
    omega (arith, weigh, lives, light, small, bounds)

pub trim-requires : goal.trim-requires
trim-requires c =
    let moved = moves c.args.new.key c.replace-row.result c.args.now c.self.inside.index.rows c.self.inside.window.items c.self.inside.region c.replace-row.ensures.row c.self.invariant.shares in
    record {
      apart = λ chunk.
          let owned = moved.owned chunk in
          let same = ap (λ (w : Pasts). holders chunk (rows_of w.items)) c.append.ensures in
          omega (arith, owned, same);
    }

pub put-requires : goal.put-requires
put-requires c =
    let fits = light c.self.inside.limits c.self.inside.index c.self.inside.window c.self.inside.region c.self.inside.live c.self.inside.last c.self.invariant c.args.new.key c.replace-row.result c.replace-row.ensures.row c.args.new.weight c.args.self.now c.self.view_is c.requires.room in
    let text = c.as_bytes.ensures.value ∙ c.as_str.ensures in
    let long = ap (λ (b : List ℕ). length b) text in
    let within = c.requires.within in
    let chunks = chunks-within (length c.as_bytes.result.now) c.args.new.weight c.requires.weighed (omega (arith, long, within)) in
    let small = c.self.invariant.small in
    record { few = omega (arith, fits, chunks, small) }

pub unreachable-requires : goal.unreachable-requires
unreachable-requires c =
    let last = ap (λ (v : StoreView). v.last) c.self.view_is in
    let asked = c.requires.later in
    let later : c.self.inside.last < c.args.now = omega (arith, last, asked) in
    let fits = light c.self.inside.limits c.self.inside.index c.self.inside.window c.self.inside.region c.self.inside.live c.self.inside.last c.self.invariant c.args.new.key c.replace-row.result c.replace-row.ensures.row c.args.new.weight c.args.self.now c.self.view_is c.requires.room in
    let text = c.as_bytes.ensures.value ∙ c.as_str.ensures in
    let long = ap (λ (b : List ℕ). length b) text in
    let within = c.requires.within in
    let chunks = chunks-within (length c.as_bytes.result.now) c.args.new.weight c.requires.weighed (omega (arith, long, within)) in
    enough c.self.inside.limits c.self.inside.index c.self.inside.window c.self.inside.region c.self.inside.live c.self.inside.last c.self.invariant c.args.now later c.replace-row.ensures.order c.args.new.key c.replace-row.result c.replace-row.ensures.row c.append.new.self c.trim.new.self c.trim.new.region c.append.ensures c.trim.ensures.limits c.trim.ensures.items c.trim.ensures.floor c.trim.ensures.region (length c.as_bytes.result.now) c.args.new.weight fits chunks (c.in_default.ensures.full.0 refl)

pub set_piece-requires : goal.set_piece-requires
set_piece-requires c =
    let there = place-seen c.self.inside.region c.self.inside.index.rows c.args.new.key (Ok c.args.place) (ap (λ (v : StoreView). place_of c.args.new.key (map item_key v.items)) c.self.view_is ∙ c.requires.there) in
    let waiting : Row = record { key = c.args.new.key; «record» = record { at = c.args.new.at; rv = c.args.now; born = c.record_at-standing.result.born; weight = c.args.new.weight; len = c.len.result }; piece = c.none.result } in
    record { within = subst (λ (v : Rows). c.args.place < length v.rows) (sym c.replace-row.ensures.rows) (within-put c.self.inside.index.rows c.args.place waiting there) }

pub overflow_sub-self : goal.overflow_sub-self
overflow_sub-self c =
    let there = place-seen c.self.inside.region c.self.inside.index.rows c.args.new.key (Ok c.args.place) (ap (λ (v : StoreView). place_of c.args.new.key (map item_key v.items)) c.self.view_is ∙ c.requires.there) in
    let same = c.record_at-standing.ensures c.replace-row.result (found-at c.self.inside.index.rows c.args.place c.args.new.key c.replace-row.result there c.replace-row.ensures.row) in
    let weight = ap (λ (r : Record). r.weight) same in
    let weigh = weights-without row_key row_weight c.args.new.key c.replace-row.result c.self.inside.index.rows c.replace-row.ensures.row in
    let lives = c.self.invariant.lives in
    omega (arith, weight, weigh, lives)

pub overflow_add-self : goal.overflow_add-self
overflow_add-self c =
    let fits = light c.self.inside.limits c.self.inside.index c.self.inside.window c.self.inside.region c.self.inside.live c.self.inside.last c.self.invariant c.args.new.key c.replace-row.result c.replace-row.ensures.row c.args.new.weight c.args.self.now c.self.view_is c.requires.room in
    let there = place-seen c.self.inside.region c.self.inside.index.rows c.args.new.key (Ok c.args.place) (ap (λ (v : StoreView). place_of c.args.new.key (map item_key v.items)) c.self.view_is ∙ c.requires.there) in
    let same = c.record_at-standing.ensures c.replace-row.result (found-at c.self.inside.index.rows c.args.place c.args.new.key c.replace-row.result there c.replace-row.ensures.row) in
    let weight = ap (λ (r : Record). r.weight) same in
    let small = c.self.invariant.small in
    omega (arith, weight, fits, small)

changed : (c : goal.After-drop-bytes) → Changed c.self.inside.limits c.set_piece.new.self c.trim.new.self c.put.new.self (c.self.inside.live - c.record_at-standing.result.weight + c.args.new.weight) c.args.now (with_new c.args.now c.args.new c.args.self.now)
changed c =
    let last = ap (λ (v : StoreView). v.last) c.self.view_is in
    let asked = c.requires.later in
    let later : c.self.inside.last < c.args.now = omega (arith, last, asked) in
    let fits = light c.self.inside.limits c.self.inside.index c.self.inside.window c.self.inside.region c.self.inside.live c.self.inside.last c.self.invariant c.args.new.key c.replace-row.result c.replace-row.ensures.row c.args.new.weight c.args.self.now c.self.view_is c.requires.room in
    let there = place-seen c.self.inside.region c.self.inside.index.rows c.args.new.key (Ok c.args.place) (ap (λ (v : StoreView). place_of c.args.new.key (map item_key v.items)) c.self.view_is ∙ c.requires.there) in
    let same = c.record_at-standing.ensures c.replace-row.result (found-at c.self.inside.index.rows c.args.place c.args.new.key c.replace-row.result there c.replace-row.ensures.row) in
    let weight = ap (λ (r : Record). r.weight) same in
    let within = c.requires.within in
    let long = c.len.ensures in
    let known : Record = record { at = c.args.new.at; rv = c.args.now; born = c.record_at-standing.result.born; weight = c.args.new.weight; len = c.len.result } in
    let waiting : Row = record { key = c.args.new.key; «record» = known; piece = c.none.result } in
    let bytes = c.args.new.bytes.bytes in
    let text : IsUtf8 bytes = subst IsUtf8 c.as_str.ensures c.as_str.utf8 in
    let here = overwrite c.self.inside.limits c.self.inside.index c.self.inside.window c.self.inside.region c.self.inside.live c.self.inside.last c.self.invariant c.args.now later c.replace-row.ensures.order c.args.new.key c.replace-row.result c.replace-row.ensures.row c.append.new.self c.trim.new.self c.trim.new.region c.append.ensures c.trim.ensures.limits c.trim.ensures.items c.trim.ensures.floor c.trim.ensures.region known c.in-Ok.piece bytes c.in-Ok.ensures.unused c.in-Ok.ensures.within text (sym long) (chunks-within c.len.result c.args.new.weight c.requires.weighed (omega (arith, long, within))) fits (omega (arith, later)) (omega arith) in
    let places : c.put.new.self ≡ slice_set c.trim.new.region c.in-Ok.piece (Some bytes) = c.in-Ok.ensures.put ∙ ap (λ (b : List ℕ). slice_set c.trim.new.region c.in-Ok.piece (Some b)) (c.as_bytes.ensures.value ∙ c.as_str.ensures) in
    let index = placed c.self.inside.index waiting c.in-Ok.piece c.args.place c.replace-row.new.self c.set_piece.new.self there c.replace-row.ensures.rows c.set_piece.ensures in
    let stands = is-store c.self.inside.limits c.self.inside.index c.self.inside.window c.self.inside.region c.self.inside.live c.self.inside.last c.self.invariant c.replace-row.ensures.order c.replace-row.ensures.room in
    let order = subst (λ (v : StoreView). KeysRise (map item_key v.items)) c.self.view_is stands.order in
    let found = find-seen (item_of c.self.inside.region) item_key c.args.new.key c.self.inside.index.rows ∙ ap (option_map (item_of c.self.inside.region)) c.replace-row.ensures.row in
    let its_born = ap (λ (o : Option Item). born_of o c.args.now) (sym found) ∙ ap (λ (v : StoreView). born_of (find item_key c.args.new.key v.items) c.args.now) c.self.view_is in
    let born : c.record_at-standing.result.born ≡ born_of (find item_key c.args.new.key c.args.self.now.items) c.args.now = ap (λ (r : Record). r.born) same ∙ its_born in
    let seen = here.seen ∙ ap (λ (v : StoreView). added c.record_at-standing.result.born c.args.now c.args.new (removed c.args.now c.args.new.key v)) c.self.view_is
    ∙ rewritten c.record_at-standing.result.born c.args.now c.args.new c.args.self.now order born in
    let after = with_new c.args.now c.args.new c.args.self.now in
    let final : Rows = record c.self.inside.index { rows = put row_key (record waiting { piece = c.in-Ok.piece }) c.self.inside.index.rows } in
    let there_then = slice_set c.trim.new.region c.in-Ok.piece (Some bytes) in
    let L : ℕ → Type 0 = λ w. Changed c.self.inside.limits final c.trim.new.self there_then (c.self.inside.live - w + c.args.new.weight) c.args.now after in
    let P : Places → Type 0 = λ p. Changed c.self.inside.limits final c.trim.new.self p (c.self.inside.live - c.record_at-standing.result.weight + c.args.new.weight) c.args.now after in
    let Q : Rows → Type 0 = λ ix. Changed c.self.inside.limits ix c.trim.new.self c.put.new.self (c.self.inside.live - c.record_at-standing.result.weight + c.args.new.weight) c.args.now after in
    subst Q (sym index) (subst P (sym places) (subst L (sym weight) (record { sound = here.sound; seen = seen })))

pub invariant_of-self : goal.invariant_of-self
invariant_of-self c = (changed c).sound

pub returns : goal.returns
returns c = (changed c).seen
