use Rattle.std.proofs.Common.{false, ap, sym, ◌∙◌}
use Rattle.std.specs.Ordering.{is_eq}
use Rattle.std.proofs.lemmas.Option.{slice_get_past}
use Rattle.hub_cells.specs.Level.{Name}
use Rattle.keep_bodies.specs.inner.Left.{left_entry, entries_left}
use Rattle.keep_bodies.specs.inner.Names.{name_list}
use Rattle.keep_bodies.specs.inner.Spots.{spot, spot_cmp, comes_first, leading}
use Rattle.keep_bodies.proofs.Lookups.{got, found_past, found_other, found_mixed, found_hit}
use Rattle.keep_bodies.proofs.entries.look_from.Goals as goal

pub returns-in-None : goal.returns-in-None
returns-in-None c =
    let es = entries_left c.args.kept.now in
    let place = c.count_first-place.ensures.count ∙ ap (λ (n : Name). leading (comes_first (false, n) false) es) c.as_str.ensures in
    found_past (name_list c.args.names.now) c.args.kept.now.depth c.args.kept.now.entries.now c.count_first-place.result c.args.name.now.bytes c.requires place (slice_get_past c.args.kept.now.entries.now c.count_first-place.result c.in-None.ensures.lookup.3)

pub returns-then-not-at_it : goal.returns-then-not-at_it
returns-then-not-at_it c =
    let es = entries_left c.args.kept.now in
    let e = c.in-Some.entry.now in
    let place = c.count_first-place.ensures.count ∙ ap (λ (n : Name). leading (comes_first (false, n) false) es) c.as_str.ensures in
    let at_it = sym (c.begins-at_it.ensures ∙ ap (λ (n : Name). is_eq (spot_cmp (spot (left_entry c.args.kept.now.depth e)) (false, n))) c.as_str-in-Some.ensures) ∙ c.if-not-at_it.true in
    found_other (name_list c.args.names.now) c.args.kept.now.depth c.args.kept.now.entries.now c.count_first-place.result c.args.name.now.bytes e c.requires place (got c.args.kept.now.entries.now c.count_first-place.result e c.in-Some.ensures.lookup.3.0 c.in-Some.ensures.lookup.1) at_it

pub returns-then-not-part : goal.returns-then-not-part
returns-then-not-part c =
    let es = entries_left c.args.kept.now in
    let e = c.in-Some.entry.now in
    let place = c.count_first-place.ensures.count ∙ ap (λ (n : Name). leading (comes_first (false, n) false) es) c.as_str.ensures in
    let at_it = sym (c.begins-at_it.ensures ∙ ap (λ (n : Name). is_eq (spot_cmp (spot (left_entry c.args.kept.now.depth e)) (false, n))) c.as_str-in-Some.ensures) ∙ c.if-not-at_it.false in
    found_mixed (name_list c.args.names.now) c.args.kept.now.depth c.args.kept.now.entries.now c.count_first-place.result c.args.name.now.bytes e c.requires place (got c.args.kept.now.entries.now c.count_first-place.result e c.in-Some.ensures.lookup.3.0 c.in-Some.ensures.lookup.1) at_it (sym c.is_part-part.ensures ∙ c.if-not-part.true)

pub returns-else-not-part : goal.returns-else-not-part
returns-else-not-part c =
    let es = entries_left c.args.kept.now in
    let e = c.in-Some.entry.now in
    let place = c.count_first-place.ensures.count ∙ ap (λ (n : Name). leading (comes_first (false, n) false) es) c.as_str.ensures in
    let at_it = sym (c.begins-at_it.ensures ∙ ap (λ (n : Name). is_eq (spot_cmp (spot (left_entry c.args.kept.now.depth e)) (false, n))) c.as_str-in-Some.ensures) ∙ c.if-not-at_it.false in
    found_hit (name_list c.args.names.now) c.args.kept.now.depth c.args.kept.now.entries.now c.count_first-place.result c.args.name.now.bytes e c.requires place (got c.args.kept.now.entries.now c.count_first-place.result e c.in-Some.ensures.lookup.3.0 c.in-Some.ensures.lookup.1) at_it (sym c.is_part-part.ensures ∙ c.if-not-part.false)
