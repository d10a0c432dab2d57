use Rattle.std.proofs.Common.{◌≡◌, None, Option, MatchOption, nat_cmp, ap, ap₂, sym, subst, ◌∙◌}
use Rattle.std.specs.Ordering.{is_le}
use Rattle.std.specs.Cmp.Lexicographic.{slice_cmp}
use Rattle.hub_cells.specs.Cell.{Tuple}
use Rattle.hub_cells.specs.declared.cell.Names.{Names}
use Rattle.keep_laws.specs.Entry.{kept_of}
use Rattle.keep_bodies.specs.inner.Left.{left_entry, entries_left}
use Rattle.keep_bodies.specs.inner.Lookup.{IsFound, find, part_of}
use Rattle.keep_bodies.specs.inner.Names.{name_list}
use Rattle.keep_bodies.proofs.Lookups.{kept_of_none, kept_of_one, turned_le}
use Rattle.keep_bodies.proofs.entries.look_up.Goals as goal

pub look_both-requires-else-rises-clause-rises : goal.look_both-requires-else-rises-clause-rises
look_both-requires-else-rises-clause-rises c =
    turned_le c.in-Two.m.text.bytes c.in-Two.n.text.bytes (ap is_le (ap₂ (slice_cmp nat_cmp) (sym c.as_str.ensures) (sym c.as_str-in-Two.ensures) ∙ sym c.cmp.ensures) ∙ sym c.is_le-rises.ensures ∙ c.if-rises.false)

pub returns-in-Empty : goal.returns-in-Empty
returns-in-Empty c =
    let es = entries_left c.args.kept.now in
    ap (λ (ns : Names). kept_of (name_list ns) es) c.in-Empty.is ∙ kept_of_none es

pub returns-in-One : goal.returns-in-One
returns-in-One c =
    let ns = name_list c.args.names.now in
    let es = entries_left c.args.kept.now in
    let n = c.in-One.n.text.bytes in
    subst (λ (u : Option Tuple). MatchOption c.look_from.result (u ≡ None) (λ f. IsFound ns es u f.place (left_entry c.args.kept.now.depth f.entry.now))) (
    ap (λ (ms : Names). part_of (name_list ms) (find n es)) c.in-One.is ∙ kept_of_one n es c.requires ∙ ap (λ (ms : Names). kept_of (name_list ms) es) (sym c.in-One.is)
    ) c.look_from.ensures
