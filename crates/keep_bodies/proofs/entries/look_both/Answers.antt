use Rattle.std.proofs.Common.{◌≡◌, None, Option, MatchOption, subst}
use Rattle.hub_cells.specs.Cell.{Tuple}
use Rattle.keep_bodies.specs.inner.Left.{left_entry, entries_left}
use Rattle.keep_bodies.specs.inner.Lookup.{IsFound}
use Rattle.keep_bodies.specs.inner.Names.{name_list}
use Rattle.keep_bodies.proofs.Lookups.{kept_first, kept_second, found_again}
use Rattle.keep_bodies.proofs.entries.look_both.Goals as goal

pub returns-in-Some : goal.returns-in-Some
returns-in-Some c =
    let f = c.in-Some.ensures in
    found_again _ _ _ _ _ _ f (kept_first (name_list c.args.names.now) c.args.low.now.bytes c.args.high.now.bytes (entries_left c.args.kept.now) _ c.requires.two c.requires.rises c.requires.order f.kept)

pub returns-in-None : goal.returns-in-None
returns-in-None c =
    let ns = name_list c.args.names.now in
    let es = entries_left c.args.kept.now in
    subst (λ (u : Option Tuple). MatchOption c.look_from-in-None.result (u ≡ None) (λ f. IsFound ns es u f.place (left_entry c.args.kept.now.depth f.entry.now))) (kept_second ns c.args.low.now.bytes c.args.high.now.bytes es c.requires.two c.requires.rises c.requires.order c.in-None.ensures) c.look_from-in-None.ensures
