use Rattle.std.proofs.Common.{List, ap, ap₂, ◌∙◌}
use Rattle.hub_cells.specs.Side as sides
use Rattle.hub_cells.specs.Seen.{side, kind, tuple, cell}
use Rattle.hub_cells.specs.Level.{Name, names}
use Rattle.keep_laws.specs.Entry.{put}
use Rattle.keep_laws.specs.Marked.{Mark}
use Rattle.keep_bodies.proofs.Tests.{marked}
use Rattle.keep_bodies.proofs.crossing.put_crossed.Goals as goal

pub returns-clause-fields : goal.returns-clause-fields
returns-clause-fields c =
    c.in_ok-put_tuple.ensures ∙ ap₂ (λ (ns : List Name) (m : Mark). put ns m.0 c.args.fields.now) (c.names_on.ensures ∙ ap (λ (s : sides.Side). names s (cell c.args.c.now)) c.other.ensures) (marked (side c.args.from) (kind c.args.c.now.kind) (tuple c.args.values.now) (tuple c.in_ok-crossed.crossed.tuple) c.in_ok-crossed.crossed.matched c.in_ok-crossed.ensures)

pub returns-clause-matched : goal.returns-clause-matched
returns-clause-matched c =
    ap (λ (m : Mark). m.1) (marked (side c.args.from) (kind c.args.c.now.kind) (tuple c.args.values.now) (tuple c.in_ok-crossed.crossed.tuple) c.in_ok-crossed.crossed.matched c.in_ok-crossed.ensures)
