use Rattle.std.proofs.Common.{List, ap, ◌∙◌}
use Rattle.hub_cells.specs.Seen.{side, cell, tuple}
use Rattle.hub_cells.specs.Level.{Name, tuple_of, allows}
use Rattle.keep_bodies.proofs.crossing.cross_kept.Goals as goal

pub cross_values-requires : goal.cross_values-requires
cross_values-requires c =
    c.allowed_crosses.ensures (cell c.args.c.now) (side c.args.from) (tuple c.in_ok-values.values) c.requires.fits (ap (allows (side c.args.from) (cell c.args.c.now)) (c.in_ok-values.ensures ∙ ap (λ (ns : List Name). tuple_of ns c.args.x.now) c.names_on.ensures) ∙ c.requires.allowed)
