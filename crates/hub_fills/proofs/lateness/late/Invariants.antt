use Rattle.std.proofs.Common.{◌≡◌, map, drop, Some, fold, option_map}
use Rattle.kj_value.specs.Texts.{bytes_of}
use Rattle.struct_schema.specs.Fault.{lesser}
use Rattle.hub_cells.specs.Fit.{Fit}
use Rattle.hub_fills.specs.LateNames.{joined, late_among, first_late}
use Rattle.hub_fills.proofs.lateness.late.Given as goal

abbrev pub invariant-loop-f : goal.invariant-loop-f
invariant-loop-f l =
    fold lesser (option_map bytes_of l.first) (map joined (late_among (map (λ (g : Fit). Some g.level) l.fits) (map (λ (g : Fit). Some g.level) (drop l.f-index l.fits)))) ≡ first_late (map (λ (g : Fit). Some g.level) l.fits)
