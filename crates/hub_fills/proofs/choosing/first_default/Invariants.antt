use Rattle.std.proofs.Common.{◌≡◌, ◌∷◌, [], map, drop}
use Rattle.kj_value.specs.Texts.{bytes_of}
use Rattle.hub_cells.specs.Seen.{place}
use Rattle.hub_fills.specs.Fills.{first_default}
use Rattle.hub_fills.specs.EachFit.{EachAllows}
use Rattle.hub_fills.specs.inner.UnderLaws.{levels_under}
use Rattle.hub_fills.proofs.choosing.first_default.Given as goal

abbrev pub invariant-loop-f : goal.invariant-loop-f
invariant-loop-f l = record {
  allows : EachAllows (drop l.f-index l.fits);
  rest : first_default (levels_under (map bytes_of l.path) l.fits) (place l.q ∷ []) ≡ first_default (levels_under (map bytes_of l.path) (drop l.f-index l.fits)) (place l.q ∷ []);
}
