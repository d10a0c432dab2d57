use Rattle.std.proofs.Common.{◌≡◌, map, drop}
use Rattle.kj_value.specs.Texts.{bytes_of}
use Rattle.hub_fills.specs.Late.{all_pair}
use Rattle.hub_fills.specs.inner.UnderLaws.{levels_under}
use Rattle.hub_fills.proofs.lateness.all_pair.Given as goal

abbrev pub invariant-loop-f : goal.invariant-loop-f
invariant-loop-f l =
    all_pair (levels_under (map bytes_of l.path) (drop l.f-index l.fits)) l.name.bytes ≡ all_pair (levels_under (map bytes_of l.path) l.fits) l.name.bytes
