use Rattle.std.proofs.Common.{◌≡◌, drop}
use Rattle.keep_laws.specs.Keys.{kind_among}
use Rattle.spoke_keep.proofs.keys.find.Given as goal

abbrev pub invariant-loop-s : goal.invariant-loop-s
invariant-loop-s l = kind_among l.key (drop l.s-index l.items) ≡ kind_among l.key l.items
