use Rattle.std.proofs.Common.{map}
use Rattle.std.specs.Vec.Iter.{into_iter_items}
use Rattle.kj_value.specs.Texts.{text_pair}
use Rattle.spoke_keep.specs.inner.Seen.{own_name}
use Rattle.spoke_keep.proofs.Loops.{Carrying}
use Rattle.spoke_keep.proofs.carrying.carried_over.Given as goal

abbrev pub invariant-loop-t : goal.invariant-loop-t
invariant-loop-t l =
    Carrying l.all (own_name l.fn.own) l.body l.fn.annotations (map text_pair (into_iter_items l.t-iterator)) l.notes
