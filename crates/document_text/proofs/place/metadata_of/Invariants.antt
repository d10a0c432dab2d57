use Rattle.std.proofs.Common.{length}
use Rattle.kj_value.specs.Fields.{Pairs}
use Rattle.document_text.specs.Numbered.{IsParted}
use Rattle.document_text.proofs.place.metadata_of.Given as goal

-- what is left begins with a field that stands no later than the metadata
abbrev pub invariant-loop-left : goal.invariant-loop-left
invariant-loop-left l = (es os fs : Pairs) → IsParted es os fs l.fields → (ds : Pairs) × IsParted ds os fs l.left

abbrev pub decreases-loop-left : goal.decreases-loop-left
decreases-loop-left l = length l.left
