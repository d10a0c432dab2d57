use Rattle.crd_versions.specs.Set.{definition_of}
use Rattle.review_batch.proofs.Steps.{Along}
use Rattle.review_batch.proofs.converting.converted.Given as goal

abbrev pub invariant-loop-i : goal.invariant-loop-i
invariant-loop-i l = Along (definition_of l.fn.set) l.fn.to l.fn.objects l.rest l.i l.fn.page l.page
