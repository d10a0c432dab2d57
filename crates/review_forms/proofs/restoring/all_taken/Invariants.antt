use Rattle.review_forms.proofs.Takes.{Taking}
use Rattle.review_forms.proofs.restoring.all_taken.Given as goal

abbrev pub invariant-loop-i : goal.invariant-loop-i
invariant-loop-i l = Taking l.fn.objects l.fn.sent l.rest l.i l.made
