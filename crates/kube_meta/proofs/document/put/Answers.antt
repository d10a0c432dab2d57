use Rattle.kube_meta.proofs.InOrder.{with_field-behind, follows_later, follows-with}
use Rattle.kube_meta.proofs.document.put.Goals as goal

pub returns-in_ok-set-in-Some-clause-fields : goal.returns-in_ok-set-in-Some-clause-fields
returns-in_ok-set-in-Some-clause-fields c =
    rw (c.in_ok-set-in-Some.ensures.ok, c.in_ok-of-in-Some.ensures, c.in-Some.is) (with_field-behind _ _ _ c.requires)

pub returns-in_ok-set-in-Some-clause-later : goal.returns-in_ok-set-in-Some-clause-later
returns-in_ok-set-in-Some-clause-later c =
    λ k a. rw (c.in_ok-set-in-Some.ensures.ok, c.in_ok-of-in-Some.ensures) (follows-with k _ _ _ c.requires a)

pub returns-in-None-clause-later : goal.returns-in-None-clause-later
returns-in-None-clause-later c = λ k a. follows_later k _ _ a c.requires
