use Rattle.serve_many.proofs.serving.serve_all.Goals as goal

pub returns-in-Ok-true-default-clause-blames : goal.returns-in-Ok-true-default-clause-blames
returns-in-Ok-true-default-clause-blames g c = tt

pub returns-in-Ok-true-default-clause-served : goal.returns-in-Ok-true-default-clause-served
returns-in-Ok-true-default-clause-served g c = λ n named.
    let s = c.in-Ok-true-default.ensures.served n named in
    (s.0, rw c.in-Ok-true-default.field-0-0-test at s.1, s.2, s.3)
