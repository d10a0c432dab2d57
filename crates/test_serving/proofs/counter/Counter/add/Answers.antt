use Rattle.std.proofs.Common.{ℕ, ◌+◌, ◌≤◌, List, [], ◌∷◌, ◌++◌, ap, ◌∙◌, arith}
use Rattle.test_serving.proofs.Adding.{core_adds}
use Rattle.test_serving.proofs.counter.Counter.add.Goals as goal

pub returns-clause-decides : goal.returns-clause-decides
returns-clause-decides c log stands =
    let d = c.args.self.now in
    let x = c.args.x in
    core_adds d.limit d.total x c.push_reserved.new.self.items log stands.0 (c.push_reserved.ensures.items ∙ ap (λ (ns : List ℕ). ns ++ x ∷ []) (c.reserve.ensures.items ∙ stands.1)) stands.2
    (let l : d.total + x ≤ d.limit = omega arith in l)
