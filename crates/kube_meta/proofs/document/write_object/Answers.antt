use Rattle.std.proofs.Common.{refl, subst, sym, suc, ◌+◌, ◌≤◌, max}
use Rattle.kj_value.specs.Json.{Json, depth, items_depth, members_depth, items_of, members_of}
use Rattle.kube_meta.specs.View.{object_of}
use Rattle.kube_meta.specs.Document.{document}
use Rattle.kube_meta.proofs.Levels.{depth-document}
use Rattle.kube_meta.proofs.document.write_object.Goals as goal

value_is : goal.returns-clause-value
unfolding document
value_is c =
    rw (
      c.in_ok-set-3.ensures.ok,
      c.in_ok-of-3.ensures,
      c.in_ok-metadata.ensures,
      c.in_ok-set-2.ensures.ok,
      c.in_ok-of-2.ensures,
      c.in_ok-set.ensures.ok,
      c.in_ok-of.ensures,
    ) refl

pub returns-clause-value : goal.returns-clause-value
returns-clause-value c = value_is c

pub returns-clause-levels : goal.returns-clause-levels
returns-clause-levels c =
    let o = object_of c.args.o in
    subst (λ (j : Json). depth j ≤ suc (max (members_depth (members_of o.body)) (2 + items_depth (items_of o.meta.owners)))) (sym (value_is c)) (depth-document o)
