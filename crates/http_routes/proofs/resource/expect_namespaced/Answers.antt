use Rattle.http_routes.proofs.Nothing.{namespaced_found}
use Rattle.http_routes.proofs.resource.expect_namespaced.Goals as goal

pub returns-in_err-expect_apis : goal.returns-in_err-expect_apis
returns-in_err-expect_apis g c = rw c.from_residual.ensures (λ h. c.in_err-expect_apis.ensures h.0)

pub returns-in_err-expect_group : goal.returns-in_err-expect_group
returns-in_err-expect_group g c = rw c.from_residual-in_err-expect_group.ensures (λ h. c.in_err-expect_group.ensures h.1)

pub returns-in_err-expect_namespaces : goal.returns-in_err-expect_namespaces
returns-in_err-expect_namespaces g c = rw c.from_residual-in_err-expect_namespaces.ensures (λ h. c.in_err-expect_namespaces.ensures h.2)

pub returns : goal.returns
returns g c = namespaced_found (g.V.Versions.meaning c.args.versions.now) c.expect_plural.result c.args.apis.now c.args.group.now c.args.namespaces.now c.args.plural.now c.in_ok-expect_apis.ensures c.in_ok-expect_group.ensures c.in_ok-expect_namespaces.ensures c.expect_plural.ensures
