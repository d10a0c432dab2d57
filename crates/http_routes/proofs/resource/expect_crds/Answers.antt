use Rattle.http_routes.proofs.Nothing.{crds_found}
use Rattle.http_routes.proofs.resource.expect_crds.Goals as goal

pub returns-in_err-expect_apis : goal.returns-in_err-expect_apis
returns-in_err-expect_apis c = rw c.from_residual.ensures (λ h. c.in_err-expect_apis.ensures h.0)

pub returns-in_err-expect_crd_group : goal.returns-in_err-expect_crd_group
returns-in_err-expect_crd_group c = rw c.from_residual-in_err-expect_crd_group.ensures (λ h. c.in_err-expect_crd_group.ensures h.1)

pub returns-in_err-expect_crd_version : goal.returns-in_err-expect_crd_version
returns-in_err-expect_crd_version c = rw c.from_residual-in_err-expect_crd_version.ensures (λ h. c.in_err-expect_crd_version.ensures h.2)

pub returns : goal.returns
returns c = crds_found c.expect_crds.result c.args.apis.now c.args.group.now c.args.version.now c.args.crds.now c.in_ok-expect_apis.ensures c.in_ok-expect_crd_group.ensures c.in_ok-expect_crd_version.ensures c.expect_crds.ensures
