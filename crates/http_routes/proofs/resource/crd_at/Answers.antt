use Rattle.http_routes.proofs.Nothing.{nothing_six, not_both}
use Rattle.http_routes.proofs.resource.crd_at.Goals as goal

pub returns-in_err-expect_crd_name-in-Some-clause-names : goal.returns-in_err-expect_crd_name-in-Some-clause-names
returns-in_err-expect_crd_name-in-Some-clause-names g c = rw c.from_residual.ensures (nothing_six (g.V.Versions.meaning c.args.versions.now) c.args.apis.now c.args.group.now c.args.version.now c.args.resource.now c.args.name.now (λ h p. c.in_err-expect_crd_name-in-Some.ensures p) (λ h p. not_both c.args.apis.now c.args.group.now c.args.version.now c.args.resource.now c.in-Some.ensures h))
