use Rattle.http_routes.proofs.Nothing.{nothing_seven, not_namespaced}
use Rattle.http_routes.proofs.resource.collection_at.Goals as goal

pub returns-in_err-expect_crd_name-in-Some-clause-names : goal.returns-in_err-expect_crd_name-in-Some-clause-names
returns-in_err-expect_crd_name-in-Some-clause-names g c = rw c.from_residual.ensures (nothing_seven (g.V.Versions.meaning c.args.versions.now) c.args.apis.now c.args.group.now c.args.version.now c.args.fourth.now c.args.fifth.now c.args.last.now (λ h p q. c.in_err-expect_crd_name-in-Some.ensures p) (λ h n. not_namespaced (g.V.Versions.meaning c.args.versions.now) c.args.apis.now c.args.group.now c.args.version.now c.args.fourth.now c.args.last.now c.in-Some.ensures h))

pub returns-in_err-expect_status-in-Some-clause-names : goal.returns-in_err-expect_status-in-Some-clause-names
returns-in_err-expect_status-in-Some-clause-names g c = rw c.from_residual-in_err-expect_status-in-Some.ensures (nothing_seven (g.V.Versions.meaning c.args.versions.now) c.args.apis.now c.args.group.now c.args.version.now c.args.fourth.now c.args.fifth.now c.args.last.now (λ h p q. c.in_err-expect_status-in-Some.ensures q) (λ h n. not_namespaced (g.V.Versions.meaning c.args.versions.now) c.args.apis.now c.args.group.now c.args.version.now c.args.fourth.now c.args.last.now c.in-Some.ensures h))
