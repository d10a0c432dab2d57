use Rattle.http_routes.proofs.Nothing.{nothing_eight}
use Rattle.http_routes.proofs.Named.{names_object}
use Rattle.http_routes.proofs.resource.object_at.Goals as goal

pub returns-in_err-expect_namespaced-clause-names : goal.returns-in_err-expect_namespaced-clause-names
returns-in_err-expect_namespaced-clause-names g c = rw c.from_residual.ensures (nothing_eight (g.V.Versions.meaning c.args.versions.now) c.args.apis.now c.args.group.now c.args.version.now c.args.namespaces.now c.args.namespace.now c.args.plural.now c.args.name.now (λ h n o. c.in_err-expect_namespaced.ensures h))

pub returns-in_err-namespace-clause-names : goal.returns-in_err-namespace-clause-names
returns-in_err-namespace-clause-names g c = rw c.from_residual-in_err-namespace.ensures (nothing_eight (g.V.Versions.meaning c.args.versions.now) c.args.apis.now c.args.group.now c.args.version.now c.args.namespaces.now c.args.namespace.now c.args.plural.now c.args.name.now (λ h n o. c.in_err-namespace.ensures.text n))

pub returns-in_err-name-clause-names : goal.returns-in_err-name-clause-names
returns-in_err-name-clause-names g c = rw c.from_residual-in_err-name.ensures (nothing_eight (g.V.Versions.meaning c.args.versions.now) c.args.apis.now c.args.group.now c.args.version.now c.args.namespaces.now c.args.namespace.now c.args.plural.now c.args.name.now (λ h n o. c.in_err-name.ensures.text o))

pub returns-clause-names : goal.returns-clause-names
returns-clause-names g c = names_object (g.V.Versions.meaning c.args.versions.now) c.args.apis.now c.args.group.now c.args.version.now c.args.namespaces.now c.args.namespace.now c.args.plural.now c.args.name.now c.in_ok-namespace.namespace.now c.in_ok-name.name.now c.in_ok-expect_namespaced.ensures c.in_ok-namespace.ensures.text c.in_ok-name.ensures.text
