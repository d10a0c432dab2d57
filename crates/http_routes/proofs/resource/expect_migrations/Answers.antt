use Rattle.http_routes.proofs.Nothing.{migrations_found}
use Rattle.http_routes.proofs.resource.expect_migrations.Goals as goal

pub returns-in_err-expect_apis : goal.returns-in_err-expect_apis
returns-in_err-expect_apis c = rw c.from_residual.ensures (λ h. c.in_err-expect_apis.ensures h.0)

pub returns-in_err-expect_migration_group : goal.returns-in_err-expect_migration_group
returns-in_err-expect_migration_group c = rw c.from_residual-in_err-expect_migration_group.ensures (λ h. c.in_err-expect_migration_group.ensures h.1)

pub returns-in_err-expect_migration_version : goal.returns-in_err-expect_migration_version
returns-in_err-expect_migration_version c = rw c.from_residual-in_err-expect_migration_version.ensures (λ h. c.in_err-expect_migration_version.ensures h.2)

pub returns : goal.returns
returns c = migrations_found c.expect_migrations.result c.args.apis.now c.args.group.now c.args.version.now c.args.migrations.now c.in_ok-expect_apis.ensures c.in_ok-expect_migration_group.ensures c.in_ok-expect_migration_version.ensures c.expect_migrations.ensures
