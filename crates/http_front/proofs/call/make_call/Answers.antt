use Rattle.std.proofs.Common.{ℕ, [], None, Some, ap, arith}
use Rattle.api_calls.specs.Calls.{get, list, create, replace, delete, group, crd, set_versions, trim, start, migration, migrations, raw}
use Rattle.http_routes.specs.Views.{bytes_in, place_of}
use Rattle.shared_api.specs.Base.{server_of}
use Rattle.http_front.proofs.Calling.{placed, token_place, untooled}
use Rattle.http_front.proofs.call.make_call.Goals as goal

pub returns-in-Get-clause-calls : goal.returns-in-Get-clause-calls
returns-in-Get-clause-calls g c =
    rw c.in-Get.is (
      c.stamp-stamp.result.text,
      (c.stamp-stamp.ensures.told, c.stamp-stamp.ensures.form),
      placed (server_of g.V.Versions.meaning c.args.api.now.base) _ [] c.stamp-stamp.result.text _ _ c.in-Get.version c.name_at.result.now
          (λ (w : ℕ). get w c.in-Get.key) _ (g.met.V.Versions.names c.args.api.now.base.versions)
          ((rw c.in-Get.is at c.requires.may)) c.name_at.ensures (λ log u j d. d) c.get.ensures.answer,
    )

pub returns-in-List-clause-calls : goal.returns-in-List-clause-calls
returns-in-List-clause-calls g c =
    rw c.in-List.is (
      c.stamp-stamp.result.text,
      (c.stamp-stamp.ensures.told, c.stamp-stamp.ensures.form),
      placed (server_of g.V.Versions.meaning c.args.api.now.base) _ [] c.stamp-stamp.result.text _ _ c.in-List.version c.name_at-in-List.result.now
          (λ (w : ℕ). list w (bytes_in c.in-List.namespace) c.in-List.limit (place_of c.in-List.from)) _ (g.met.V.Versions.names c.args.api.now.base.versions)
          ((rw c.in-List.is at c.requires.may)) c.name_at-in-List.ensures (λ log u j d. d) (rw (c.namespace_of.ensures, c.token_of.ensures, token_place) at c.list.ensures.answer),
    )

pub returns-in-Create-clause-calls : goal.returns-in-Create-clause-calls
returns-in-Create-clause-calls g c =
    rw c.in-Create.is (
      c.stamp-stamp.result.text,
      (c.stamp-stamp.ensures.told, c.stamp-stamp.ensures.form),
      placed (server_of g.V.Versions.meaning c.args.api.now.base) _ c.stamp-stamp.result.text c.stamp-stamp.result.text _ _ c.in-Create.version c.name_at-in-Create.result.now
          (λ (w : ℕ). create (record { version = w; ns = c.in-Create.namespace.bytes; name = None; bytes = c.in-Create.body.now })) _ (g.met.V.Versions.names c.args.api.now.base.versions)
          ((rw c.in-Create.is at c.requires.may).0) c.name_at-in-Create.ensures (λ log u j d. d) (rw c.as_str.ensures at c.create.ensures.answer),
    )

pub replace-requires-clause-ns : goal.replace-requires-clause-ns
replace-requires-clause-ns g c = (rw c.in-Replace.is at c.requires.may).1

pub returns-in-Replace-clause-calls : goal.returns-in-Replace-clause-calls
returns-in-Replace-clause-calls g c =
    rw c.in-Replace.is (
      c.stamp-stamp.result.text,
      (c.stamp-stamp.ensures.told, c.stamp-stamp.ensures.form),
      placed (server_of g.V.Versions.meaning c.args.api.now.base) _ [] c.stamp-stamp.result.text _ _ c.in-Replace.version c.name_at-in-Replace.result.now
          (λ (w : ℕ). replace (record { version = w; ns = c.in-Replace.key.ns; name = Some c.in-Replace.key.name; bytes = c.in-Replace.body.now }) c.in-Replace.key) _ (g.met.V.Versions.names c.args.api.now.base.versions)
          ((rw c.in-Replace.is at c.requires.may).0) c.name_at-in-Replace.ensures (λ log u j d. d) c.replace.ensures.answer,
    )

pub returns-in-Delete-clause-calls : goal.returns-in-Delete-clause-calls
returns-in-Delete-clause-calls g c =
    rw c.in-Delete.is (
      c.stamp-stamp.result.text,
      (c.stamp-stamp.ensures.told, c.stamp-stamp.ensures.form),
      placed (server_of g.V.Versions.meaning c.args.api.now.base) _ c.stamp-stamp.result.text c.stamp-stamp.result.text _ _ c.in-Delete.version c.name_at-in-Delete.result.now
          (λ (w : ℕ). delete w c.in-Delete.key c.in-Delete.body.now) _ (g.met.V.Versions.names c.args.api.now.base.versions)
          ((rw c.in-Delete.is at c.requires.may)) c.name_at-in-Delete.ensures (λ log u j d. d) c.delete.ensures.answer,
    )

pub returns-in-Group-clause-calls : goal.returns-in-Group-clause-calls
returns-in-Group-clause-calls g c =
    rw c.in-Group.is (
      c.stamp-stamp.result.text,
      (c.stamp-stamp.ensures.told, c.stamp-stamp.ensures.form),
      untooled (server_of g.V.Versions.meaning c.args.api.now.base) _ c.stamp-stamp.result.text _ _ group _ (λ log u j d. d) c.group_doc.ensures.answer,
    )

pub returns-in-Crd-clause-calls : goal.returns-in-Crd-clause-calls
returns-in-Crd-clause-calls g c =
    rw c.in-Crd.is (
      c.stamp-stamp.result.text,
      (c.stamp-stamp.ensures.told, c.stamp-stamp.ensures.form),
      untooled (server_of g.V.Versions.meaning c.args.api.now.base) _ c.stamp-stamp.result.text _ _ crd _ (λ log u j d. d) c.crd.ensures.answer,
    )

pub returns-in-SetVersions-clause-calls : goal.returns-in-SetVersions-clause-calls
returns-in-SetVersions-clause-calls g c =
    rw c.in-SetVersions.is (
      c.stamp-stamp.result.text,
      (c.stamp-stamp.ensures.told, c.stamp-stamp.ensures.form),
      untooled (server_of g.V.Versions.meaning c.args.api.now.base) _ c.stamp-stamp.result.text _ _ (set_versions c.in-SetVersions.body.now) _ (λ log u j d. d) c.set_versions.ensures.answer,
    )

pub returns-in-Trim-clause-calls : goal.returns-in-Trim-clause-calls
returns-in-Trim-clause-calls g c =
    rw c.in-Trim.is (
      c.stamp-stamp.result.text,
      (c.stamp-stamp.ensures.told, c.stamp-stamp.ensures.form),
      untooled (server_of g.V.Versions.meaning c.args.api.now.base) _ c.stamp-stamp.result.text _ _ (trim c.in-Trim.body.now) _ (λ log u j d. d) c.trim.ensures.answer,
    )

pub returns-in-Start-clause-calls : goal.returns-in-Start-clause-calls
returns-in-Start-clause-calls g c =
    rw c.in-Start.is (
      c.stamp-stamp.result.text,
      (c.stamp-stamp.ensures.told, c.stamp-stamp.ensures.form),
      untooled (server_of g.V.Versions.meaning c.args.api.now.base) _ c.stamp-stamp.result.text _ _ (start c.in-Start.body.now) _ (λ log u j d. d) c.start_migration.ensures.answer,
    )

pub returns-in-Migration-clause-calls : goal.returns-in-Migration-clause-calls
returns-in-Migration-clause-calls g c =
    rw c.in-Migration.is (
      c.stamp-stamp.result.text,
      (c.stamp-stamp.ensures.told, c.stamp-stamp.ensures.form),
      untooled (server_of g.V.Versions.meaning c.args.api.now.base) _ c.stamp-stamp.result.text _ _ (migration c.in-Migration.name.bytes) _ (λ log u j d. d) (rw c.as_str-in-Migration.ensures at c.migration.ensures.answer),
    )

pub returns-in-Migrations-clause-calls : goal.returns-in-Migrations-clause-calls
returns-in-Migrations-clause-calls g c =
    rw c.in-Migrations.is (
      c.stamp-stamp.result.text,
      (c.stamp-stamp.ensures.told, c.stamp-stamp.ensures.form),
      untooled (server_of g.V.Versions.meaning c.args.api.now.base) _ c.stamp-stamp.result.text _ _ migrations _ (λ log u j d. d) c.migrations.ensures.answer,
    )

pub returns-in-Raw-clause-calls : goal.returns-in-Raw-clause-calls
returns-in-Raw-clause-calls g c =
    rw c.in-Raw.is (
      c.stamp-stamp.result.text,
      (c.stamp-stamp.ensures.told, c.stamp-stamp.ensures.form),
      untooled (server_of g.V.Versions.meaning c.args.api.now.base) _ c.stamp-stamp.result.text _ _ (raw c.in-Raw.key) _ (λ log u j d. d) c.raw.ensures.answer,
    )

pub returns-in-Get-clause-of : goal.returns-in-Get-clause-of
returns-in-Get-clause-of g c = c.get.ensures.of

pub returns-in-Get-clause-rises : goal.returns-in-Get-clause-rises
returns-in-Get-clause-rises g c = c.get.ensures.rises

pub returns-in-List-clause-of : goal.returns-in-List-clause-of
returns-in-List-clause-of g c = c.list.ensures.of

pub returns-in-List-clause-rises : goal.returns-in-List-clause-rises
returns-in-List-clause-rises g c = c.list.ensures.rises

pub returns-in-Create-clause-of : goal.returns-in-Create-clause-of
returns-in-Create-clause-of g c = c.create.ensures.of

pub returns-in-Create-clause-rises : goal.returns-in-Create-clause-rises
returns-in-Create-clause-rises g c = c.create.ensures.rises

pub returns-in-Replace-clause-of : goal.returns-in-Replace-clause-of
returns-in-Replace-clause-of g c = c.replace.ensures.of

pub returns-in-Replace-clause-rises : goal.returns-in-Replace-clause-rises
returns-in-Replace-clause-rises g c = c.replace.ensures.rises

pub returns-in-Delete-clause-of : goal.returns-in-Delete-clause-of
returns-in-Delete-clause-of g c = c.delete.ensures.of

pub returns-in-Delete-clause-rises : goal.returns-in-Delete-clause-rises
returns-in-Delete-clause-rises g c = c.delete.ensures.rises

pub returns-in-Group-clause-of : goal.returns-in-Group-clause-of
returns-in-Group-clause-of g c = c.group_doc.ensures.of

pub returns-in-Group-clause-rises : goal.returns-in-Group-clause-rises
returns-in-Group-clause-rises g c = omega (arith, ap g.V.Tool.Tool.faults c.group_doc.ensures.tool)

pub returns-in-Crd-clause-of : goal.returns-in-Crd-clause-of
returns-in-Crd-clause-of g c = c.crd.ensures.of

pub returns-in-Crd-clause-rises : goal.returns-in-Crd-clause-rises
returns-in-Crd-clause-rises g c = omega (arith, ap g.V.Tool.Tool.faults c.crd.ensures.tool)

pub returns-in-SetVersions-clause-of : goal.returns-in-SetVersions-clause-of
returns-in-SetVersions-clause-of g c = c.set_versions.ensures.of

pub returns-in-SetVersions-clause-rises : goal.returns-in-SetVersions-clause-rises
returns-in-SetVersions-clause-rises g c = omega (arith, ap g.V.Tool.Tool.faults c.set_versions.ensures.tool)

pub returns-in-Trim-clause-of : goal.returns-in-Trim-clause-of
returns-in-Trim-clause-of g c = c.trim.ensures.of

pub returns-in-Trim-clause-rises : goal.returns-in-Trim-clause-rises
returns-in-Trim-clause-rises g c = omega (arith, ap g.V.Tool.Tool.faults c.trim.ensures.tool)

pub returns-in-Start-clause-of : goal.returns-in-Start-clause-of
returns-in-Start-clause-of g c = c.start_migration.ensures.of

pub returns-in-Start-clause-rises : goal.returns-in-Start-clause-rises
returns-in-Start-clause-rises g c = omega (arith, ap g.V.Tool.Tool.faults c.start_migration.ensures.tool)

pub returns-in-Migration-clause-of : goal.returns-in-Migration-clause-of
returns-in-Migration-clause-of g c = c.migration.ensures.of

pub returns-in-Migration-clause-rises : goal.returns-in-Migration-clause-rises
returns-in-Migration-clause-rises g c = omega (arith, ap g.V.Tool.Tool.faults c.migration.ensures.tool)

pub returns-in-Migrations-clause-of : goal.returns-in-Migrations-clause-of
returns-in-Migrations-clause-of g c = c.migrations.ensures.of

pub returns-in-Migrations-clause-rises : goal.returns-in-Migrations-clause-rises
returns-in-Migrations-clause-rises g c = omega (arith, ap g.V.Tool.Tool.faults c.migrations.ensures.tool)

pub returns-in-Raw-clause-of : goal.returns-in-Raw-clause-of
returns-in-Raw-clause-of g c = c.raw.ensures.of

pub returns-in-Raw-clause-rises : goal.returns-in-Raw-clause-rises
returns-in-Raw-clause-rises g c = omega (arith, ap g.V.Tool.Tool.faults c.raw.ensures.tool)

pub name_at-requires : goal.name_at-requires
name_at-requires g c = rw c.in-Get.is at c.requires.may

pub name_at-requires-in-List : goal.name_at-requires-in-List
name_at-requires-in-List g c = rw c.in-List.is at c.requires.may

pub name_at-requires-in-Create : goal.name_at-requires-in-Create
name_at-requires-in-Create g c = (rw c.in-Create.is at c.requires.may).0

pub name_at-requires-in-Replace : goal.name_at-requires-in-Replace
name_at-requires-in-Replace g c = (rw c.in-Replace.is at c.requires.may).0

pub name_at-requires-in-Delete : goal.name_at-requires-in-Delete
name_at-requires-in-Delete g c = rw c.in-Delete.is at c.requires.may
