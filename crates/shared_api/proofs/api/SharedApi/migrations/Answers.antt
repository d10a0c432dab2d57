use Rattle.std.proofs.Common.{◌≡◌, [], Some, ap, subst, ◌∙◌}
use Rattle.api_calls.specs.Calls.{migrations}
use Rattle.call_texts.specs.Told.{decided, told}
use Rattle.shared_api.specs.Answered.{CallsOn}
use Rattle.shared_api.specs.Base.{server_of}
use Rattle.shared_api.specs.Passes.{Known}
use Rattle.shared_api.specs.declared.cell.CoreBase.{CoreBase}
use Rattle.shared_api.proofs.MigrationLooks.{migrations_calls}
use Rattle.shared_api.proofs.Turns.{is_of}
use Rattle.shared_api.proofs.api.SharedApi.migrations.Goals as goal

pub returns-clause-answer : goal.returns-clause-answer
returns-clause-answer g c =
    let based : c.pass.inside.turn.seat.me.0.base ≡ Some c.args.self.now.base = ap (λ (k : Known (CoreBase g.row.V.Denot) g.row.V-Tool.Denot). k.view.base) c.pass.view_is ∙ c.requires.of.base in
    let looked = c.look_migrations-looked.ensures.looks c.args.self.now.base based in
    let calls = migrations_calls g.V.Versions.meaning c.args.self.now.base c.given-lent.result.versions.now c.pass.inside.turn.seat.me.0 c.look_migrations-looked.new.pass.seat.me.0
    c.look_migrations-looked.result (decided c.all_migrations.result) (told c.plain.result) c.given-lent.ensures.versions looked c.all_migrations.ensures c.plain.ensures in
    subst (λ (k : Known (CoreBase g.row.V.Denot) g.row.V-Tool.Denot). CallsOn (server_of g.V.Versions.meaning c.args.self.now.base) ⊥ [] k.view c.look_migrations-looked.new.pass.seat.me.0 migrations (told c.plain.result))
    c.pass.view_is calls

pub returns-clause-of : goal.returns-clause-of
returns-clause-of g c =
    is_of g.V.Versions.meaning c.args.self.now c.args.pass.now
    (record { table = c.look_migrations-looked.new.pass.seat.table_id; view = c.look_migrations-looked.new.pass.seat.me.0; tool = c.pass.inside.tool; forms = c.pass.inside.cache })
    ⊥ [] migrations (told c.plain.result) c.requires.of
    (c.look_migrations-looked.ensures.own ∙ ap (λ (k : Known (CoreBase g.row.V.Denot) g.row.V-Tool.Denot). k.table) c.pass.view_is) (ap (λ (k : Known (CoreBase g.row.V.Denot) g.row.V-Tool.Denot). k.forms) c.pass.view_is) (returns-clause-answer g c)
