use Rattle.std.proofs.Common.{◌≡◌, [], Some, ap, subst, ◌∙◌}
use Rattle.api_calls.specs.Calls.{crd}
use Rattle.call_texts.specs.Told.{decided, told}
use Rattle.shared_api.specs.Answered.{CallsOn}
use Rattle.shared_api.specs.Base.{server_of}
use Rattle.shared_api.specs.Passes.{Known}
use Rattle.shared_api.specs.declared.cell.CoreBase.{CoreBase}
use Rattle.shared_api.proofs.Turns.{is_of, crd_calls}
use Rattle.shared_api.proofs.api.SharedApi.crd.Goals as goal

pub returns-clause-answer : goal.returns-clause-answer
returns-clause-answer g c =
    let based : c.pass.inside.turn.seat.me.0.base ≡ Some c.args.self.now.base = ap (λ (k : Known (CoreBase g.row.V.Denot) g.row.V-Tool.Denot). k.view.base) c.pass.view_is ∙ c.requires.of.base in
    let looked = c.settle.ensures.settles c.args.self.now.base based in
    let calls = crd_calls g.V.Versions.meaning c.args.self.now.base c.given-lent.result.versions.now c.pass.inside.turn.seat.me.0 c.settle.new.pass.seat.me.0
    c.settle.result.0 c.settle.result.1 (decided c.definition.result) (told c.plain.result) c.given-lent.ensures.versions looked c.definition.ensures.came c.plain.ensures in
    subst (λ (k : Known (CoreBase g.row.V.Denot) g.row.V-Tool.Denot). CallsOn (server_of g.V.Versions.meaning c.args.self.now.base) ⊥ [] k.view c.settle.new.pass.seat.me.0 crd (told c.plain.result))
    c.pass.view_is calls

pub returns-clause-of : goal.returns-clause-of
returns-clause-of g c =
    is_of g.V.Versions.meaning c.args.self.now c.args.pass.now
    (record { table = c.settle.new.pass.seat.table_id; view = c.settle.new.pass.seat.me.0; tool = c.pass.inside.tool; forms = c.pass.inside.cache })
    ⊥ [] crd (told c.plain.result) c.requires.of
    (c.settle.ensures.own ∙ ap (λ (k : Known (CoreBase g.row.V.Denot) g.row.V-Tool.Denot). k.table) c.pass.view_is) (ap (λ (k : Known (CoreBase g.row.V.Denot) g.row.V-Tool.Denot). k.forms) c.pass.view_is) (returns-clause-answer g c)
