use Rattle.std.proofs.Common.{◌≡◌, ℕ, List, [], Err, Some, ap, sym, subst, ◌∙◌}
use Rattle.api_calls.specs.Bodies.{Starts}
use Rattle.api_calls.specs.Calls.{answered, start}
use Rattle.api_calls.specs.Refusal.{refusal_of}
use Rattle.api_core.specs.Ends.{start_end}
use Rattle.call_texts.specs.Told.{decided, told}
use Rattle.shared_api.specs.Answered.{CallsOn}
use Rattle.shared_api.specs.Base.{server_of}
use Rattle.shared_api.specs.Passes.{Known}
use Rattle.shared_api.specs.declared.cell.CoreBase.{CoreBase}
use Rattle.shared_api.proofs.StartCalls.{start_calls, start_refused}
use Rattle.shared_api.proofs.Turns.{is_of}
use Rattle.shared_api.proofs.api.SharedApi.start_migration.Goals as goal

pub returns-in-Err-clause-answer : goal.returns-in-Err-clause-answer
returns-in-Err-clause-answer g c =
    let based : c.pass.inside.turn.seat.me.0.base ≡ Some c.args.self.now.base = ap (λ (k : Known (CoreBase g.row.V.Denot) g.row.V-Tool.Denot). k.view.base) c.pass.view_is ∙ c.requires.of.base in
    let calls = start_refused g.V.Versions.meaning c.args.self.now.base c.given-lent.result.versions.now c.pass.inside.turn.seat.me.0 c.settle-settings.new.pass.seat.me.0
    c.args.bytes.now c.settle-settings.result.0 c.settle-settings.result.1 (refusal_of c.in-Err.refused.refusal) c.given-lent.ensures.versions
    (c.settle-settings.ensures.settles c.args.self.now.base based) c.in-Err.ensures.refused in
    subst (λ (k : Known (CoreBase g.row.V.Denot) g.row.V-Tool.Denot). CallsOn (server_of g.V.Versions.meaning c.args.self.now.base) ⊥ [] k.view c.settle-settings.new.pass.seat.me.0
    (start c.args.bytes.now) (answered (Err (refusal_of c.in-Err.refused.refusal)))) c.pass.view_is calls

pub returns-clause-answer : goal.returns-clause-answer
returns-clause-answer g c =
    let based : c.pass.inside.turn.seat.me.0.base ≡ Some c.args.self.now.base = ap (λ (k : Known (CoreBase g.row.V.Denot) g.row.V-Tool.Denot). k.view.base) c.pass.view_is ∙ c.requires.of.base in
    let starts = subst (λ (name : List ℕ). Starts (g.V.Versions.meaning c.given-lent.result.versions.now) c.args.bytes.now name) (sym c.in-Ok.ensures.copy) c.in-Ok.ensures.starts in
    let calls = start_calls g.V.Versions.meaning c.args.self.now.base c.given-lent.result.versions.now c.pass.inside.turn.seat.me.0 c.start-end.new.pass.seat.me.0
    c.args.bytes.now c.in-Ok.read.1.bytes (start_end c.start-end.result) (decided c.started.result) (told c.plain.result)
    c.given-lent.ensures.versions starts (c.start-end.ensures.begins c.args.self.now.base based) c.started.ensures.came c.plain.ensures in
    subst (λ (k : Known (CoreBase g.row.V.Denot) g.row.V-Tool.Denot). CallsOn (server_of g.V.Versions.meaning c.args.self.now.base) ⊥ [] k.view c.start-end.new.pass.seat.me.0
    (start c.args.bytes.now) (told c.plain.result)) c.pass.view_is calls

pub returns-in-Err-clause-of : goal.returns-in-Err-clause-of
returns-in-Err-clause-of g c =
    is_of g.V.Versions.meaning c.args.self.now c.args.pass.now
    (record { table = c.settle-settings.new.pass.seat.table_id; view = c.settle-settings.new.pass.seat.me.0; tool = c.pass.inside.tool; forms = c.pass.inside.cache })
    ⊥ [] (start c.args.bytes.now) (answered (Err (refusal_of c.in-Err.refused.refusal))) c.requires.of
    (c.settle-settings.ensures.own ∙ ap (λ (k : Known (CoreBase g.row.V.Denot) g.row.V-Tool.Denot). k.table) c.pass.view_is) (ap (λ (k : Known (CoreBase g.row.V.Denot) g.row.V-Tool.Denot). k.forms) c.pass.view_is) (returns-in-Err-clause-answer g c)

pub returns-clause-of : goal.returns-clause-of
returns-clause-of g c =
    is_of g.V.Versions.meaning c.args.self.now c.args.pass.now
    (record { table = c.start-end.new.pass.seat.table_id; view = c.start-end.new.pass.seat.me.0; tool = c.pass.inside.tool; forms = c.pass.inside.cache })
    ⊥ [] (start c.args.bytes.now) (told c.plain.result) c.requires.of
    (c.start-end.ensures.own ∙ ap (λ (k : Known (CoreBase g.row.V.Denot) g.row.V-Tool.Denot). k.table) c.pass.view_is) (ap (λ (k : Known (CoreBase g.row.V.Denot) g.row.V-Tool.Denot). k.forms) c.pass.view_is) (returns-clause-answer g c)
