use Rattle.std.proofs.Common.{◌≡◌, ◌<◌, None, Some, ap, sym, subst, ◌∙◌}
use Rattle.api_calls.specs.Calls.{Told, create}
use Rattle.api_calls.specs.Meaning.{Request}
use Rattle.call_texts.specs.Told.{told}
use Rattle.shared_api.specs.Answered.{CallsOn}
use Rattle.shared_api.specs.Base.{server_of}
use Rattle.shared_api.specs.Passes.{Known}
use Rattle.call_texts.specs.Places.{IsPlace}
use Rattle.shared_api.specs.declared.cell.CoreBase.{CoreBase}
use Rattle.shared_api.proofs.Turns.{is_of}
use Rattle.shared_api.proofs.api.SharedApi.create.Goals as goal

pub create_with-came-requires-clause-base : goal.create_with-came-requires-clause-base
create_with-came-requires-clause-base g c =
    let based : c.pass.inside.turn.seat.me.0.base ≡ Some c.args.self.now.base = ap (λ (k : Known (CoreBase g.row.V.Denot) g.row.V-Tool.Denot). k.view.base) c.pass.view_is ∙ c.requires.of.base in
    (c.args.self.now.base, based, c.given-lent.ensures.versions, c.given-lent.ensures.boot)

pub returns-clause-answer : goal.returns-clause-answer
returns-clause-answer g c =
    let based : c.pass.inside.turn.seat.me.0.base ≡ Some c.args.self.now.base = ap (λ (k : Known (CoreBase g.row.V.Denot) g.row.V-Tool.Denot). k.view.base) c.pass.view_is ∙ c.requires.of.base in
    let request : Request = record { version = c.place_of-v.result; ns = c.args.ns.now; name = None; bytes = c.args.bytes.now } in
    let calls = c.create_with-came.ensures.answer c.args.self.now.base based in
    let here = subst
    (λ (t : Told). CallsOn (server_of g.V.Versions.meaning c.args.self.now.base) (g.V.Tool.Tool.faults c.pass.inside.tool < g.V.Tool.Tool.faults c.create_with-came.new.tool) c.args.stamp.text
    c.pass.inside.turn.seat.me.0 c.create_with-came.new.pass.seat.me.0 (create request) t)
    (sym c.plain.ensures) calls in (
      c.place_of-v.result,
      subst (λ (x : g.row.V.Denot). IsPlace (g.V.Versions.meaning x) c.args.version.now c.place_of-v.result) c.given-lent.ensures.versions c.place_of-v.ensures,
      subst
          (λ (k : Known (CoreBase g.row.V.Denot) g.row.V-Tool.Denot).
          CallsOn (server_of g.V.Versions.meaning c.args.self.now.base) (g.V.Tool.Tool.faults k.tool < g.V.Tool.Tool.faults c.create_with-came.new.tool) c.args.stamp.text
          k.view c.create_with-came.new.pass.seat.me.0 (create request) (told c.plain.result))
          c.pass.view_is here,
    )

pub returns-clause-of : goal.returns-clause-of
unfolding returns-clause-answer
returns-clause-of g c =
    is_of g.V.Versions.meaning c.args.self.now c.args.pass.now
    (record { table = c.create_with-came.new.pass.seat.table_id; view = c.create_with-came.new.pass.seat.me.0; tool = c.create_with-came.new.tool; forms = c.pass.inside.cache })
    (g.V.Tool.Tool.faults c.args.pass.now.tool < g.V.Tool.Tool.faults c.create_with-came.new.tool) c.args.stamp.text
    (create (record { version = c.place_of-v.result; ns = c.args.ns.now; name = None; bytes = c.args.bytes.now })) (told c.plain.result) c.requires.of
    (c.create_with-came.ensures.own ∙ ap (λ (k : Known (CoreBase g.row.V.Denot) g.row.V-Tool.Denot). k.table) c.pass.view_is) (ap (λ (k : Known (CoreBase g.row.V.Denot) g.row.V-Tool.Denot). k.forms) c.pass.view_is) (returns-clause-answer g c).2
