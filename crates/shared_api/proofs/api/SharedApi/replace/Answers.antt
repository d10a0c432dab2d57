use Rattle.std.proofs.Common.{◌≡◌, ◌<◌, [], Some, ap, sym, subst, ◌∙◌}
use Rattle.api_calls.specs.Calls.{Told, replace}
use Rattle.api_calls.specs.Meaning.{Request}
use Rattle.call_texts.specs.Told.{told}
use Rattle.shared_api.specs.Answered.{CallsOn}
use Rattle.shared_api.specs.Base.{server_of}
use Rattle.shared_api.specs.Passes.{Known}
use Rattle.call_texts.specs.Places.{IsPlace}
use Rattle.shared_api.specs.declared.cell.CoreBase.{CoreBase}
use Rattle.shared_api.proofs.Turns.{is_of}
use Rattle.shared_api.proofs.api.SharedApi.replace.Goals as goal

pub replace_with-came-requires-clause-base : goal.replace_with-came-requires-clause-base
replace_with-came-requires-clause-base g c =
    let based : c.pass.inside.turn.seat.me.0.base ≡ Some c.args.self.now.base = ap (λ (k : Known (CoreBase g.row.V.Denot) g.row.V-Tool.Denot). k.view.base) c.pass.view_is ∙ c.requires.of.base in
    (c.args.self.now.base, based, c.given-lent.ensures.versions, c.given-lent.ensures.boot)

pub replace_with-came-requires-clause-key : goal.replace_with-came-requires-clause-key
replace_with-came-requires-clause-key g c = (c.ns.ensures.value, ap Some c.name.ensures.value)

pub returns-clause-answer : goal.returns-clause-answer
returns-clause-answer g c =
    let based : c.pass.inside.turn.seat.me.0.base ≡ Some c.args.self.now.base = ap (λ (k : Known (CoreBase g.row.V.Denot) g.row.V-Tool.Denot). k.view.base) c.pass.view_is ∙ c.requires.of.base in
    let key = c.args.key.now in
    let asked : Request = record { version = c.place_of-v.result; ns = c.ns.result.now; name = Some c.name.result.now; bytes = c.args.bytes.now } in
    let request : Request = record { version = c.place_of-v.result; ns = key.ns; name = Some key.name; bytes = c.args.bytes.now } in
    let one : asked ≡ request = (λ i. record { version = c.place_of-v.result; ns = c.ns.ensures.value i; name = Some (c.name.ensures.value i); bytes = c.args.bytes.now }) in
    let calls = c.replace_with-came.ensures.answer c.args.self.now.base based in
    let rose = g.V.Tool.Tool.faults c.pass.inside.tool < g.V.Tool.Tool.faults c.replace_with-came.new.tool in
    let here = subst
    (λ (t : Told). CallsOn (server_of g.V.Versions.meaning c.args.self.now.base) rose []
    c.pass.inside.turn.seat.me.0 c.replace_with-came.new.pass.seat.me.0 (replace asked key) t)
    (sym c.plain.ensures) calls in
    let named = subst
    (λ (q : Request). CallsOn (server_of g.V.Versions.meaning c.args.self.now.base) rose []
    c.pass.inside.turn.seat.me.0 c.replace_with-came.new.pass.seat.me.0 (replace q key) (told c.plain.result))
    one here in (
      c.place_of-v.result,
      subst (λ (x : g.row.V.Denot). IsPlace (g.V.Versions.meaning x) c.args.version.now c.place_of-v.result) c.given-lent.ensures.versions c.place_of-v.ensures,
      subst
          (λ (k : Known (CoreBase g.row.V.Denot) g.row.V-Tool.Denot).
          CallsOn (server_of g.V.Versions.meaning c.args.self.now.base) (g.V.Tool.Tool.faults k.tool < g.V.Tool.Tool.faults c.replace_with-came.new.tool) []
          k.view c.replace_with-came.new.pass.seat.me.0 (replace request key) (told c.plain.result))
          c.pass.view_is named,
    )

pub returns-clause-of : goal.returns-clause-of
unfolding returns-clause-answer
returns-clause-of g c =
    is_of g.V.Versions.meaning c.args.self.now c.args.pass.now
    (record { table = c.replace_with-came.new.pass.seat.table_id; view = c.replace_with-came.new.pass.seat.me.0; tool = c.replace_with-came.new.tool; forms = c.pass.inside.cache })
    (g.V.Tool.Tool.faults c.args.pass.now.tool < g.V.Tool.Tool.faults c.replace_with-came.new.tool) []
    (replace (record { version = c.place_of-v.result; ns = c.args.key.now.ns; name = Some c.args.key.now.name; bytes = c.args.bytes.now }) c.args.key.now) (told c.plain.result) c.requires.of
    (c.replace_with-came.ensures.own ∙ ap (λ (k : Known (CoreBase g.row.V.Denot) g.row.V-Tool.Denot). k.table) c.pass.view_is) (ap (λ (k : Known (CoreBase g.row.V.Denot) g.row.V-Tool.Denot). k.forms) c.pass.view_is) (returns-clause-answer g c).2
