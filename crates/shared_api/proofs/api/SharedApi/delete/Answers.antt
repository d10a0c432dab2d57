use Rattle.std.proofs.Common.{◌≡◌, ◌∙◌, ◌<◌, Some, Err, ap, sym, subst}
use Rattle.api_calls.specs.Bodies.{IsServedDelete}
use Rattle.api_calls.specs.Calls.{Told, answered, delete}
use Rattle.api_calls.specs.Refusal.{no_memory, refusal_of}
use Rattle.call_texts.specs.Told.{decided, told}
use Rattle.shared_api.specs.Answered.{CallsOn}
use Rattle.shared_api.specs.Base.{server_of}
use Rattle.shared_api.specs.Passes.{Known}
use Rattle.call_texts.specs.Places.{IsPlace}
use Rattle.shared_api.specs.declared.cell.CoreBase.{CoreBase}
use Rattle.shared_api.proofs.DeleteEnds.{delete_calls, memory_calls, options_calls}
use Rattle.shared_api.proofs.Turns.{is_of}
use Rattle.shared_api.proofs.api.SharedApi.delete.Goals as goal

pub delete_with-requires-clause-base : goal.delete_with-requires-clause-base
delete_with-requires-clause-base g c =
    let based : c.pass.inside.turn.seat.me.0.base ≡ Some c.args.self.now.base = ap (λ (k : Known (CoreBase g.row.V.Denot) g.row.V-Tool.Denot). k.view.base) c.pass.view_is ∙ c.requires.of.base in
    (c.args.self.now.base, based, c.given-lent.ensures.versions, c.given-lent.ensures.boot)

pub returns-in-Ok-false-clause-answer : goal.returns-in-Ok-false-clause-answer
returns-in-Ok-false-clause-answer g c =
    let based : c.pass.inside.turn.seat.me.0.base ≡ Some c.args.self.now.base = ap (λ (k : Known (CoreBase g.row.V.Denot) g.row.V-Tool.Denot). k.view.base) c.pass.view_is ∙ c.requires.of.base in
    let s = server_of g.V.Versions.meaning c.args.self.now.base in
    let v = c.pass.inside.turn.seat.me.0 in
    let z = c.settle.new.pass.seat.me.0 in
    let at = c.place_of-v.result in
    let k = c.args.key.now in
    let body = c.args.bytes.now in
    let stamp = c.args.stamp.text in
    let rose = g.V.Tool.Tool.faults c.pass.inside.tool < g.V.Tool.Tool.faults c.pass.inside.tool in
    let never : IsServedDelete body → ⊥ = (λ serves. let yes = c.in-Ok-false.ensures.1 serves in let no = c.in-Ok-false.field-0-test in cc) in
    let calls = options_calls s rose v z c.settle.result.0 c.settle.result.1 at k body stamp c.is_served.result (refusal_of c.unserved_options.result)
    (c.settle.ensures.settles c.args.self.now.base based) never c.is_served.ensures.served c.unserved_options.ensures in (
      at,
      subst (λ (x : g.row.V.Denot). IsPlace (g.V.Versions.meaning x) c.args.version.now at) c.given-lent.ensures.versions c.place_of-v.ensures,
      subst
          (λ (q : Known (CoreBase g.row.V.Denot) g.row.V-Tool.Denot). CallsOn s (g.V.Tool.Tool.faults q.tool < g.V.Tool.Tool.faults c.pass.inside.tool) stamp q.view z (delete at k body) (answered (Err (refusal_of c.unserved_options.result))))
          c.pass.view_is calls,
    )

pub returns-in-Ok-false-clause-of : goal.returns-in-Ok-false-clause-of
unfolding returns-in-Ok-false-clause-answer
returns-in-Ok-false-clause-of g c =
    is_of g.V.Versions.meaning c.args.self.now c.args.pass.now
    (record { table = c.settle.new.pass.seat.table_id; view = c.settle.new.pass.seat.me.0; tool = c.pass.inside.tool; forms = c.pass.inside.cache })
    (g.V.Tool.Tool.faults c.args.pass.now.tool < g.V.Tool.Tool.faults c.pass.inside.tool) c.args.stamp.text
    (delete c.place_of-v.result c.args.key.now c.args.bytes.now) (answered (Err (refusal_of c.unserved_options.result))) c.requires.of
    (c.settle.ensures.own ∙ ap (λ (k : Known (CoreBase g.row.V.Denot) g.row.V-Tool.Denot). k.table) c.pass.view_is) (ap (λ (k : Known (CoreBase g.row.V.Denot) g.row.V-Tool.Denot). k.forms) c.pass.view_is) (returns-in-Ok-false-clause-answer g c).2

pub returns-in-Err-clause-answer : goal.returns-in-Err-clause-answer
returns-in-Err-clause-answer g c =
    let based : c.pass.inside.turn.seat.me.0.base ≡ Some c.args.self.now.base = ap (λ (k : Known (CoreBase g.row.V.Denot) g.row.V-Tool.Denot). k.view.base) c.pass.view_is ∙ c.requires.of.base in
    let s = server_of g.V.Versions.meaning c.args.self.now.base in
    let v = c.pass.inside.turn.seat.me.0 in
    let z = c.settle-settings.new.pass.seat.me.0 in
    let at = c.place_of-v.result in
    let k = c.args.key.now in
    let body = c.args.bytes.now in
    let stamp = c.args.stamp.text in
    let rose = g.V.Tool.Tool.faults c.pass.inside.tool < g.V.Tool.Tool.faults c.pass.inside.tool in
    let calls = memory_calls s rose v z c.settle-settings.result.0 c.settle-settings.result.1 at k body stamp (c.settle-settings.ensures.settles c.args.self.now.base based) in (
      at,
      subst (λ (x : g.row.V.Denot). IsPlace (g.V.Versions.meaning x) c.args.version.now at) c.given-lent.ensures.versions c.place_of-v.ensures,
      subst
          (λ (q : Known (CoreBase g.row.V.Denot) g.row.V-Tool.Denot). CallsOn s (g.V.Tool.Tool.faults q.tool < g.V.Tool.Tool.faults c.pass.inside.tool) stamp q.view z (delete at k body) (answered (Err no_memory)))
          c.pass.view_is calls,
    )

pub returns-in-Err-clause-of : goal.returns-in-Err-clause-of
unfolding returns-in-Err-clause-answer
returns-in-Err-clause-of g c =
    is_of g.V.Versions.meaning c.args.self.now c.args.pass.now
    (record { table = c.settle-settings.new.pass.seat.table_id; view = c.settle-settings.new.pass.seat.me.0; tool = c.pass.inside.tool; forms = c.pass.inside.cache })
    (g.V.Tool.Tool.faults c.args.pass.now.tool < g.V.Tool.Tool.faults c.pass.inside.tool) c.args.stamp.text
    (delete c.place_of-v.result c.args.key.now c.args.bytes.now) (answered (Err no_memory)) c.requires.of
    (c.settle-settings.ensures.own ∙ ap (λ (k : Known (CoreBase g.row.V.Denot) g.row.V-Tool.Denot). k.table) c.pass.view_is) (ap (λ (k : Known (CoreBase g.row.V.Denot) g.row.V-Tool.Denot). k.forms) c.pass.view_is) (returns-in-Err-clause-answer g c).2

pub returns-clause-answer : goal.returns-clause-answer
returns-clause-answer g c =
    let based : c.pass.inside.turn.seat.me.0.base ≡ Some c.args.self.now.base = ap (λ (k : Known (CoreBase g.row.V.Denot) g.row.V-Tool.Denot). k.view.base) c.pass.view_is ∙ c.requires.of.base in
    let s = server_of g.V.Versions.meaning c.args.self.now.base in
    let v = c.pass.inside.turn.seat.me.0 in
    let z = c.delete_with.new.pass.seat.me.0 in
    let at = c.place_of-v.result in
    let k = c.args.key.now in
    let body = c.args.bytes.now in
    let stamp = c.args.stamp.text in
    let rose = g.V.Tool.Tool.faults c.pass.inside.tool < g.V.Tool.Tool.faults c.delete_with.new.tool in
    let serves : IsServedDelete body = c.in-Ok-true.ensures.0 c.in-Ok-true.field-0-test in
    let came = delete_calls s rose v z at k body stamp (decided c.delete_with.result) serves (c.delete_with.ensures.came c.args.self.now.base based) in
    let calls = subst (λ (t : Told). CallsOn s rose stamp v z (delete at k body) t) (sym c.plain.ensures) came in (
      at,
      subst (λ (x : g.row.V.Denot). IsPlace (g.V.Versions.meaning x) c.args.version.now at) c.given-lent.ensures.versions c.place_of-v.ensures,
      subst
          (λ (q : Known (CoreBase g.row.V.Denot) g.row.V-Tool.Denot). CallsOn s (g.V.Tool.Tool.faults q.tool < g.V.Tool.Tool.faults c.delete_with.new.tool) stamp q.view z (delete at k body) (told c.plain.result))
          c.pass.view_is calls,
    )

pub returns-clause-of : goal.returns-clause-of
unfolding returns-clause-answer
returns-clause-of g c =
    is_of g.V.Versions.meaning c.args.self.now c.args.pass.now
    (record { table = c.delete_with.new.pass.seat.table_id; view = c.delete_with.new.pass.seat.me.0; tool = c.delete_with.new.tool; forms = c.pass.inside.cache })
    (g.V.Tool.Tool.faults c.args.pass.now.tool < g.V.Tool.Tool.faults c.delete_with.new.tool) c.args.stamp.text
    (delete c.place_of-v.result c.args.key.now c.args.bytes.now) (told c.plain.result) c.requires.of
    (c.delete_with.ensures.own ∙ ap (λ (k : Known (CoreBase g.row.V.Denot) g.row.V-Tool.Denot). k.table) c.pass.view_is) (ap (λ (k : Known (CoreBase g.row.V.Denot) g.row.V-Tool.Denot). k.forms) c.pass.view_is) (returns-clause-answer g c).2
