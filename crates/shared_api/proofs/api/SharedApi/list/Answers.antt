use Rattle.std.proofs.Common.{◌≡◌, ◌<◌, [], Some, ap, subst, sym, ◌∙◌}
use Rattle.std.specs.Prelude.{option_copied, option_map}
use Rattle.api_calls.specs.Calls.{list}
use Rattle.api_core.specs.Pages.{place_of as token_place}
use Rattle.call_texts.specs.Told.{decided, told}
use Rattle.shared_api.specs.Answered.{CallsOn}
use Rattle.shared_api.specs.Base.{server_of}
use Rattle.shared_api.specs.Passes.{IsOf, Known}
use Rattle.call_texts.specs.Places.{IsPlace}
use Rattle.shared_api.specs.declared.cell.CoreBase.{CoreBase}
use Rattle.shared_api.proofs.PageLooks.{list_calls}
use Rattle.shared_api.proofs.Caches.{list-cached}
use Rattle.shared_api.proofs.Turns.{is_of_with}
use Rattle.shared_api.proofs.api.SharedApi.list.Goals as goal

pub returns-clause-answer : goal.returns-clause-answer
returns-clause-answer g c =
    let based : c.pass.inside.turn.seat.me.0.base ≡ Some c.args.self.now.base = ap (λ (k : Known (CoreBase g.row.V.Denot) g.row.V-Tool.Denot). k.view.base) c.pass.view_is ∙ c.requires.of.base in
    let looked = c.look_page-looked.ensures.looks c.args.self.now.base based in
    let inside = subst (λ (k : Known (CoreBase g.row.V.Denot) g.row.V-Tool.Denot). IsOf g.V.Versions.meaning c.args.self.now k) (sym c.pass.view_is) c.requires.of in
    let ns = option_copied c.args.ns in
    let token = option_map token_place (option_copied c.args.token) in
    let calls = list_calls g.V.Versions.meaning c.args.self.now.base c.given-lent.result.versions.now c.given-lent.result.boot
    (g.V.Tool.Tool.faults c.pass.inside.tool < g.V.Tool.Tool.faults c.listed.new.tool) c.pass.inside.turn.seat.me.0 c.look_page-looked.new.pass.seat.me.0 c.place_of-v.result ns c.args.limit token
    c.look_page-looked.result (decided c.listed.result) (told c.plain.result) c.pass.inside.cache.forms c.given-lent.ensures.versions c.given-lent.ensures.boot looked inside.cached c.listed.ensures.came c.plain.ensures in (
      c.place_of-v.result,
      subst (λ (x : g.row.V.Denot). IsPlace (g.V.Versions.meaning x) c.args.version.now c.place_of-v.result) c.given-lent.ensures.versions c.place_of-v.ensures,
      subst
          (λ (k : Known (CoreBase g.row.V.Denot) g.row.V-Tool.Denot).
          CallsOn (server_of g.V.Versions.meaning c.args.self.now.base) (g.V.Tool.Tool.faults k.tool < g.V.Tool.Tool.faults c.listed.new.tool) []
          k.view c.look_page-looked.new.pass.seat.me.0 (list c.place_of-v.result ns c.args.limit token) (told c.plain.result))
          c.pass.view_is calls,
    )

pub returns-clause-of : goal.returns-clause-of
unfolding returns-clause-answer
returns-clause-of g c =
    let based : c.pass.inside.turn.seat.me.0.base ≡ Some c.args.self.now.base = ap (λ (k : Known (CoreBase g.row.V.Denot) g.row.V-Tool.Denot). k.view.base) c.pass.view_is ∙ c.requires.of.base in
    let looked = c.look_page-looked.ensures.looks c.args.self.now.base based in
    let inside = subst (λ (k : Known (CoreBase g.row.V.Denot) g.row.V-Tool.Denot). IsOf g.V.Versions.meaning c.args.self.now k) (sym c.pass.view_is) c.requires.of in
    is_of_with g.V.Versions.meaning c.args.self.now c.args.pass.now
    (record { table = c.look_page-looked.new.pass.seat.table_id; view = c.look_page-looked.new.pass.seat.me.0; tool = c.listed.new.tool; forms = c.listed.new.cache })
    (g.V.Tool.Tool.faults c.args.pass.now.tool < g.V.Tool.Tool.faults c.listed.new.tool) []
    (list c.place_of-v.result (option_copied c.args.ns) c.args.limit (option_map token_place (option_copied c.args.token))) (told c.plain.result) c.requires.of
    (c.look_page-looked.ensures.own ∙ ap (λ (k : Known (CoreBase g.row.V.Denot) g.row.V-Tool.Denot). k.table) c.pass.view_is)
    (list-cached g.V.Versions.meaning c.args.self.now.base c.given-lent.result.versions.now c.given-lent.result.boot c.pass.inside.turn.seat.me.0 c.look_page-looked.new.pass.seat.me.0 c.place_of-v.result (option_copied c.args.ns) c.args.limit
    (option_map token_place (option_copied c.args.token)) c.look_page-looked.result c.pass.inside.cache.forms c.listed.new.cache.forms c.given-lent.ensures.versions c.given-lent.ensures.boot looked c.listed.ensures.cached inside.cached)
    (c.listed.ensures.most ∙ ap (λ (k : Known (CoreBase g.row.V.Denot) g.row.V-Tool.Denot). k.forms.most) c.pass.view_is) (returns-clause-answer g c).2
