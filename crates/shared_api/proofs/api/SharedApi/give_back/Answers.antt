use Rattle.std.proofs.Common.{◌≡◌, [], Some, ap, subst, sym, ◌∙◌}
use Rattle.api_calls.specs.Calls.{give_back, gave_back}
use Rattle.turn_cell.specs.declared.view.View.{View}
use Rattle.shared_api.specs.Answered.{CallsOn}
use Rattle.shared_api.specs.Base.{server_of}
use Rattle.shared_api.specs.Passes.{IsOf, Known}
use Rattle.shared_api.specs.declared.cell.CoreBase.{CoreBase}
use Rattle.shared_api.proofs.Caches.{calls-cached}
use Rattle.shared_api.proofs.api.SharedApi.give_back.Goals as goal

pub returns-clause-of : goal.returns-clause-of
returns-clause-of g c =
    let based : c.pass.inside.turn.seat.me.0.base ≡ Some c.args.self.now.base = ap (λ (k : Known (CoreBase g.row.V.Denot) g.row.V-Tool.Denot). k.view.base) c.pass.view_is ∙ c.requires.of.base in
    let gave = c.give_claim-held.ensures.answer c.args.self.now.base based in
    let inside = subst (λ (k : Known (CoreBase g.row.V.Denot) g.row.V-Tool.Denot). IsOf g.V.Versions.meaning c.args.self.now k) (sym c.pass.view_is) c.requires.of in
    record {
      table = c.give_claim-held.ensures.own ∙ ap (λ (k : Known (CoreBase g.row.V.Denot) g.row.V-Tool.Denot). k.table) c.pass.view_is ∙ c.requires.of.table;
      base = ap (λ (q : View (CoreBase g.row.V.Denot)). q.base) gave.turned.3 ∙ based;
      legal = gave.legal;
      cached = calls-cached (server_of g.V.Versions.meaning c.args.self.now.base) ⊥ [] c.pass.inside.turn.seat.me.0 c.give_claim-held.new.pass.seat.me.0 (give_back c.args.w.now.claim) (gave_back c.give_claim-held.result) c.pass.inside.cache.forms gave inside.cached;
      most = inside.most;
    }

pub returns-clause-answer : goal.returns-clause-answer
returns-clause-answer g c =
    let based : c.pass.inside.turn.seat.me.0.base ≡ Some c.args.self.now.base = ap (λ (k : Known (CoreBase g.row.V.Denot) g.row.V-Tool.Denot). k.view.base) c.pass.view_is ∙ c.requires.of.base in (
      c.give_claim-held.result,
      subst
          (λ (k : Known (CoreBase g.row.V.Denot) g.row.V-Tool.Denot).
          CallsOn (server_of g.V.Versions.meaning c.args.self.now.base) ⊥ [] k.view c.give_claim-held.new.pass.seat.me.0 (give_back c.args.w.now.claim) (gave_back c.give_claim-held.result))
          c.pass.view_is (c.give_claim-held.ensures.answer c.args.self.now.base based),
    )
