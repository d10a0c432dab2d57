use Rattle.std.proofs.Common.{ap, subst, sym, rules}
use Rattle.api_calls.specs.Item.{items}
use Rattle.call_texts.specs.Cached.{AreCached}
use Rattle.form_cache.specs.Forms.{Forms}
use Rattle.form_cache.specs.Limits.{forms_of_a_pass}
use Rattle.turn_cell.specs.declared.view.View.{View}
use Rattle.shared_api.specs.Passes.{IsOf, Known}
use Rattle.shared_api.specs.declared.cell.CoreBase.{CoreBase}
use Rattle.shared_api.proofs.Caches.{none-cached}
use Rattle.shared_api.proofs.api.SharedApi.new_pass.Goals as goal

pub returns-clause-of : goal.returns-clause-of
returns-clause-of g c =
    let inside = subst (λ (k : Known (CoreBase g.row.V.Denot) g.row.V-Tool.Denot). IsOf g.V.Versions.meaning c.args.self.now k) (sym c.from.view_is) c.requires.of in (
      record {
        table = search rules;
        base = search rules;
        legal = search rules;
        cached = subst (λ (q : View (CoreBase g.row.V.Denot)). AreCached (g.V.Versions.meaning c.args.self.now.base.versions) c.args.self.now.base.boot (items q.seen) c.from.inside.cache.forms)
            (sym c.new_pass.ensures.left) inside.cached;
        most = inside.most;
      },
      record {
        table = search rules;
        base = search rules;
        legal = search rules;
        cached = none-cached _ _ _ c.in_ok-cache.cache forms_of_a_pass c.in_ok-cache.ensures;
        most = ap (λ (f : Forms). f.most) c.in_ok-cache.ensures;
      },
    )
