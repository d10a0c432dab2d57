use Rattle.std.proofs.Common.{subst, sym, rules}
use Rattle.shared_api.specs.Passes.{IsOf, Known}
use Rattle.shared_api.specs.declared.cell.CoreBase.{CoreBase}
use Rattle.shared_api.proofs.Caches.{prefix-cached}
use Rattle.shared_api.proofs.api.SharedApi.meet.Goals as goal

pub returns-clause-of : goal.returns-clause-of
returns-clause-of g c =
    let inside = subst (λ (k : Known (CoreBase g.row.V.Denot) g.row.V-Tool.Denot). IsOf g.V.Versions.meaning c.args.self.now k) (sym c.into.view_is) c.requires.of.0 in
    record {
      table = search rules;
      base = search rules;
      legal = search rules;
      cached = prefix-cached (g.V.Versions.meaning c.args.self.now.base.versions) c.args.self.now.base.boot c.into.inside.cache.forms c.into.inside.turn.seat.me.0.seen c.meet.new.into.seat.me.0.seen
          c.meet.ensures.met.1.0 inside.cached;
      most = inside.most;
    }
