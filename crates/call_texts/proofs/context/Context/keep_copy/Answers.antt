use Rattle.std.proofs.Common.{List, ℕ, subst, sym, ◌∙◌}
use Rattle.call_texts.proofs.Caching.{ShowsIt}
use Rattle.call_texts.proofs.context.Context.keep_copy.Goals as goal

pub returns-clause-cached : goal.returns-clause-cached
returns-clause-cached g c = λ log w shown cached.
    c.keep_text.ensures.cached log w
    (subst (λ (t : List ℕ). ShowsIt (g.V.Versions.meaning c.args.self.now.versions.now) c.args.self.now.boot log c.args.v c.args.seen.now w t) (sym (c.in-Ok.ensures ∙ c.as_str.ensures)) shown)
    cached
