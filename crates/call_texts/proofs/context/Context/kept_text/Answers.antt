use Rattle.std.proofs.Common.{ap}
use Rattle.form_cache.specs.Forms.{Forms}
use Rattle.call_texts.proofs.Caching.{found-shows, used-cached}
use Rattle.call_texts.proofs.context.Context.kept_text.Goals as goal

pub returns-clause-shows : goal.returns-clause-shows
returns-clause-shows g c = λ log w cached.
    found-shows (g.V.Versions.meaning c.args.self.now.versions.now) c.args.self.now.boot log c.args.v c.args.seen.now c.args.cache.now.forms c.found.result w c.found.ensures.text cached

pub returns-clause-cached : goal.returns-clause-cached
returns-clause-cached g c = λ log cached.
    used-cached (g.V.Versions.meaning c.args.self.now.versions.now) c.args.self.now.boot log c.args.seen.now.key c.args.seen.now.rv c.args.v c.args.cache.now c.found.new.cache c.found.ensures.cache cached

pub returns-clause-most : goal.returns-clause-most
returns-clause-most g c = ap (λ (x : Forms). x.most) c.found.ensures.cache
