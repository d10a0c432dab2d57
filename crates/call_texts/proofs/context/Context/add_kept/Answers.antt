use Rattle.std.proofs.Common.{ap}
use Rattle.std.specs.Prelude.{string_bytes}
use Rattle.form_cache.specs.Forms.{Forms}
use Rattle.call_texts.proofs.Caching.{added-shows, used-cached}
use Rattle.call_texts.proofs.context.Context.add_kept.Goals as goal

pub returns-clause-shows : goal.returns-clause-shows
returns-clause-shows g c = λ log w cached.
    added-shows (g.V.Versions.meaning c.args.self.now.versions.now) c.args.self.now.boot log c.args.v c.args.seen.now c.args.cache.now.forms c.add_found.result
    (string_bytes c.args.text.now) (string_bytes c.add_found.new.text) w c.add_found.ensures.text cached

pub returns-clause-cached : goal.returns-clause-cached
returns-clause-cached g c = λ log cached.
    used-cached (g.V.Versions.meaning c.args.self.now.versions.now) c.args.self.now.boot log c.args.seen.now.key c.args.seen.now.rv c.args.v c.args.cache.now c.add_found.new.cache c.add_found.ensures.cache cached

pub returns-clause-most : goal.returns-clause-most
returns-clause-most g c = ap (λ (x : Forms). x.most) c.add_found.ensures.cache
