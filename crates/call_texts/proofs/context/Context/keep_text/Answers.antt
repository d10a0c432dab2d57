use Rattle.std.proofs.Common.{◌≤◌, length}
use Rattle.form_cache.specs.Limits.{longest_text}
use Rattle.call_texts.proofs.Caching.{kept-cached, kept-most}
use Rattle.call_texts.proofs.context.Context.keep_text.Goals as goal

pub returns-then-i-lt-PASS_FORMS-clause-cached : goal.returns-then-i-lt-PASS_FORMS-clause-cached
returns-then-i-lt-PASS_FORMS-clause-cached g c = λ log w shown cached.
    kept-cached (g.V.Versions.meaning c.args.self.now.versions.now) c.args.self.now.boot log c.args.v c.args.seen.now c.args.text.bytes c.args.cache.now c.keep.new.cache w c.keep.ensures shown cached

pub returns-then-i-lt-PASS_FORMS-clause-most : goal.returns-then-i-lt-PASS_FORMS-clause-most
returns-then-i-lt-PASS_FORMS-clause-most g c =
    kept-most (record { key = c.args.seen.now.key; number = c.args.seen.now.rv; version = c.args.v; text = c.args.text.bytes }) c.args.cache.now c.keep.new.cache
    (length c.args.text.bytes ≤ longest_text) c.keep.ensures
