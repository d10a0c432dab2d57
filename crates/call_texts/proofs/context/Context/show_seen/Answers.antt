use Rattle.std.proofs.Common.{Option, subst}
use Rattle.std.specs.Prelude.{IfSome}
use Rattle.kj_value.specs.Txt.{Bytes}
use Rattle.call_texts.proofs.Caching.{ShowsIt, shows-object}
use Rattle.call_texts.proofs.context.Context.show_seen.Goals as goal

pub returns-clause-shows : goal.returns-clause-shows
returns-clause-shows g c = λ log w cached.
    shows-object (g.V.Versions.meaning c.args.self.now.versions.now) c.args.self.now.boot log c.args.v c.args.seen.now c.in_ok-text.text.bytes w c.in_ok-text.ensures.shows

pub returns-clause-cached : goal.returns-clause-cached
returns-clause-cached g c = λ log w cached.
    let m = g.V.Versions.meaning c.args.self.now.versions.now in
    c.keep_copy.ensures.cached log w (shows-object m c.args.self.now.boot log c.args.v c.args.seen.now c.in_ok-text.text.bytes w c.in_ok-text.ensures.shows) (c.kept_text.ensures.cached log cached)

pub returns-in_err-kept-clause-cached : goal.returns-in_err-kept-clause-cached
returns-in_err-kept-clause-cached g c = λ log w cached. c.kept_text.ensures.cached log cached

pub returns-in-Some-clause-shows : goal.returns-in-Some-clause-shows
returns-in-Some-clause-shows g c = λ log w cached.
    let m = g.V.Versions.meaning c.args.self.now.versions.now in
    subst (λ (o : Option Bytes). IfSome o (λ b. ShowsIt m c.args.self.now.boot log c.args.v c.args.seen.now w b.bytes)) c.in-Some.is (c.in_ok-kept.ensures.shows log w cached)

pub returns-in-Some-clause-cached : goal.returns-in-Some-clause-cached
returns-in-Some-clause-cached g c = λ log w cached. c.kept_text.ensures.cached log cached

pub returns-in_err-text-clause-cached : goal.returns-in_err-text-clause-cached
returns-in_err-text-clause-cached g c = λ log w cached. c.kept_text.ensures.cached log cached
