use Rattle.std.proofs.Common.{refl, subst}
use Rattle.std.specs.Prelude.{IfOk, Result}
use Rattle.api_calls.specs.Legal.{Each}
use Rattle.api_calls.specs.Reply.{reply_of}
use Rattle.api_core.specs.Pages.{ShowsPage}
use Rattle.api_core.specs.declared.page_ends.Page.{Page}
use Rattle.api_core.specs.declared.page_ends.PageFault.{PageFault}
use Rattle.call_texts.specs.Cached.{WasSeen}
use Rattle.call_texts.proofs.Paging.{page-reply}
use Rattle.call_texts.proofs.context.Context.listed.Goals as goal

pub returns-clause-came : goal.returns-clause-came
returns-clause-came g c = λ log d were cached shows refuses.
    let m = g.V.Versions.meaning c.args.self.now.versions.now in
    let keeps = subst (λ (r : Result Page PageFault). IfOk r (λ p. ShowsPage m p d)) c.in_ok-page.was shows in
    let here = subst (λ (r : Result Page PageFault). IfOk r (λ p. Each (WasSeen m log) p.items)) c.in_ok-page.was were in
    (refl, page-reply m c.args.self.now.boot c.args.v c.in_ok-page.page d (reply_of (record { code = 200; text = c.in_ok-text.text })) keeps refl (c.in_ok-text.ensures.shows log here cached))

pub returns-clause-cached : goal.returns-clause-cached
returns-clause-cached g c = λ log were cached.
    c.page_text.ensures.cached log (subst (λ (r : Result Page PageFault). IfOk r (λ p. Each (WasSeen (g.V.Versions.meaning c.args.self.now.versions.now) log) p.items)) c.in_ok-page.was were) cached

pub returns-in_err-text-clause-cached : goal.returns-in_err-text-clause-cached
returns-in_err-text-clause-cached g c = λ log were cached.
    c.page_text.ensures.cached log (subst (λ (r : Result Page PageFault). IfOk r (λ p. Each (WasSeen (g.V.Versions.meaning c.args.self.now.versions.now) log) p.items)) c.in_ok-page.was were) cached
