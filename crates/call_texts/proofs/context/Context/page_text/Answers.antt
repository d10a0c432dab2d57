use Rattle.std.proofs.Common.{List, subst, sym, ◌∙◌}
use Rattle.std.specs.Prelude.{string_bytes}
use Rattle.api_calls.specs.Legal.{Each}
use Rattle.api_core.specs.declared.seen.Seen.{Seen}
use Rattle.call_texts.specs.Cached.{WasSeen}
use Rattle.call_texts.proofs.Paging.{page-shown}
use Rattle.call_texts.proofs.context.Context.page_text.Goals as goal

pub returns-clause-shows : goal.returns-clause-shows
returns-clause-shows g c = λ log were cached.
    let m = g.V.Versions.meaning c.args.self.now.versions.now in
    let here = subst (λ (ss : List Seen). Each (WasSeen m log) ss) (sym c.as_slice.ensures) were in
    let (js, shown, spelled) = page-shown m c.args.self.now.boot c.args.v c.as_slice.result.now c.args.page.now
    (string_bytes c.new-text.result) (string_bytes c.add_front.new.text) (string_bytes c.add_items.new.text) (string_bytes c.add_back.new.text) c.as_str.result.now
    c.as_slice.ensures c.new-text.ensures.bytes (c.as_str.ensures ∙ c.in_ok-token.ensures) c.in_ok-add_front.ensures (c.in_ok-add_items.ensures.added log here cached) c.in_ok-add_back.ensures in
    (js, shown, c.of_string.ensures ∙ spelled)

pub returns-clause-cached : goal.returns-clause-cached
returns-clause-cached g c = λ log were cached.
    c.add_items.ensures.cached log (subst (λ (ss : List Seen). Each (WasSeen (g.V.Versions.meaning c.args.self.now.versions.now) log) ss) (sym c.as_slice.ensures) were) cached

pub returns-in_err-add_items-clause-cached : goal.returns-in_err-add_items-clause-cached
returns-in_err-add_items-clause-cached g c = λ log were cached.
    c.add_items.ensures.cached log (subst (λ (ss : List Seen). Each (WasSeen (g.V.Versions.meaning c.args.self.now.versions.now) log) ss) (sym c.as_slice.ensures) were) cached

pub returns-in_err-add_back-clause-cached : goal.returns-in_err-add_back-clause-cached
returns-in_err-add_back-clause-cached g c = λ log were cached.
    c.add_items.ensures.cached log (subst (λ (ss : List Seen). Each (WasSeen (g.V.Versions.meaning c.args.self.now.versions.now) log) ss) (sym c.as_slice.ensures) were) cached
