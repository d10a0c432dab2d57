use Rattle.std.proofs.Common.{◌∙◌, sym}
use Rattle.std.specs.Prelude.{option_copied}
use Rattle.std.specs.Arc.{arc_value}
use Rattle.api_core.specs.Pages.{place_of}
use Rattle.api_core.proofs.SettingTurns.{shown}
use Rattle.api_core.proofs.PageTurns.{page-present, page-past}
use Rattle.api_core.proofs.present.Core.page.Goals as goal

pub returns-in_default-clause-shows : goal.returns-in_default-clause-shows
returns-in_default-clause-shows g c =
    let x = shown (arc_value c.self.inside.versions) c.self.inside.limits c.self.inside.boot c.self.inside.flags c.self.inside.stored c.self.inside.revision c.self.inside.store c.self.inside.migrations in
    let may = sym c.is_served.ensures.served ∙ c.if-not-is_served.false in
    let now = rw (← c.self.view_is) at c.present_number-number.ensures.revision in
    let known = rw (← c.self.view_is) at c.present_number-number.ensures.known in
    let page = rw (← c.self.view_is) at c.in_ok-page.ensures in
    rw (← c.self.view_is, c.in_default.is) (λ log stands.
    page-present g.V.Versions.meaning c.page_of_history.ensures.page x log stands c.args.v (option_copied c.args.ns) c.present_number-number.result c.args.limit c.in_ok-page.page may now known page)

pub returns-clause-shows : goal.returns-clause-shows
returns-clause-shows g c =
    let x = shown (arc_value c.self.inside.versions) c.self.inside.limits c.self.inside.boot c.self.inside.flags c.self.inside.stored c.self.inside.revision c.self.inside.store c.self.inside.migrations in
    let may = sym c.is_served.ensures.served ∙ c.if-not-is_served.false in
    let known = rw c.floor-floor.ensures at c.if-token-floor.false in
    let page = rw (← c.self.view_is) at c.in_ok-page-2.ensures in
    rw (← c.self.view_is, c.in-Some.is) (λ log stands.
    page-past g.V.Versions.meaning c.page_of_history.ensures.page x log stands c.args.v (option_copied c.args.ns) c.args.limit (place_of c.in-Some.token.now) c.in_ok-page-2.page may c.if-revision-token.false known page)
