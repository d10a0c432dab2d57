use Rattle.std.proofs.Common.{◌∙◌}
use Rattle.std.specs.Prelude.{option_copied, option_map}
use Rattle.api_core.specs.Pages.{place_of}
use Rattle.shared_api.proofs.PageLooks.{looks_page}
use Rattle.shared_api.proofs.look_page.look_page.Goals as goal

pub returns-clause-looks : goal.returns-clause-looks
returns-clause-looks g c b is =
    let t = c.take-cell.ensures.taken in
    let core = c.take-cell.result.core.value in
    let m = g.V.Versions.meaning core.versions in
    looks_page g.V.Versions.meaning core b c.args.pass.now.seat.me.0 c.take-cell.new.pass.seat.me.0 c.give.new.pass.seat.me.0 c.args.v (option_copied c.args.ns) c.args.limit
    (option_map place_of (option_copied c.args.token)) c.page-page.result c.settings-revision.result.0
    t.2 is t.0 t.4 t.1 t.3 c.give.ensures.given (rw c.deref-2.ensures at c.page-page.ensures.shows) (rw c.deref-2.ensures at c.page-page.ensures.refuses) (rw c.deref.ensures at c.settings-revision.ensures.flags)
    (λ may. c.is_served-served.ensures.known m.count (rw c.deref.ensures at c.settings-revision.ensures.are_flags) (c.is_served-served.ensures.served ∙ may))
