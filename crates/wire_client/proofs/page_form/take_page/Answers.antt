use Rattle.std.proofs.Common.{sym}
use Rattle.kj_value.specs.Seen.{json}
use Rattle.wire_client.proofs.PageFaults.{page_levels}
use Rattle.wire_client.proofs.page_form.take_page.Goals as goal

pub returns-clause-levels : goal.returns-clause-levels
returns-clause-levels c = page_levels (json c.args.body) c.in-Some.fields c.in-Some-take_items.items (sym c.in-Some.ensures) (sym c.in-Some-take_items.ensures)
