use Rattle.api_calls.specs.Item.{items}
use Rattle.shared_api.specs.inner.Working.{first_of, item_or}
use Rattle.shared_api.proofs.worker.begin.Given as goal

abbrev pub ghosts-finish : goal.ghosts-finish
ghosts-finish g a = record { item = item_or (first_of (g.V.Versions.meaning a.cell.core.value.versions) (items a.pass.now.seat.me.0.seen) a.about.now).decision.item }
