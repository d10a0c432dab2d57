use Rattle.api_calls.specs.Item.{items}
use Rattle.shared_api.specs.inner.Working.{second_of, item_or}
use Rattle.shared_api.proofs.worker.touch.Given as goal

abbrev pub ghosts-finish : goal.ghosts-finish
ghosts-finish g a = record {
  item = item_or (second_of (g.V.Versions.meaning a.cell.core.value.versions) (items a.pass.now.seat.me.0.seen) a.about.now.0
      a.about.now.2.value.key a.about.now.1 a.about.now.2.value.at).decision.item;
}
