use Rattle.shared_api.proofs.Working.{none-seen}
use Rattle.shared_api.proofs.worker.asked.Goals as goal

pub returns-in-None : goal.returns-in-None
returns-in-None g c = λ log claim stands told.
    absurd (none-seen (g.V.Versions.meaning c.args.core.now.versions) c.args.core.now.view.limits log claim c.args.key.now c.args.rv c.in-Ok.peeked stands.legal told
    (c.in-Ok.ensures.sees log stands) c.in-None.is)
