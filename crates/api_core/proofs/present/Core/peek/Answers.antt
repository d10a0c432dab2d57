use Rattle.api_core.specs.laws.PairLaws.{pairs-find}
use Rattle.api_core.proofs.present.Core.peek.Goals as goal

pub returns-clause-sees : goal.returns-clause-sees
returns-clause-sees g c =
    let found = rw (← c.self.view_is) at c.in_ok-found.ensures in
    rw (← c.self.view_is) (λ log stands. record {
      flags = stands.present.flags;
      revision = stands.revision;
      found = rw found (pairs-find _ c.args.key.now _ _ stands.present.records);
    })
