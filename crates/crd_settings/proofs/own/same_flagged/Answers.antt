use Rattle.crd_settings.proofs.Compared.{flagged_differ}
use Rattle.crd_settings.proofs.own.same_flagged.Goals as goal

pub returns-then-given-own : goal.returns-then-given-own
returns-then-given-own c = flagged_differ _ _ _ c.if-given-own.true
