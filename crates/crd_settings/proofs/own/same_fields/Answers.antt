use Rattle.crd_settings.proofs.Compared.{fields_differ}
use Rattle.crd_settings.proofs.own.same_fields.Goals as goal

pub returns-then-given-own : goal.returns-then-given-own
returns-then-given-own c = fields_differ _ _ _ c.if-given-own.true
