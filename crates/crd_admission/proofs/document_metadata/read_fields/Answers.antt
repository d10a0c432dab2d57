use Rattle.std.proofs.Common.{None, ap, ◌∙◌}
use Rattle.kube_meta.specs.View.{MetaView}
use Rattle.crd_admission.proofs.document_metadata.read_fields.Goals as goal

pub returns-in-Ok-clause-meta : goal.returns-in-Ok-clause-meta
returns-in-Ok-clause-meta c = c.numberless.ensures ∙ ap (λ (m : MetaView). record m { resource_version = None }) c.in-Ok.ensures.meta
