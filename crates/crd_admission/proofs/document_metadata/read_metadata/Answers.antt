use Rattle.object_reading.proofs.Lists.{pairs_members}
use Rattle.crd_admission.proofs.document_metadata.read_metadata.Goals as goal

pub returns-in-Obj-clause-nothing : goal.returns-in-Obj-clause-nothing
returns-in-Obj-clause-nothing c = rw (c.in-Obj.is, pairs_members c.in-Obj.fields) c.read_fields.ensures.nothing

pub returns-in-Obj-clause-meta : goal.returns-in-Obj-clause-meta
returns-in-Obj-clause-meta c = rw (c.in-Obj.is, pairs_members c.in-Obj.fields) c.read_fields.ensures.meta

pub returns-in-Obj-clause-refused : goal.returns-in-Obj-clause-refused
returns-in-Obj-clause-refused c = rw (c.in-Obj.is, pairs_members c.in-Obj.fields) c.read_fields.ensures.refused
