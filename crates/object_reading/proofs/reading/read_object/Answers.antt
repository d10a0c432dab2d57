use Rattle.std.proofs.Common.{◌≡◌, None, sym, subst}
use Rattle.std.specs.Prelude.{IfOk, IfErr}
use Rattle.kj_value.specs.Seen.{json}
use Rattle.kj_value.specs.Fields.{Pairs}
use Rattle.kj_value.specs.declared.value.JVal.{JVal}
use Rattle.kube_meta.specs.View.{object_of}
use Rattle.object_reading.specs.Parts.{object_in, parts_in, submitted}
use Rattle.object_reading.specs.Refusal.{refusal, first_holding, judged, Tells}
use Rattle.object_reading.proofs.Lists.{pairs_members}
use Rattle.object_reading.proofs.reading.read_object.Goals as goal

pub returns-in-Obj-clause-accepted : goal.returns-in-Obj-clause-accepted
unfolding refusal
returns-in-Obj-clause-accepted c =
    subst (λ (d : JVal). IfOk c.read_fields.result (λ _. refusal c.args.kind.now (json d) ≡ None)) (sym c.in-Obj.is)
    (subst (λ (es : Pairs). IfOk c.read_fields.result (λ _. first_holding (judged c.args.kind.now es) ≡ None)) (sym (pairs_members c.in-Obj.fields)) c.read_fields.ensures.accepted)

pub returns-in-Obj-clause-object : goal.returns-in-Obj-clause-object
returns-in-Obj-clause-object c =
    subst (λ (d : JVal). IfOk c.read_fields.result (λ o. object_of o ≡ object_in (json d))) (sym c.in-Obj.is)
    (subst (λ (es : Pairs). IfOk c.read_fields.result (λ o. object_of o ≡ submitted (parts_in es))) (sym (pairs_members c.in-Obj.fields)) c.read_fields.ensures.object)

pub returns-in-Obj-clause-rules : goal.returns-in-Obj-clause-rules
returns-in-Obj-clause-rules c = c.read_fields.ensures.rules

pub returns-in-Obj-clause-whole : goal.returns-in-Obj-clause-whole
returns-in-Obj-clause-whole c = c.read_fields.ensures.whole

pub returns-in-Obj-clause-refused : goal.returns-in-Obj-clause-refused
unfolding refusal
returns-in-Obj-clause-refused c =
    subst (λ (d : JVal). IfErr c.read_fields.result (λ e. Tells e (refusal c.args.kind.now (json d)))) (sym c.in-Obj.is)
    (subst (λ (es : Pairs). IfErr c.read_fields.result (λ e. Tells e (first_holding (judged c.args.kind.now es)))) (sym (pairs_members c.in-Obj.fields)) c.read_fields.ensures.refused)
