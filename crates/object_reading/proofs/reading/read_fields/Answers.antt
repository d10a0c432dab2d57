use Rattle.std.proofs.Common.{◌≡◌, ◌∙◌, sym, subst}
use Rattle.kube_meta.specs.View.{ObjectView, object_of}
use Rattle.object_reading.specs.Keeping.{KeepsRules}
use Rattle.object_reading.specs.Parts.{parts_in, submitted}
use Rattle.object_reading.specs.Refusal.{judged}
use Rattle.object_reading.specs.Written.{IsWritable}
use Rattle.object_reading.proofs.FromFields.{rules_read}
use Rattle.object_reading.proofs.Holding.{none_holds}
use Rattle.object_reading.proofs.reading.read_fields.Goals as goal

pub returns-clause-rules : goal.returns-clause-rules
returns-clause-rules c =
    let same : object_of c.submitted.result ≡ submitted (parts_in c.args.fields) = c.submitted.ensures ∙ c.in_ok-o.ensures.submitted in
    subst (λ (x : ObjectView). KeepsRules x.meta) (sym same)
    (rules_read c.args.kind.now c.args.fields (none_holds (judged c.args.kind.now c.args.fields) c.in_ok-judge.ensures.accepted))

pub returns-clause-whole : goal.returns-clause-whole
returns-clause-whole c =
    subst IsWritable (sym c.submitted.ensures) (record { body = c.in_ok-o.ensures.body; created = tt; deleted = tt })

pub returns-clause-accepted : goal.returns-clause-accepted
returns-clause-accepted c = c.in_ok-judge.ensures.accepted

pub returns-clause-object : goal.returns-clause-object
returns-clause-object c = c.submitted.ensures ∙ c.in_ok-o.ensures.submitted
