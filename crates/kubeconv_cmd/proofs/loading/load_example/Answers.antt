use Rattle.kubeconv_cmd.proofs.Taking.{faultless}
use Rattle.kubeconv_cmd.proofs.loading.load_example.Goals as goal

pub unreachable-requires : goal.unreachable-requires
unreachable-requires c =
    let at = c.in-Err-Refused-Crd-default-default in
    faultless c.as_bytes.result.now c.as_bytes-2.result.now c.definition-definition.result.now c.rules-rules.result.now at.field-0 at.field-0-0 at.field-0-1 at.field-0-2
    c.as_bytes.ensures.value c.as_bytes-2.ensures.value
    (λ x. c.accepted.ensures.definition c.definition-definition.result.now x c.definition-definition.ensures)
    (λ x. c.accepted.ensures.rules c.definition-definition.result.now c.rules-rules.result.now x c.definition-definition.ensures c.rules-rules.ensures) at.ensures.refused at.field-0-is

pub unreachable-requires-in-Err-Refused-Rules-default-default : goal.unreachable-requires-in-Err-Refused-Rules-default-default
unreachable-requires-in-Err-Refused-Rules-default-default c =
    let at = c.in-Err-Refused-Rules-default-default in
    faultless c.as_bytes.result.now c.as_bytes-2.result.now c.definition-definition.result.now c.rules-rules.result.now at.field-0 at.field-0-0 at.field-0-1 at.field-0-2
    c.as_bytes.ensures.value c.as_bytes-2.ensures.value
    (λ x. c.accepted.ensures.definition c.definition-definition.result.now x c.definition-definition.ensures)
    (λ x. c.accepted.ensures.rules c.definition-definition.result.now c.rules-rules.result.now x c.definition-definition.ensures c.rules-rules.ensures) at.ensures.refused at.field-0-is
