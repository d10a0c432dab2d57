use Rattle.std.proofs.Common.{◌∙◌}
use Rattle.built_in.specs.Texts.{definition_text, rules_text}
use Rattle.kubeconv_cmd.proofs.Taking.{faultless}
use Rattle.kubeconv_cmd.proofs.loading.load_built_in.Goals as goal

pub unreachable-requires : goal.unreachable-requires
unreachable-requires c =
    let at = c.in-Err-Refused-Crd-default-default in
    faultless c.as_bytes.result.now c.as_bytes-2.result.now definition_text rules_text at.field-0 at.field-0-0 at.field-0-1 at.field-0-2
    (c.as_bytes.ensures.value ∙ c.definition-definition.ensures) (c.as_bytes-2.ensures.value ∙ c.rules-rules.ensures)
    c.accepted.ensures.definition c.accepted.ensures.rules at.ensures.refused at.field-0-is

pub unreachable-requires-in-Err-Refused-Rules-default-default : goal.unreachable-requires-in-Err-Refused-Rules-default-default
unreachable-requires-in-Err-Refused-Rules-default-default c =
    let at = c.in-Err-Refused-Rules-default-default in
    faultless c.as_bytes.result.now c.as_bytes-2.result.now definition_text rules_text at.field-0 at.field-0-0 at.field-0-1 at.field-0-2
    (c.as_bytes.ensures.value ∙ c.definition-definition.ensures) (c.as_bytes-2.ensures.value ∙ c.rules-rules.ensures)
    c.accepted.ensures.definition c.accepted.ensures.rules at.ensures.refused at.field-0-is
