use Rattle.kubeconv_cmd.proofs.Taking.{no_rules}
use Rattle.kubeconv_cmd.proofs.loading.load_text.Goals as goal

pub unreachable-requires : goal.unreachable-requires
unreachable-requires g c =
    let at = c.in-Err-Refused-Rules-default-default in
    no_rules c.as_bytes.result.now c.args.hub.now at.field-0 at.field-0-0 at.field-0-1 at.field-0-2 at.ensures.refused at.field-0-is at.field-0-0-is
