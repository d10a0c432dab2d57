use Rattle.api_calls.proofs.Fields.{depth-status_of}
use Rattle.api_calls.proofs.status.status_text.Goals as goal

pub write-requires : goal.write-requires
write-requires c =
    rw (c.in_ok-status.ensures, c.in_ok-details.ensures, c.in_ok-message.ensures, c.code_of-code.ensures, c.reason_of.ensures) (depth-status_of _ _ _)
