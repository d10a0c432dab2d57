use Rattle.std.proofs.Common.{◌∙◌}
use Rattle.document_text.proofs.Spelled.{spelled}
use Rattle.document_text.proofs.writing.write_document.Goals as goal

pub returns-in-Ok-clause-text : goal.returns-in-Ok-clause-text
returns-in-Ok-clause-text c =
    let sent = c.in-Ok.ensures.events in
    c.of_string.ensures ∙ spelled _ sent.0 _ sent.1 sent.2
