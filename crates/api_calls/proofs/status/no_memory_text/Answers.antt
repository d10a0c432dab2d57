use Rattle.api_calls.proofs.Fields.{text_of-no_memory}
use Rattle.api_calls.proofs.status.no_memory_text.Goals as goal

pub returns : goal.returns
returns c = λ plural group. text_of-no_memory plural group
