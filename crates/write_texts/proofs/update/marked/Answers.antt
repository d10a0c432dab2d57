use Rattle.std.proofs.Common.{◌∙◌}
use Rattle.kube_meta.specs.View.{stamp_bytes}
use Rattle.write_texts.proofs.Updating.{some_mapped}
use Rattle.write_texts.proofs.update.marked.Goals as goal

pub returns : goal.returns
returns c = c.is_some.ensures ∙ some_mapped stamp_bytes c.args.o.now.meta.deleted
