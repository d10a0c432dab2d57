use Rattle.std.proofs.Common.{◌∙◌, arith}
use Rattle.crd_settings.proofs.Marks.{mark_at, mark_past}
use Rattle.crd_settings.proofs.parts.mark_in.Goals as goal

pub returns-then-v-items : goal.returns-then-v-items
returns-then-v-items c =
    c.version_mark.ensures ∙ mark_at c.args.items.now c.args.v c.index-items-v.result (omega arith) c.index-items-v.is

pub returns-else-v-items : goal.returns-else-v-items
returns-else-v-items c = mark_past c.args.items.now c.args.v (omega arith)
