use Rattle.std.proofs.Common.{sym, ◌∙◌}
use Rattle.struct_schema.specs.laws.LookupLaws.{item_count-items_of}
use Rattle.struct_schema.proofs.keywords.item_count.Goals as goal

pub returns : goal.returns
returns c = c.len.ensures.len ∙ sym (item_count-items_of c.args.items.now)
