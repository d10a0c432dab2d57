use Rattle.std.proofs.Common.{◌+◌, map, ap, ◌∙◌}
use Rattle.std.proofs.lemmas.List.{map-append}
use Rattle.record_store.specs.Copies.{copied}
use Rattle.record_store.specs.Inside.{IsKept, item_of}
use Rattle.record_store.proofs.Steps.{each-got, one-more}
use Rattle.record_store.proofs.page.copies_from.Goals as goal

pub copy-requires : goal.copy-requires
copy-requires c = each-got (IsKept c.args.region.now) c.args.index.now.rows (c.args.from + c.loop-i.i) c.at.result.now c.requires.kept c.at.ensures

pub loop-i-preserved : goal.loop-i-preserved
loop-i-preserved c =
    one-more (item_of c.args.region.now) c.args.index.now.rows c.args.from c.loop-i.i c.at.result.now (copied c.in_ok-copy.field-0) (map copied c.loop-i.items.items) (map copied c.push.new.self.items) c.at.ensures c.in_ok-copy.ensures
    (ap (map copied) c.in_ok-push.ensures.items ∙ map-append copied _ _) c.loop-i.invariant
