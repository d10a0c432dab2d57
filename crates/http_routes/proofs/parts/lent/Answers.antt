use Rattle.std.proofs.Common.{map, ap, ◌∙◌}
use Rattle.std.specs.Cow.{cow_slice_items}
use Rattle.std.proofs.lemmas.List.{take_all}
use Rattle.http_routes.specs.Views.{now_of}
use Rattle.http_routes.proofs.Pieces.{mapped_step}
use Rattle.http_routes.proofs.parts.lent.Goals as goal

pub loop-part-preserved : goal.loop-part-preserved
loop-part-preserved c =
    mapped_step now_of cow_slice_items c.loop-part.lent.items c.push.new.self.items c.as_slice.result c.args.parts.now c.loop-part.part-index c.part-item.result c.loop-part-test.true c.part-item.is c.in_ok-push.ensures.items
    c.as_slice.ensures.value c.loop-part.invariant

pub returns : goal.returns
returns c = c.loop-part.invariant ∙ ap (map cow_slice_items) (take_all c.loop-part.part-index c.args.parts.now c.loop-part-test.false)
