use Rattle.std.proofs.Common.{◌∙◌}
use Rattle.keep_bodies.proofs.Standing.{rest_slice, run_slice_deeper, run_slice}
use Rattle.keep_bodies.proofs.left.inside.Goals as goal

pub count_first-many-requires : goal.count_first-many-requires
count_first-many-requires c =
    rest_slice c.args.kept.now.depth c.count_first-start.result c.args.kept.now.entries.now c.requires

pub deeper-requires : goal.deeper-requires
deeper-requires c =
    run_slice_deeper c.args.kept.now.depth c.count_first-start.result c.count_first-many.result c.args.name.now c.args.kept.now.entries.now c.requires c.count_first-start.ensures.count c.count_first-many.ensures.count

pub returns : goal.returns
returns c =
    c.deeper.ensures ∙ run_slice c.args.kept.now.depth c.count_first-start.result c.count_first-many.result c.args.name.now c.args.kept.now.entries.now c.requires c.count_first-start.ensures.count c.count_first-many.ensures.count
