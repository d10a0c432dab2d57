use Rattle.spoke_keep.proofs.Shaping.{is_shape}
use Rattle.spoke_keep.proofs.hub.shape_with.Goals as goal

pub returns-in-Ok : goal.returns-in-Ok
returns-in-Ok c =
    is_shape c.args.all.now c.args.s.now c.args.body c.args.left.now c.args.annotations c.put_kept.new.notes c.key.result.now c.group.result.now.bytes c.hub.result.now.bytes c.key.ensures c.group.ensures c.hub.ensures c.in-Ok.ensures c.shape_named.result c.shape_named.ensures
