use Rattle.std.proofs.Common.{sym, ◌∙◌}
use Rattle.record_store.proofs.Answered.{standing_weight}
use Rattle.record_store.proofs.store.Store.put_end.Goals as goal

pub room_for-requires-then-standing-number : goal.room_for-requires-then-standing-number
room_for-requires-then-standing-number c = standing_weight c.args.new.now.key c.args.self.now c.in-Some-Some.standing (sym c.in-Some-Some.is-1 ∙ c.requires)
