use Rattle.std.proofs.Common.{sym, ◌∙◌}
use Rattle.record_store.specs.ByKey.{find}
use Rattle.record_store.specs.View.{item_key}
use Rattle.record_store.proofs.Answered.{done_room}
use Rattle.record_store.proofs.store.Store.put_if.Goals as goal

pub commit-requires-clause-room : goal.commit-requires-clause-room
commit-requires-clause-room c =
    done_room c.args.expected c.args.new.weight (find item_key c.args.new.key c.args.self.now.items) c.args.self.now (sym c.put_end.ensures ∙ c.in-Done.is)
