use Rattle.std.proofs.Common.{sym, ◌∙◌, refl}
use Rattle.record_store.proofs.Steps.{put_in, put_out}
use Rattle.record_store.proofs.page.put_stood.Goals as goal

pub returns-then-not-stood-clause-rows : goal.returns-then-not-stood-clause-rows
returns-then-not-stood-clause-rows c = put_out c.args.rv c.args.past.now c.args.picks.now.items (sym c.stood.ensures ∙ c.if-not-stood.true)

pub returns-clause-rows : goal.returns-clause-rows
returns-clause-rows c = put_in c.args.rv c.args.past.now _ c.args.picks.now.items _ (sym c.stood.ensures ∙ c.if-not-stood.false) refl c.in_ok-put_pick.ensures.put
