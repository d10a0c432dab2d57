use Rattle.std.proofs.Common.{◌≡◌, true, sym, ap, ◌∙◌}
use Rattle.kube_meta.specs.Window.{fits}
use Rattle.kube_meta.specs.laws.WindowLaws.{newest-fitting, floor-fitting}
use Rattle.kube_meta.specs.declared.limits.Limits.{Limits}
use Rattle.record_store.specs.Pasts.{past_by, past_weight}
use Rattle.record_store.proofs.WindowPieces.{trimmed-fitting}
use Rattle.record_store.proofs.window.Window.trim.Goals as goal

all_fit : (c : goal.After-loop-self) → fits past_weight c.args.self.now.limits c.loop-self.self.items ≡ true
all_fit c = ap (λ (l : Limits). fits past_weight l c.loop-self.self.items) (sym c.loop-self.invariant.limits) ∙ sym c.loop-self-test.ensures

pub returns-clause-items : goal.returns-clause-items
returns-clause-items c =
    sym (newest-fitting past_by past_weight c.args.self.now.limits c.loop-self.self.items (all_fit c)) ∙ c.loop-self.invariant.items

pub returns-clause-floor : goal.returns-clause-floor
returns-clause-floor c =
    sym (floor-fitting past_by past_weight c.args.self.now.limits c.loop-self.self.floor c.loop-self.self.items (all_fit c)) ∙ c.loop-self.invariant.floor

pub returns-clause-region : goal.returns-clause-region
returns-clause-region c =
    sym (trimmed-fitting c.args.self.now.limits c.loop-self.self.items c.loop-self.region (all_fit c)) ∙ c.loop-self.invariant.region
