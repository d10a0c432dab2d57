use Rattle.drill_steps.proofs.Results.{on_ok}
use Rattle.drill_steps.proofs.Counted.{standing}
use Rattle.drill_steps.proofs.settings.switch.Goals as goal

pub returns-clause-switches : goal.returns-clause-switches
returns-clause-switches g c =
    on_ok c.start.result _ _ c.start.ensures.starts (λ starts. record { mid = standing c.set.new.pass.view c.set.new.counts; sets = c.in_ok-set.ensures.sets; starts = starts })
