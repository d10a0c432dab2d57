-- What holds of a line of `drill`.
use Rattle.std.proofs.Common.{◌≡◌, ◌≢◌, ◌∙◌, ◌⊎◌, ℕ, inl, inr, sym, arith}
use Rattle.kubeconv_cmd.specs.World.{World, flushed, written, written_before, OutputFails, OutputStays}
use Rattle.kubeconv_cmd.specs.Sources.{DrillsExample}
use Rattle.kubeconv_cmd.specs.Tasks.{Wrote, Broke}
use Rattle.kubeconv_cmd.specs.Outcome.{DrillOutcome, wrote_drill, broke_drill, wanting_drill}
use Rattle.kubeconv_cmd.specs.declared.status.TheConstants.{DONE, WRITE_FAILED, NO_MEMORY}

pub drill_talk : {F S K E A L I O : Type 0} (w : World F S K E A L I O) (start count s : ℕ) → DrillOutcome w start count s → ¬ OutputFails w → ((s ≡ DONE) × Wrote (DrillsExample start count) (written_before w) (written w)) ⊎ (s ≡ NO_MEMORY)
drill_talk w start count s (wrote_drill is wrote handed) nw = inl (is, wrote)
drill_talk w start count s (broke_drill is fails broke) nw = absurd (nw fails)
drill_talk w start count s (wanting_drill is silent) nw = inr is

pub drill_complete : {F S K E A L I O : Type 0} (w : World F S K E A L I O) (start count s : ℕ) → DrillOutcome w start count s → ¬ OutputFails w → (s ≡ DONE) ⊎ (s ≡ NO_MEMORY)
drill_complete w start count s (wrote_drill is wrote handed) nw = inl is
drill_complete w start count s (broke_drill is fails broke) nw = absurd (nw fails)
drill_complete w start count s (wanting_drill is silent) nw = inr is

pub drill_wrote : {F S K E A L I O : Type 0} (w : World F S K E A L I O) (start count s : ℕ) → DrillOutcome w start count s → s ≡ DONE → Wrote (DrillsExample start count) (written_before w) (written w) × (flushed w ≡ written w)
drill_wrote w start count s (wrote_drill is wrote handed) e = (wrote, handed)
drill_wrote w start count s (broke_drill is fails broke) e = absurd (omega (arith, is, e))
drill_wrote w start count s (wanting_drill is silent) e = absurd (omega (arith, is, e))

pub drill_broke : {F S K E A L I O : Type 0} (w : World F S K E A L I O) (start count s : ℕ) → DrillOutcome w start count s → s ≡ WRITE_FAILED → OutputFails w × Broke (DrillsExample start count) (written_before w) (written w)
drill_broke w start count s (wrote_drill is wrote handed) e = absurd (omega (arith, is, e))
drill_broke w start count s (broke_drill is fails broke) e = (fails, broke)
drill_broke w start count s (wanting_drill is silent) e = absurd (omega (arith, is, e))

pub drill_silent : {F S K E A L I O : Type 0} (w : World F S K E A L I O) (start count s : ℕ) → DrillOutcome w start count s → s ≢ DONE → s ≢ WRITE_FAILED → OutputStays w
drill_silent w start count s (wrote_drill is wrote handed) d f = absurd (d is)
drill_silent w start count s (broke_drill is fails broke) d f = absurd (f is)
drill_silent w start count s (wanting_drill is silent) d f = silent

pub drill_ends : {F S K E A L I O : Type 0} (w : World F S K E A L I O) (start count s : ℕ) → DrillOutcome w start count s → (s ≡ DONE) ⊎ ((s ≡ WRITE_FAILED) ⊎ (s ≡ NO_MEMORY))
drill_ends w start count s (wrote_drill is wrote handed) = inl is
drill_ends w start count s (broke_drill is fails broke) = inr (inl is)
drill_ends w start count s (wanting_drill is silent) = inr (inr is)

-- it ends with no other status
pub drill_never : (n : ℕ) → n ≢ DONE → n ≢ WRITE_FAILED → n ≢ NO_MEMORY → {F S K E A L I O : Type 0} (w : World F S K E A L I O) (start count s : ℕ) → DrillOutcome w start count s → s ≡ n → ⊥
drill_never n d f m w start count s (wrote_drill is wrote handed) e = d (sym e ∙ is)
drill_never n d f m w start count s (broke_drill is fails broke) e = f (sym e ∙ is)
drill_never n d f m w start count s (wanting_drill is silent) e = m (sym e ∙ is)
