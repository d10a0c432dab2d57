-- What holds of a line of one document.
use Rattle.std.proofs.Common.{◌≡◌, ◌≢◌, ◌∙◌, ◌⊎◌, ℕ, List, Some, inl, inr, ap, sym, arith}
use Rattle.std.specs.Io.KnownBytes.{IsAtEnd}
use Rattle.crd_meaning.specs.Definition.{Definition}
use Rattle.command_lines.specs.Lines.{Task, by_rules}
use Rattle.kubeconv_cmd.specs.World.{World, flushed, held, input, left, written, written_before, FilesFail, InputFails, InputStays, OfInput, OutputFails, OutputStays, Says}
use Rattle.kubeconv_cmd.specs.Sources.{Means, Refuses, with_rules}
use Rattle.kubeconv_cmd.specs.Status.{line_saying}
use Rattle.kubeconv_cmd.specs.Tasks.{AnswersDocument, Broke, LacksTarget, RefusesDocument, Wrote}
use Rattle.kubeconv_cmd.specs.Outcome.{TaskOutcome, did_task, targetless, unloaded_task, wrote_line, broke_line, refused_input, unread_input, wanting_task}
use Rattle.kubeconv_cmd.specs.declared.status.TheConstants.{DONE, BAD_WORDS, REFUSED, BAD_INPUT, READ_FAILED, WRITE_FAILED, NO_MEMORY}
use Rattle.run_laws.specs.Ran.{Blames, IsServed, IsToldBy, RanTask, answered, refused}
use Rattle.run_laws.proofs.Refusing.{has_address, means_served, not_both}
use Rattle.run_laws.proofs.Ends.{stopped_blames, stopped_reading, stopped_never, stopped_talk, stopped_wanting, stopped_words}
use Rattle.run_laws.proofs.PipeLaws.{Unloaded, unloaded_status}

-- ---- where nothing fails

pub task_talk : {F S K E A L I O : Type 0} (w : World F S K E A L I O) (crd rules : List ℕ) (t : Task) (s : ℕ) → TaskOutcome w (by_rules crd rules) t s → (b : List ℕ) → input w ≡ Some b → ¬ FilesFail w → ¬ InputFails w → ¬ OutputFails w
    → ((d : Definition) × Means (held w) (by_rules crd rules) (with_rules d) × RanTask d t b (written_before w) (written w) s) ⊎ Unloaded w (by_rules crd rules) s
task_talk w crd rules t s (did_task d means known (wrote_line is wrote end handed)) b told nf nr nw = inl (d, means, answered is (wrote b told))
task_talk w crd rules t s (did_task d means known (broke_line is fails broke)) b told nf nr nw = absurd (nw fails)
task_talk w crd rules t s (did_task d means known (refused_input why is bad says silent)) b told nf nr nw = inl (d, means, refused why is (inl (bad b told)) (ap w.tells.written silent))
task_talk w crd rules t s (did_task d means known (unread_input is fails silent)) b told nf nr nw = absurd (nr fails)
task_talk w crd rules t s (did_task d means known (wanting_task is silent)) b told nf nr nw = inr (inr (inl is))
task_talk w crd rules t s (targetless d why means lacks is says unread unwritten) b told nf nr nw = inl (d, means, refused why is (inr lacks) (ap w.tells.written unwritten))
task_talk w crd rules t s (unloaded_task stopped unread unwritten) b told nf nr nw = inr (stopped_talk w (by_rules crd rules) s stopped nf)

pub task_complete : {F S K E A L I O : Type 0} (w : World F S K E A L I O) (crd rules : List ℕ) (t : Task) (s : ℕ) → TaskOutcome w (by_rules crd rules) t s → IsServed (held w) (by_rules crd rules) → ¬ FilesFail w → ¬ InputFails w → ¬ OutputFails w → (s ≡ DONE) ⊎ ((s ≡ NO_MEMORY) ⊎ (s ≡ BAD_INPUT))
task_complete w crd rules t s (did_task d means known (wrote_line is wrote end handed)) fit nf nr nw = inl is
task_complete w crd rules t s (did_task d means known (broke_line is fails broke)) fit nf nr nw = absurd (nw fails)
task_complete w crd rules t s (did_task d means known (refused_input why is bad says silent)) fit nf nr nw = inr (inr is)
task_complete w crd rules t s (did_task d means known (unread_input is fails silent)) fit nf nr nw = absurd (nr fails)
task_complete w crd rules t s (did_task d means known (wanting_task is silent)) fit nf nr nw = inr (inl is)
task_complete w crd rules t s (targetless d why means lacks is says unread unwritten) fit nf nr nw = inr (inr is)
task_complete w crd rules t s (unloaded_task stopped unread unwritten) fit nf nr nw = inr (inl (stopped_wanting w (by_rules crd rules) s stopped (λ name why bad. not_both (held w) (by_rules crd rules) name why fit bad) (λ none. none) nf))

-- ---- whatever fails

pub task_refuses : {F S K E A L I O : Type 0} (w : World F S K E A L I O) (crd rules : List ℕ) (t : Task) (s : ℕ) → TaskOutcome w (by_rules crd rules) t s → IsToldBy (held w) (by_rules crd rules) → ¬ FilesFail w → (name why : List ℕ) → Refuses (held w) (by_rules crd rules) name why → (s ≡ REFUSED) ⊎ ((s ≡ NO_MEMORY) ⊎ ((s ≡ BAD_WORDS) × ⊥))
task_refuses w crd rules t s (did_task d means known ends) told nf name why bad = absurd (not_both (held w) (by_rules crd rules) name why (means_served (held w) (by_rules crd rules) (with_rules d) told means) bad)
task_refuses w crd rules t s (targetless d because means lacks is says unread unwritten) told nf name why bad = absurd (not_both (held w) (by_rules crd rules) name why (means_served (held w) (by_rules crd rules) (with_rules d) told means) bad)
task_refuses w crd rules t s (unloaded_task stopped unread unwritten) told nf name why bad = unloaded_status w (by_rules crd rules) s (stopped_talk w (by_rules crd rules) s stopped nf)

-- ---- by its status

pub task_blames : {F S K E A L I O : Type 0} (w : World F S K E A L I O) (crd rules : List ℕ) (t : Task) (s : ℕ) → TaskOutcome w (by_rules crd rules) t s → s ≡ REFUSED → Blames w (by_rules crd rules)
task_blames w crd rules t s (did_task d means known (wrote_line is wrote end handed)) e = absurd (omega (arith, is, e))
task_blames w crd rules t s (did_task d means known (broke_line is fails broke)) e = absurd (omega (arith, is, e))
task_blames w crd rules t s (did_task d means known (refused_input why is bad says silent)) e = absurd (omega (arith, is, e))
task_blames w crd rules t s (did_task d means known (unread_input is fails silent)) e = absurd (omega (arith, is, e))
task_blames w crd rules t s (did_task d means known (wanting_task is silent)) e = absurd (omega (arith, is, e))
task_blames w crd rules t s (targetless d why means lacks is says unread unwritten) e = absurd (omega (arith, is, e))
task_blames w crd rules t s (unloaded_task stopped unread unwritten) e = stopped_blames w (by_rules crd rules) s stopped e

pub task_unserved : {F S K E A L I O : Type 0} (w : World F S K E A L I O) (crd rules : List ℕ) (t : Task) (s : ℕ) → TaskOutcome w (by_rules crd rules) t s → s ≡ REFUSED → InputStays w × OutputStays w
task_unserved w crd rules t s (did_task d means known (wrote_line is wrote end handed)) e = absurd (omega (arith, is, e))
task_unserved w crd rules t s (did_task d means known (broke_line is fails broke)) e = absurd (omega (arith, is, e))
task_unserved w crd rules t s (did_task d means known (refused_input why is bad says silent)) e = absurd (omega (arith, is, e))
task_unserved w crd rules t s (did_task d means known (unread_input is fails silent)) e = absurd (omega (arith, is, e))
task_unserved w crd rules t s (did_task d means known (wanting_task is silent)) e = absurd (omega (arith, is, e))
task_unserved w crd rules t s (targetless d why means lacks is says unread unwritten) e = absurd (omega (arith, is, e))
task_unserved w crd rules t s (unloaded_task stopped unread unwritten) e = (unread, unwritten)

-- what is written where it is done
pub task_wrote : {F S K E A L I O : Type 0} (w : World F S K E A L I O) (crd rules : List ℕ) (t : Task) (s : ℕ) → TaskOutcome w (by_rules crd rules) t s → s ≡ DONE
    → (d : Definition) × Means (held w) (by_rules crd rules) (with_rules d) × OfInput w (λ b. Wrote (AnswersDocument d t b) (written_before w) (written w)) × IsAtEnd (left w) × (flushed w ≡ written w)
task_wrote w crd rules t s (did_task d means known (wrote_line is wrote end handed)) e = (d, means, wrote, end, handed)
task_wrote w crd rules t s (did_task d means known (broke_line is fails broke)) e = absurd (omega (arith, is, e))
task_wrote w crd rules t s (did_task d means known (refused_input why is bad says silent)) e = absurd (omega (arith, is, e))
task_wrote w crd rules t s (did_task d means known (unread_input is fails silent)) e = absurd (omega (arith, is, e))
task_wrote w crd rules t s (did_task d means known (wanting_task is silent)) e = absurd (omega (arith, is, e))
task_wrote w crd rules t s (targetless d why means lacks is says unread unwritten) e = absurd (omega (arith, is, e))
task_wrote w crd rules t s (unloaded_task stopped unread unwritten) e = absurd (stopped_never DONE (λ e. omega (arith, e)) (λ e. omega (arith, e)) (λ e. omega (arith, e)) (λ e. omega (arith, e)) w (by_rules crd rules) s stopped e)

pub task_broke : {F S K E A L I O : Type 0} (w : World F S K E A L I O) (crd rules : List ℕ) (t : Task) (s : ℕ) → TaskOutcome w (by_rules crd rules) t s → s ≡ WRITE_FAILED
    → OutputFails w × (d : Definition) × Means (held w) (by_rules crd rules) (with_rules d) × OfInput w (λ b. Broke (AnswersDocument d t b) (written_before w) (written w))
task_broke w crd rules t s (did_task d means known (wrote_line is wrote end handed)) e = absurd (omega (arith, is, e))
task_broke w crd rules t s (did_task d means known (broke_line is fails broke)) e = (fails, d, means, broke)
task_broke w crd rules t s (did_task d means known (refused_input why is bad says silent)) e = absurd (omega (arith, is, e))
task_broke w crd rules t s (did_task d means known (unread_input is fails silent)) e = absurd (omega (arith, is, e))
task_broke w crd rules t s (did_task d means known (wanting_task is silent)) e = absurd (omega (arith, is, e))
task_broke w crd rules t s (targetless d why means lacks is says unread unwritten) e = absurd (omega (arith, is, e))
task_broke w crd rules t s (unloaded_task stopped unread unwritten) e = absurd (stopped_never WRITE_FAILED (λ e. omega (arith, e)) (λ e. omega (arith, e)) (λ e. omega (arith, e)) (λ e. omega (arith, e)) w (by_rules crd rules) s stopped e)

pub task_silent : {F S K E A L I O : Type 0} (w : World F S K E A L I O) (crd rules : List ℕ) (t : Task) (s : ℕ) → TaskOutcome w (by_rules crd rules) t s → s ≢ DONE → s ≢ WRITE_FAILED → OutputStays w
task_silent w crd rules t s (did_task d means known (wrote_line is wrote end handed)) g f = absurd (g is)
task_silent w crd rules t s (did_task d means known (broke_line is fails broke)) g f = absurd (f is)
task_silent w crd rules t s (did_task d means known (refused_input why is bad says silent)) g f = silent
task_silent w crd rules t s (did_task d means known (unread_input is fails silent)) g f = silent
task_silent w crd rules t s (did_task d means known (wanting_task is silent)) g f = silent
task_silent w crd rules t s (targetless d why means lacks is says unread unwritten) g f = unwritten
task_silent w crd rules t s (unloaded_task stopped unread unwritten) g f = unwritten

pub task_bad_input : {F S K E A L I O : Type 0} (w : World F S K E A L I O) (crd rules : List ℕ) (t : Task) (s : ℕ) → TaskOutcome w (by_rules crd rules) t s → s ≡ BAD_INPUT
    → (d : Definition) × (why : List ℕ) × Means (held w) (by_rules crd rules) (with_rules d) × Says w (line_saying why) × (OfInput w (λ b. RefusesDocument d b t why) ⊎ (LacksTarget d t why × InputStays w))
task_bad_input w crd rules t s (did_task d means known (wrote_line is wrote end handed)) e = absurd (omega (arith, is, e))
task_bad_input w crd rules t s (did_task d means known (broke_line is fails broke)) e = absurd (omega (arith, is, e))
task_bad_input w crd rules t s (did_task d means known (refused_input why is bad says silent)) e = (d, why, means, says, inl bad)
task_bad_input w crd rules t s (did_task d means known (unread_input is fails silent)) e = absurd (omega (arith, is, e))
task_bad_input w crd rules t s (did_task d means known (wanting_task is silent)) e = absurd (omega (arith, is, e))
task_bad_input w crd rules t s (targetless d why means lacks is says unread unwritten) e = (d, why, means, says, inr (lacks, unread))
task_bad_input w crd rules t s (unloaded_task stopped unread unwritten) e = absurd (stopped_never BAD_INPUT (λ e. omega (arith, e)) (λ e. omega (arith, e)) (λ e. omega (arith, e)) (λ e. omega (arith, e)) w (by_rules crd rules) s stopped e)

pub task_reading : {F S K E A L I O : Type 0} (w : World F S K E A L I O) (crd rules : List ℕ) (t : Task) (s : ℕ) → TaskOutcome w (by_rules crd rules) t s → s ≡ READ_FAILED → FilesFail w ⊎ InputFails w
task_reading w crd rules t s (did_task d means known (wrote_line is wrote end handed)) e = absurd (omega (arith, is, e))
task_reading w crd rules t s (did_task d means known (broke_line is fails broke)) e = absurd (omega (arith, is, e))
task_reading w crd rules t s (did_task d means known (refused_input why is bad says silent)) e = absurd (omega (arith, is, e))
task_reading w crd rules t s (did_task d means known (unread_input is fails silent)) e = inr fails
task_reading w crd rules t s (did_task d means known (wanting_task is silent)) e = absurd (omega (arith, is, e))
task_reading w crd rules t s (targetless d why means lacks is says unread unwritten) e = absurd (omega (arith, is, e))
task_reading w crd rules t s (unloaded_task stopped unread unwritten) e = inl (stopped_reading w (by_rules crd rules) s stopped e)

-- it ends with no other status
pub task_never : (n : ℕ) → n ≢ DONE → n ≢ WRITE_FAILED → n ≢ BAD_INPUT → n ≢ READ_FAILED → n ≢ NO_MEMORY → n ≢ REFUSED → n ≢ BAD_WORDS
    → {F S K E A L I O : Type 0} (w : World F S K E A L I O) (crd rules : List ℕ) (t : Task) (s : ℕ) → TaskOutcome w (by_rules crd rules) t s → s ≡ n → ⊥
task_never n g f b r m u q w crd rules t s (did_task d means known (wrote_line is wrote end handed)) e = g (sym e ∙ is)
task_never n g f b r m u q w crd rules t s (did_task d means known (broke_line is fails broke)) e = f (sym e ∙ is)
task_never n g f b r m u q w crd rules t s (did_task d means known (refused_input why is bad says silent)) e = b (sym e ∙ is)
task_never n g f b r m u q w crd rules t s (did_task d means known (unread_input is fails silent)) e = r (sym e ∙ is)
task_never n g f b r m u q w crd rules t s (did_task d means known (wanting_task is silent)) e = m (sym e ∙ is)
task_never n g f b r m u q w crd rules t s (targetless d why means lacks is says unread unwritten) e = b (sym e ∙ is)
task_never n g f b r m u q w crd rules t s (unloaded_task stopped unread unwritten) e = stopped_never n r u m q w (by_rules crd rules) s stopped e
