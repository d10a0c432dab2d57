-- What holds of a line of `serve`.
use Rattle.std.proofs.Common.{◌≡◌, ◌≢◌, ◌∙◌, ◌⊎◌, ◌<◌, ℕ, List, Some, inl, inr, ap, sym, arith}
use Rattle.std.specs.Prelude.{IfSome}
use Rattle.command_lines.specs.Lines.{Source, Listening}
use Rattle.kubeconv_cmd.specs.World.{World, hearing, held, written, written_before, EarsFail, FilesFail, HearsNobody, OutputFails, OutputStays}
use Rattle.kubeconv_cmd.specs.Sources.{IsAddressless, Loaded, Means, Refuses, faults_in, meaning_in}
use Rattle.kubeconv_cmd.specs.Serving.{Answers, answered, answered_fewer, unheard, untold, wanting_service}
use Rattle.kubeconv_cmd.specs.Outcome.{ServeOutcome, served, unloaded_service}
use Rattle.kubeconv_cmd.specs.declared.status.TheConstants.{DONE, BAD_WORDS, REFUSED, READ_FAILED, WRITE_FAILED, NO_MEMORY, LISTEN_FAILED}
use Rattle.run_laws.specs.Ran.{Blames, IsServed, IsToldBy, IsUnheld, RanService, served as ran_served, failed, SaysOfService, told_all, told_none, told_front, told_or_not, RunsService}
use Rattle.run_laws.proofs.Refusing.{has_address, means_served, not_both}
use Rattle.run_laws.proofs.Ends.{stopped_blames, stopped_reading, stopped_never, stopped_talk, stopped_unheld, stopped_wanting, stopped_words}
use Rattle.run_laws.proofs.PipeLaws.{Unloaded, unloaded_status}

-- ---- where nothing fails

pub serve_talk : {F S K E A L I O : Type 0} (w : World F S K E A L I O) (source : Source) (v : Listening) (s : ℕ) → ServeOutcome w source v s → ¬ FilesFail w → ¬ OutputFails w → RanService (written_before w) (written w) s ⊎ Unloaded w source s
serve_talk w source v s (served l means (answered count is all answers)) nf nw = inl (ran_served is answers.0.0)
serve_talk w source v s (served l means (answered_fewer count is fails few answers)) nf nw = inl (failed is (inr answers.0.0))
serve_talk w source v s (served l means (unheard is fails told nobody)) nf nw = inl (failed is told)
serve_talk w source v s (served l means (untold is fails told nobody)) nf nw = absurd (nw fails)
serve_talk w source v s (served l means (wanting_service is told nobody)) nf nw = inr (inr (inl is))
serve_talk w source v s (unloaded_service stopped output ears) nf nw = inr (stopped_talk w source s stopped nf)

pub serve_complete : {F S K E A L I O : Type 0} (w : World F S K E A L I O) (source : Source) (v : Listening) (s : ℕ) → ServeOutcome w source v s → IsServed (held w) source → ¬ FilesFail w → ¬ OutputFails w → ¬ EarsFail w → (s ≡ DONE) ⊎ (s ≡ NO_MEMORY)
serve_complete w source v s (served l means (answered count is all answers)) told nf nw ne = inl is
serve_complete w source v s (served l means (answered_fewer count is fails few answers)) told nf nw ne = absurd (ne fails)
serve_complete w source v s (served l means (unheard is fails says nobody)) told nf nw ne = absurd (ne fails)
serve_complete w source v s (served l means (untold is fails says nobody)) told nf nw ne = absurd (nw fails)
serve_complete w source v s (served l means (wanting_service is says nobody)) told nf nw ne = inr is
serve_complete w source v s (unloaded_service stopped output ears) told nf nw ne = inr (stopped_wanting w source s stopped (λ name why bad. not_both (held w) source name why told bad) (λ none. has_address (held w) source told none) nf)

-- ---- whatever fails

pub serve_refuses : {F S K E A L I O : Type 0} (w : World F S K E A L I O) (source : Source) (v : Listening) (s : ℕ) → ServeOutcome w source v s → IsToldBy (held w) source → ¬ FilesFail w → (name why : List ℕ) → Refuses (held w) source name why
    → (s ≡ REFUSED) ⊎ ((s ≡ NO_MEMORY) ⊎ ((s ≡ BAD_WORDS) × IsAddressless source))
serve_refuses w source v s (served l means ends) told nf name why bad = absurd (not_both (held w) source name why (means_served (held w) source l told means) bad)
serve_refuses w source v s (unloaded_service stopped output ears) told nf name why bad = unloaded_status w source s (stopped_talk w source s stopped nf)

serve_done : {F S K E A L I O : Type 0} (w : World F S K E A L I O) (source : Source) (v : Listening) (s : ℕ) → ServeOutcome w source v s → s ≡ DONE → (count : ℕ) × (v.connections ≡ Some count) × ((l : Loaded) × Means (held w) source l × Answers (faults_in l) w.tells.sides (meaning_in l) w.start v (hearing w) count)
serve_done w source v s (served l means (answered count is all answers)) e = (count, all, (l, means, answers))
serve_done w source v s (served l means (answered_fewer count is fails few answers)) e = absurd (omega (arith, is, e))
serve_done w source v s (served l means (unheard is fails told nobody)) e = absurd (omega (arith, is, e))
serve_done w source v s (served l means (untold is fails told nobody)) e = absurd (omega (arith, is, e))
serve_done w source v s (served l means (wanting_service is told nobody)) e = absurd (omega (arith, is, e))
serve_done w source v s (unloaded_service stopped output ears) e = absurd (stopped_never DONE (λ e. omega (arith, e)) (λ e. omega (arith, e)) (λ e. omega (arith, e)) (λ e. omega (arith, e)) w source s stopped e)

pub serve_failed : {F S K E A L I O : Type 0} (w : World F S K E A L I O) (source : Source) (v : Listening) (s : ℕ) → ServeOutcome w source v s → s ≡ LISTEN_FAILED → EarsFail w × (HearsNobody w ⊎ ((count : ℕ) × IfSome v.connections (λ n. count < n) × ((l : Loaded) × Means (held w) source l × Answers (faults_in l) w.tells.sides (meaning_in l) w.start v (hearing w) count)))
serve_failed w source v s (served l means (answered count is all answers)) e = absurd (omega (arith, is, e))
serve_failed w source v s (served l means (answered_fewer count is fails few answers)) e = (fails, inr (count, few, (l, means, answers)))
serve_failed w source v s (served l means (unheard is fails told nobody)) e = (fails, inl nobody)
serve_failed w source v s (served l means (untold is fails told nobody)) e = absurd (omega (arith, is, e))
serve_failed w source v s (served l means (wanting_service is told nobody)) e = absurd (omega (arith, is, e))
serve_failed w source v s (unloaded_service stopped output ears) e = absurd (stopped_never LISTEN_FAILED (λ e. omega (arith, e)) (λ e. omega (arith, e)) (λ e. omega (arith, e)) (λ e. omega (arith, e)) w source s stopped e)

hears_nobody : {F S K E A L I O : Type 0} (w : World F S K E A L I O) → w.after.ears ≡ w.before.ears → HearsNobody w
hears_nobody w same = (ap w.tells.handed same, ap w.tells.returned same)

serve_others : {F S K E A L I O : Type 0} (w : World F S K E A L I O) (source : Source) (v : Listening) (s : ℕ) → ServeOutcome w source v s → s ≢ DONE → s ≢ LISTEN_FAILED → HearsNobody w
serve_others w source v s (served l means (answered count is all answers)) d f = absurd (d is)
serve_others w source v s (served l means (answered_fewer count is fails few answers)) d f = absurd (f is)
serve_others w source v s (served l means (unheard is fails told nobody)) d f = absurd (f is)
serve_others w source v s (served l means (untold is fails told nobody)) d f = nobody
serve_others w source v s (served l means (wanting_service is told nobody)) d f = nobody
serve_others w source v s (unloaded_service stopped output ears) d f = hears_nobody w ears

pub serve_runs : {F S K E A L I O : Type 0} (w : World F S K E A L I O) (source : Source) (v : Listening) (s : ℕ) → ServeOutcome w source v s
    → RunsService v.connections (λ count. (l : Loaded) × Means (held w) source l × Answers (faults_in l) w.tells.sides (meaning_in l) w.start v (hearing w) count) (EarsFail w) (HearsNobody w) s
serve_runs w source v s out = record {
  done = λ e. serve_done w source v s out e;
  failed = λ e. serve_failed w source v s out e;
  others = λ d f. serve_others w source v s out d f;
}

says_none : {F S K E A L I O : Type 0} (w : World F S K E A L I O) (source : Source) (s : ℕ) → IsUnheld (FilesFail w) (IsAddressless source) s → OutputStays w → SaysOfService (written_before w) (written w) s
says_none w source s (inl is) output = told_none (inl is) (ap w.tells.written output)
says_none w source s (inr (inl is)) output = told_or_not (inr is) (inl (ap w.tells.written output))
says_none w source s (inr (inr (inl is))) output = told_none (inr (inl is.0)) (ap w.tells.written output)
says_none w source s (inr (inr (inr is))) output = told_none (inr (inr is.0)) (ap w.tells.written output)

pub serve_says : {F S K E A L I O : Type 0} (w : World F S K E A L I O) (source : Source) (v : Listening) (s : ℕ) → ServeOutcome w source v s → SaysOfService (written_before w) (written w) s
serve_says w source v s (served l means (answered count is all answers)) = told_all is answers.0.0
serve_says w source v s (served l means (answered_fewer count is fails few answers)) = told_or_not (inl is) (inr answers.0.0)
serve_says w source v s (served l means (unheard is fails told nobody)) = told_or_not (inl is) told
serve_says w source v s (served l means (untold is fails told nobody)) = told_front is told
serve_says w source v s (served l means (wanting_service is told nobody)) = told_or_not (inr is) told
serve_says w source v s (unloaded_service stopped output ears) = says_none w source s (stopped_unheld w source s stopped) output

pub serve_blames : {F S K E A L I O : Type 0} (w : World F S K E A L I O) (source : Source) (v : Listening) (s : ℕ) → ServeOutcome w source v s → s ≡ REFUSED → Blames w source × OutputStays w
serve_blames w source v s (served l means (answered count is all answers)) e = absurd (omega (arith, is, e))
serve_blames w source v s (served l means (answered_fewer count is fails few answers)) e = absurd (omega (arith, is, e))
serve_blames w source v s (served l means (unheard is fails told nobody)) e = absurd (omega (arith, is, e))
serve_blames w source v s (served l means (untold is fails told nobody)) e = absurd (omega (arith, is, e))
serve_blames w source v s (served l means (wanting_service is told nobody)) e = absurd (omega (arith, is, e))
serve_blames w source v s (unloaded_service stopped output ears) e = (stopped_blames w source s stopped e, output)

pub serve_reading : {F S K E A L I O : Type 0} (w : World F S K E A L I O) (source : Source) (v : Listening) (s : ℕ) → ServeOutcome w source v s → s ≡ READ_FAILED → FilesFail w
serve_reading w source v s (served l means (answered count is all answers)) e = absurd (omega (arith, is, e))
serve_reading w source v s (served l means (answered_fewer count is fails few answers)) e = absurd (omega (arith, is, e))
serve_reading w source v s (served l means (unheard is fails told nobody)) e = absurd (omega (arith, is, e))
serve_reading w source v s (served l means (untold is fails told nobody)) e = absurd (omega (arith, is, e))
serve_reading w source v s (served l means (wanting_service is told nobody)) e = absurd (omega (arith, is, e))
serve_reading w source v s (unloaded_service stopped output ears) e = stopped_reading w source s stopped e

pub serve_writing : {F S K E A L I O : Type 0} (w : World F S K E A L I O) (source : Source) (v : Listening) (s : ℕ) → ServeOutcome w source v s → s ≡ WRITE_FAILED → OutputFails w
serve_writing w source v s (served l means (answered count is all answers)) e = absurd (omega (arith, is, e))
serve_writing w source v s (served l means (answered_fewer count is fails few answers)) e = absurd (omega (arith, is, e))
serve_writing w source v s (served l means (unheard is fails told nobody)) e = absurd (omega (arith, is, e))
serve_writing w source v s (served l means (untold is fails told nobody)) e = fails
serve_writing w source v s (served l means (wanting_service is told nobody)) e = absurd (omega (arith, is, e))
serve_writing w source v s (unloaded_service stopped output ears) e = absurd (stopped_never WRITE_FAILED (λ e. omega (arith, e)) (λ e. omega (arith, e)) (λ e. omega (arith, e)) (λ e. omega (arith, e)) w source s stopped e)

pub serve_words : {F S K E A L I O : Type 0} (w : World F S K E A L I O) (source : Source) (v : Listening) (s : ℕ) → ServeOutcome w source v s → s ≡ BAD_WORDS → IsAddressless source
serve_words w source v s (served l means (answered count is all answers)) e = absurd (omega (arith, is, e))
serve_words w source v s (served l means (answered_fewer count is fails few answers)) e = absurd (omega (arith, is, e))
serve_words w source v s (served l means (unheard is fails told nobody)) e = absurd (omega (arith, is, e))
serve_words w source v s (served l means (untold is fails told nobody)) e = absurd (omega (arith, is, e))
serve_words w source v s (served l means (wanting_service is told nobody)) e = absurd (omega (arith, is, e))
serve_words w source v s (unloaded_service stopped output ears) e = stopped_words w source s stopped e

-- it ends with no other status
pub serve_never : (n : ℕ) → n ≢ DONE → n ≢ LISTEN_FAILED → n ≢ WRITE_FAILED → n ≢ NO_MEMORY → n ≢ READ_FAILED → n ≢ REFUSED → n ≢ BAD_WORDS
    → {F S K E A L I O : Type 0} (w : World F S K E A L I O) (source : Source) (v : Listening) (s : ℕ) → ServeOutcome w source v s → s ≡ n → ⊥
serve_never n d h f m r u b w source v s (served l means (answered count is all answers)) e = d (sym e ∙ is)
serve_never n d h f m r u b w source v s (served l means (answered_fewer count is fails few answers)) e = h (sym e ∙ is)
serve_never n d h f m r u b w source v s (served l means (unheard is fails told nobody)) e = h (sym e ∙ is)
serve_never n d h f m r u b w source v s (served l means (untold is fails told nobody)) e = f (sym e ∙ is)
serve_never n d h f m r u b w source v s (served l means (wanting_service is told nobody)) e = m (sym e ∙ is)
serve_never n d h f m r u b w source v s (unloaded_service stopped output ears) e = stopped_never n r u m b w source s stopped e
