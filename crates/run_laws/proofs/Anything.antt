-- What holds of any line.
use Rattle.std.proofs.Common.{◌≡◌, ◌⊎◌, ℕ, List, Some, inl, inr, arith}
use Rattle.command_lines.specs.Lines.{Line, pipe, task, drill, serve, migrate, dump, load, remote}
use Rattle.kubeconv_cmd.specs.World.{World, held, input, EarsFail, EarsStay, FilesFail, InputFails, InputStays, OutputFails, OutputStays}
use Rattle.kubeconv_cmd.specs.Sources.{Refuses}
use Rattle.kubeconv_cmd.specs.Outcome.{IsPlaceless, Outcome}
use Rattle.kubeconv_cmd.specs.declared.status.TheConstants.{BAD_WORDS, REFUSED, READ_FAILED, WRITE_FAILED, NO_MEMORY, LISTEN_FAILED}
use Rattle.run_laws.specs.Ran.{Blames, HasDefinition, HearsNone, IsComplete, IsLocal, IsToldBy, OfSource, Ran, WantsFirst}
use Rattle.run_laws.proofs.PipeLaws.{pipe_talk, pipe_complete, pipe_refuses, pipe_blames, pipe_unserved, pipe_reading, pipe_writing, pipe_never}
use Rattle.run_laws.proofs.TaskLaws.{task_talk, task_complete, task_refuses, task_blames, task_unserved, task_broke, task_silent, task_reading, task_never}
use Rattle.run_laws.proofs.DrillLaws.{drill_talk, drill_complete, drill_broke, drill_silent, drill_never}
use Rattle.run_laws.proofs.MigrateLaws.{migrate_never, migrate_silent, migrate_writing}
use Rattle.run_laws.proofs.DumpLaws.{dump_never, dump_writing}
use Rattle.run_laws.proofs.LoadLaws.{load_never, load_reading, load_silent, load_writing}
use Rattle.run_laws.proofs.ServeLaws.{serve_talk, serve_complete, serve_refuses, serve_blames, serve_failed, serve_reading, serve_writing}

third : (X Y Z U : Type 0) → X ⊎ Z → X ⊎ (Y ⊎ (Z ⊎ U))
third X Y Z U (inl x) = inl x
third X Y Z U (inr z) = inr (inr (inl z))

pub talk_any : {F S K E A L I O : Type 0} (w : World F S K E A L I O) (line : Line) (s : ℕ) → Outcome w line s → IsLocal line → (b : List ℕ) → input w ≡ Some b → ¬ FilesFail w → ¬ InputFails w → ¬ OutputFails w
    → Ran w line b s ⊎ (((s ≡ REFUSED) × OfSource line (Blames w)) ⊎ ((s ≡ NO_MEMORY) ⊎ ((s ≡ BAD_WORDS) × IsPlaceless line)))
talk_any w (pipe source turns) s out near b told nf nr nw = pipe_talk w source turns s b out.0 told nf nr nw
talk_any w (task crd rules t) s out near b told nf nr nw = task_talk w crd rules t s out.0 b told nf nr nw
talk_any w (drill start count) s out near b told nf nr nw = third _ _ _ _ (drill_talk w start count s out.0 nw)
talk_any w (serve source l) s out near b told nf nr nw = serve_talk w source l s out.0 nf nw
talk_any w (remote work url) s out near b told nf nr nw = absurd near

pub complete_any : {F S K E A L I O : Type 0} (w : World F S K E A L I O) (line : Line) (s : ℕ) → Outcome w line s → HasDefinition (held w) line → ¬ FilesFail w → ¬ InputFails w → ¬ OutputFails w → ¬ EarsFail w → IsComplete line s
complete_any w (pipe source turns) s out fit nf nr nw ne = pipe_complete w source turns s out.0 fit nf nr nw
complete_any w (task crd rules t) s out fit nf nr nw ne = task_complete w crd rules t s out.0 fit nf nr nw
complete_any w (drill start count) s out fit nf nr nw ne = drill_complete w start count s out.0 nw
complete_any w (serve source l) s out fit nf nr nw ne = serve_complete w source l s out.0 fit nf nw ne
complete_any w (remote work url) s out fit nf nr nw ne = absurd fit

pub refused_any : {F S K E A L I O : Type 0} (w : World F S K E A L I O) (line : Line) (s : ℕ) → Outcome w line s → OfSource line (IsToldBy (held w)) → ¬ FilesFail w → (name why : List ℕ) → OfSource line (λ source. Refuses (held w) source name why)
    → (s ≡ REFUSED) ⊎ ((s ≡ NO_MEMORY) ⊎ ((s ≡ BAD_WORDS) × IsPlaceless line))
refused_any w (pipe source turns) s out told nf name why bad = pipe_refuses w source turns s name why out.0 told nf bad
refused_any w (task crd rules t) s out told nf name why bad = task_refuses w crd rules t s out.0 told nf name why bad
refused_any w (drill start count) s out told nf name why bad = absurd bad
refused_any w (serve source l) s out told nf name why bad = serve_refuses w source l s out.0 told nf name why bad
refused_any w (remote work url) s out told nf name why bad = absurd bad

pub refusal_any : {F S K E A L I O : Type 0} (w : World F S K E A L I O) (line : Line) (s : ℕ) → Outcome w line s → s ≡ REFUSED → OfSource line (Blames w)
refusal_any w (pipe source turns) s out e = pipe_blames w source turns s out.0 e
refusal_any w (task crd rules t) s out e = task_blames w crd rules t s out.0 e
refusal_any w (drill start count) s out e = absurd (drill_never REFUSED (λ e. omega (arith, e)) (λ e. omega (arith, e)) (λ e. omega (arith, e)) w start count s out.0 e)
refusal_any w (serve source l) s out e = (serve_blames w source l s out.0 e).0
refusal_any w (remote migrate url) s out e = absurd (migrate_never REFUSED (λ e. omega (arith, e)) (λ e. omega (arith, e)) (λ e. omega (arith, e)) (λ e. omega (arith, e)) (λ e. omega (arith, e)) (λ e. omega (arith, e)) (λ e. omega (arith, e)) w url s out.0 e)
refusal_any w (remote dump url) s out e = absurd (dump_never REFUSED (λ e. omega (arith, e)) (λ e. omega (arith, e)) (λ e. omega (arith, e)) (λ e. omega (arith, e)) (λ e. omega (arith, e)) (λ e. omega (arith, e)) (λ e. omega (arith, e)) w url s out.0 e)
refusal_any w (remote load url) s out e = absurd (load_never REFUSED (λ e. omega (arith, e)) (λ e. omega (arith, e)) (λ e. omega (arith, e)) (λ e. omega (arith, e)) (λ e. omega (arith, e)) (λ e. omega (arith, e)) (λ e. omega (arith, e)) (λ e. omega (arith, e)) (λ e. omega (arith, e)) (λ e. omega (arith, e)) w url s out.0 e)

pub unserved_any : {F S K E A L I O : Type 0} (w : World F S K E A L I O) (line : Line) (s : ℕ) → Outcome w line s → s ≡ REFUSED → InputStays w × OutputStays w
unserved_any w (pipe source turns) s out e = pipe_unserved w source turns s out.0 (inl e)
unserved_any w (task crd rules t) s out e = task_unserved w crd rules t s out.0 e
unserved_any w (drill start count) s out e = absurd (drill_never REFUSED (λ e. omega (arith, e)) (λ e. omega (arith, e)) (λ e. omega (arith, e)) w start count s out.0 e)
unserved_any w (serve source l) s out e = (out.1, (serve_blames w source l s out.0 e).1)
unserved_any w (remote migrate url) s out e = absurd (migrate_never REFUSED (λ e. omega (arith, e)) (λ e. omega (arith, e)) (λ e. omega (arith, e)) (λ e. omega (arith, e)) (λ e. omega (arith, e)) (λ e. omega (arith, e)) (λ e. omega (arith, e)) w url s out.0 e)
unserved_any w (remote dump url) s out e = absurd (dump_never REFUSED (λ e. omega (arith, e)) (λ e. omega (arith, e)) (λ e. omega (arith, e)) (λ e. omega (arith, e)) (λ e. omega (arith, e)) (λ e. omega (arith, e)) (λ e. omega (arith, e)) w url s out.0 e)
unserved_any w (remote load url) s out e = absurd (load_never REFUSED (λ e. omega (arith, e)) (λ e. omega (arith, e)) (λ e. omega (arith, e)) (λ e. omega (arith, e)) (λ e. omega (arith, e)) (λ e. omega (arith, e)) (λ e. omega (arith, e)) (λ e. omega (arith, e)) (λ e. omega (arith, e)) (λ e. omega (arith, e)) w url s out.0 e)

pub ears_any : {F S K E A L I O : Type 0} (w : World F S K E A L I O) (line : Line) (s : ℕ) → Outcome w line s → HearsNone line → EarsStay w
ears_any w (pipe source turns) s out none = out.1
ears_any w (task crd rules t) s out none = out.1
ears_any w (drill start count) s out none = out.3
ears_any w (serve source l) s out none = absurd none
ears_any w (remote migrate url) s out none = out.3
ears_any w (remote dump url) s out none = out.3
ears_any w (remote load url) s out none = out.2

pub memory_any : {F S K E A L I O : Type 0} (w : World F S K E A L I O) (line : Line) (s : ℕ) → Outcome w line s → WantsFirst line → s ≡ NO_MEMORY → OutputStays w
memory_any w (pipe source turns) s out first e = (pipe_unserved w source turns s out.0 (inr e)).1
memory_any w (task crd rules t) s out first e = task_silent w crd rules t s out.0 (λ d. omega (arith, d, e)) (λ f. omega (arith, f, e))
memory_any w (drill start count) s out first e = drill_silent w start count s out.0 (λ d. omega (arith, d, e)) (λ f. omega (arith, f, e))
memory_any w (serve source l) s out first e = absurd first
memory_any w (remote migrate url) s out first e = migrate_silent w url s out.0 (λ d. omega (arith, d, e)) (λ f. omega (arith, f, e)) (λ f. omega (arith, f, e))
memory_any w (remote dump url) s out first e = absurd first
memory_any w (remote load url) s out first e = load_silent w url s out.0 (λ d. omega (arith, d, e)) (λ f. omega (arith, f, e))

pub reading_any : {F S K E A L I O : Type 0} (w : World F S K E A L I O) (line : Line) (s : ℕ) → Outcome w line s → s ≡ READ_FAILED → FilesFail w ⊎ InputFails w
reading_any w (pipe source turns) s out e = pipe_reading w source turns s out.0 e
reading_any w (task crd rules t) s out e = task_reading w crd rules t s out.0 e
reading_any w (drill start count) s out e = absurd (drill_never READ_FAILED (λ e. omega (arith, e)) (λ e. omega (arith, e)) (λ e. omega (arith, e)) w start count s out.0 e)
reading_any w (serve source l) s out e = inl (serve_reading w source l s out.0 e)
reading_any w (remote migrate url) s out e = absurd (migrate_never READ_FAILED (λ e. omega (arith, e)) (λ e. omega (arith, e)) (λ e. omega (arith, e)) (λ e. omega (arith, e)) (λ e. omega (arith, e)) (λ e. omega (arith, e)) (λ e. omega (arith, e)) w url s out.0 e)
reading_any w (remote dump url) s out e = absurd (dump_never READ_FAILED (λ e. omega (arith, e)) (λ e. omega (arith, e)) (λ e. omega (arith, e)) (λ e. omega (arith, e)) (λ e. omega (arith, e)) (λ e. omega (arith, e)) (λ e. omega (arith, e)) w url s out.0 e)
reading_any w (remote load url) s out e = inr (load_reading w url s out.0 e)

pub writing_any : {F S K E A L I O : Type 0} (w : World F S K E A L I O) (line : Line) (s : ℕ) → Outcome w line s → s ≡ WRITE_FAILED → OutputFails w
writing_any w (pipe source turns) s out e = pipe_writing w source turns s out.0 e
writing_any w (task crd rules t) s out e = (task_broke w crd rules t s out.0 e).0
writing_any w (drill start count) s out e = (drill_broke w start count s out.0 e).0
writing_any w (serve source l) s out e = serve_writing w source l s out.0 e
writing_any w (remote migrate url) s out e = migrate_writing w url s out.0 e
writing_any w (remote dump url) s out e = dump_writing w url s out.0 e
writing_any w (remote load url) s out e = load_writing w url s out.0 e

pub hearing_any : {F S K E A L I O : Type 0} (w : World F S K E A L I O) (line : Line) (s : ℕ) → Outcome w line s → s ≡ LISTEN_FAILED → EarsFail w
hearing_any w (pipe source turns) s out e = absurd (pipe_never LISTEN_FAILED (λ e. omega (arith, e)) (λ e. omega (arith, e)) (λ e. omega (arith, e)) (λ e. omega (arith, e)) (λ e. omega (arith, e)) (λ e. omega (arith, e)) (λ e. omega (arith, e)) (λ e. omega (arith, e)) w source turns s out.0 e)
hearing_any w (task crd rules t) s out e = absurd (task_never LISTEN_FAILED (λ e. omega (arith, e)) (λ e. omega (arith, e)) (λ e. omega (arith, e)) (λ e. omega (arith, e)) (λ e. omega (arith, e)) (λ e. omega (arith, e)) (λ e. omega (arith, e)) w crd rules t s out.0 e)
hearing_any w (drill start count) s out e = absurd (drill_never LISTEN_FAILED (λ e. omega (arith, e)) (λ e. omega (arith, e)) (λ e. omega (arith, e)) w start count s out.0 e)
hearing_any w (serve source l) s out e = (serve_failed w source l s out.0 e).0
hearing_any w (remote migrate url) s out e = absurd (migrate_never LISTEN_FAILED (λ e. omega (arith, e)) (λ e. omega (arith, e)) (λ e. omega (arith, e)) (λ e. omega (arith, e)) (λ e. omega (arith, e)) (λ e. omega (arith, e)) (λ e. omega (arith, e)) w url s out.0 e)
hearing_any w (remote dump url) s out e = absurd (dump_never LISTEN_FAILED (λ e. omega (arith, e)) (λ e. omega (arith, e)) (λ e. omega (arith, e)) (λ e. omega (arith, e)) (λ e. omega (arith, e)) (λ e. omega (arith, e)) (λ e. omega (arith, e)) w url s out.0 e)
hearing_any w (remote load url) s out e = absurd (load_never LISTEN_FAILED (λ e. omega (arith, e)) (λ e. omega (arith, e)) (λ e. omega (arith, e)) (λ e. omega (arith, e)) (λ e. omega (arith, e)) (λ e. omega (arith, e)) (λ e. omega (arith, e)) (λ e. omega (arith, e)) (λ e. omega (arith, e)) (λ e. omega (arith, e)) w url s out.0 e)
