-- By its status, what a run without a definition came to, and how a conversation ended.
use Rattle.std.proofs.Common.{◌≡◌, ◌≢◌, ◌∙◌, ◌⊎◌, ℕ, List, inl, inr, sym, arith}
use Rattle.command_lines.specs.Lines.{Source}
use Rattle.kubeconv_cmd.specs.World.{World, held, FilesFail}
use Rattle.kubeconv_cmd.specs.Sources.{IsAddressless, Refuses}
use Rattle.kubeconv_cmd.specs.Status.{pipe_status}
use Rattle.kubeconv_cmd.specs.Outcome.{Stopped, unreadable, refused, wanting, addressless}
use Rattle.serve_input.specs.declared.conversing.PipeEnd.{PipeEnd}
use Rattle.serve_input.specs.declared.conversing.PipeEnd.TheVariants.{Closed, Torn, Refused, Spent, ReadFault, WriteFault}
use Rattle.kubeconv_cmd.specs.declared.status.TheConstants.{DONE, BAD_WORDS, REFUSED, READ_FAILED, WRITE_FAILED, NO_MEMORY, CUT, TOO_MANY}
use Rattle.run_laws.specs.Ran.{Blames, IsUnheld}

-- ---- no definition

pub stopped_blames : {F S K E A L I O : Type 0} (w : World F S K E A L I O) (source : Source) (s : ℕ) → Stopped w source s → s ≡ REFUSED → Blames w source
stopped_blames w source s (unreadable is fails) e = absurd (omega (arith, is, e))
stopped_blames w source s (refused name why is bad says) e = record { name = name; why = why; refuses = bad; says = says }
stopped_blames w source s (wanting is) e = absurd (omega (arith, is, e))
stopped_blames w source s (addressless is none files links) e = absurd (omega (arith, is, e))

pub stopped_talk : {F S K E A L I O : Type 0} (w : World F S K E A L I O) (source : Source) (s : ℕ) → Stopped w source s → ¬ FilesFail w
    → ((s ≡ REFUSED) × Blames w source) ⊎ ((s ≡ NO_MEMORY) ⊎ ((s ≡ BAD_WORDS) × IsAddressless source))
stopped_talk w source s (unreadable is fails) nf = absurd (nf fails)
stopped_talk w source s (refused name why is bad says) nf = inl (is, record { name = name; why = why; refuses = bad; says = says })
stopped_talk w source s (wanting is) nf = inr (inl is)
stopped_talk w source s (addressless is none files links) nf = inr (inr (is, none))

pub stopped_reading : {F S K E A L I O : Type 0} (w : World F S K E A L I O) (source : Source) (s : ℕ) → Stopped w source s → s ≡ READ_FAILED → FilesFail w
stopped_reading w source s (unreadable is fails) e = fails
stopped_reading w source s (refused name why is bad says) e = absurd (omega (arith, is, e))
stopped_reading w source s (wanting is) e = absurd (omega (arith, is, e))
stopped_reading w source s (addressless is none files links) e = absurd (omega (arith, is, e))

pub stopped_words : {F S K E A L I O : Type 0} (w : World F S K E A L I O) (source : Source) (s : ℕ) → Stopped w source s → s ≡ BAD_WORDS → IsAddressless source
stopped_words w source s (unreadable is fails) e = absurd (omega (arith, is, e))
stopped_words w source s (refused name why is bad says) e = absurd (omega (arith, is, e))
stopped_words w source s (wanting is) e = absurd (omega (arith, is, e))
stopped_words w source s (addressless is none files links) e = none

pub stopped_unheld : {F S K E A L I O : Type 0} (w : World F S K E A L I O) (source : Source) (s : ℕ) → Stopped w source s → IsUnheld (FilesFail w) (IsAddressless source) s
stopped_unheld w source s (unreadable is fails) = inr (inr (inl (is, fails)))
stopped_unheld w source s (refused name why is bad says) = inl is
stopped_unheld w source s (wanting is) = inr (inl is)
stopped_unheld w source s (addressless is none files links) = inr (inr (inr (is, none)))

-- it ends with no other status
pub stopped_never : (n : ℕ) → n ≢ READ_FAILED → n ≢ REFUSED → n ≢ NO_MEMORY → n ≢ BAD_WORDS → {F S K E A L I O : Type 0} (w : World F S K E A L I O) (source : Source) (s : ℕ) → Stopped w source s → s ≡ n → ⊥
stopped_never n r f m b w source s (unreadable is fails) e = r (sym e ∙ is)
stopped_never n r f m b w source s (refused name why is bad says) e = f (sym e ∙ is)
stopped_never n r f m b w source s (wanting is) e = m (sym e ∙ is)
stopped_never n r f m b w source s (addressless is none files links) e = b (sym e ∙ is)

-- where no file fails, none is refused and there is an address, memory was wanted
pub stopped_wanting : {F S K E A L I O : Type 0} (w : World F S K E A L I O) (source : Source) (s : ℕ) → Stopped w source s → ((name why : List ℕ) → Refuses (held w) source name why → ⊥) → (IsAddressless source → ⊥) → ¬ FilesFail w → s ≡ NO_MEMORY
stopped_wanting w source s (unreadable is fails) fit address nf = absurd (nf fails)
stopped_wanting w source s (refused name why is bad says) fit address nf = absurd (fit name why bad)
stopped_wanting w source s (wanting is) fit address nf = is
stopped_wanting w source s (addressless is none files links) fit address nf = absurd (address none)

-- ---- how a conversation ended

-- it ends with no other status
pub ended_never : (n : ℕ) → n ≢ DONE → n ≢ CUT → n ≢ TOO_MANY → n ≢ READ_FAILED → n ≢ WRITE_FAILED → (end : PipeEnd) (s : ℕ) → s ≡ pipe_status end → s ≡ n → ⊥
ended_never n d c t r w Closed s is e = d (sym e ∙ is)
ended_never n d c t r w (Torn held) s is e = c (sym e ∙ is)
ended_never n d c t r w (Refused f) s is e = c (sym e ∙ is)
ended_never n d c t r w Spent s is e = t (sym e ∙ is)
ended_never n d c t r w ReadFault s is e = r (sym e ∙ is)
ended_never n d c t r w WriteFault s is e = w (sym e ∙ is)
