-- What holds of a line of `pipe`.
use Rattle.std.proofs.Common.{◌≡◌, ◌≢◌, ◌∙◌, ◌⊎◌, ℕ, List, Bool, true, false, Some, inl, inr, refl, ap, sym, subst, arith}
use Rattle.std.specs.Prelude.{if◌then◌else◌}
use Rattle.http_wire.specs.Head.{Request}
use Rattle.http_wire.specs.Stream.{End, closed, closing, spent, torn, refused as refused_end, Asks, SameEnd, IsFreeEnd}
use Rattle.http_wire.specs.declared.limits.TheConstants.{MOST_REQUESTS}
use Rattle.http_wire.specs.declared.WireFault.TheVariants.{HeadTooLong}
use Rattle.http_front.specs.Talk.{asked}
use Rattle.http_front.specs.Link.{UnlessUnwritten}
use Rattle.command_lines.specs.Lines.{Source}
use Rattle.serve_input.specs.Conversed.{Blames as BlamesEnd, Conversed, MayRise, front_of, link_end}
use Rattle.serve_input.specs.declared.conversing.PipeEnd.{PipeEnd}
use Rattle.serve_input.specs.declared.conversing.PipeEnd.TheVariants.{Closed, Torn, Refused, Spent, ReadFault, WriteFault}
use Rattle.kubeconv_cmd.specs.World.{World, held, input, streams, written, written_before, FilesFail, HasHandedOn, InputFails, InputStays, OutputFails, OutputStays}
use Rattle.kubeconv_cmd.specs.Sources.{IsAddressless, Loaded, Means, Refuses, faults_in, meaning_in}
use Rattle.kubeconv_cmd.specs.Serving.{Conversation}
use Rattle.kubeconv_cmd.specs.Status.{status_of, pipe_status}
use Rattle.kubeconv_cmd.specs.Outcome.{PipeOutcome, conversed, unserved}
use Rattle.kubeconv_cmd.specs.declared.status.TheConstants.{DONE, BAD_WORDS, REFUSED, READ_FAILED, WRITE_FAILED, NO_MEMORY, CUT, TOO_MANY}
use Rattle.run_laws.specs.Ran.{Answered, Blames, IsServed, IsToldBy, IsUnheld}
use Rattle.run_laws.proofs.Refusing.{has_address, means_served, not_both}
use Rattle.run_laws.proofs.Ends.{stopped_blames, stopped_reading, stopped_never, stopped_talk, stopped_unheld, stopped_wanting, stopped_words, ended_never}

-- ---- the status of the end of an input

open_status : (test : Bool) (held : ℕ) → status_of (if test then refused_end HeadTooLong else torn held) ≡ CUT
open_status true held = refl
open_status false held = refl

free_status : (rest : List ℕ) (end : End) → IsFreeEnd rest end → status_of end ≡ CUT
free_status rest end (inl is) = ap status_of is
free_status rest end (inr is) = ap status_of is ∙ open_status _ _

-- ends of the same bytes have one status
same_status : (b : List ℕ) (rs : List Request) (d e : End) → SameEnd b rs d e → status_of d ≡ status_of e
same_status b rs d e (inl same) = ap status_of same
same_status b rs d e (inr free) = free_status free.0 d free.2.1 ∙ sym (free_status free.0 e free.2.2)

-- ---- where nothing fails

whole : {F S K E A L I O : Type 0} (w : World F S K E A L I O) (l : Loaded) (turns s : ℕ) (b : List ℕ) (end : PipeEnd) → Conversed (front_of (meaning_in l) w.start) (MayRise (faults_in l)) turns b (written_before w) (written w) end
    → BlamesEnd end (InputFails w) (OutputFails w) → s ≡ pipe_status end → ¬ InputFails w → ¬ OutputFails w
    → Answered (front_of (meaning_in l) w.start) (MayRise (faults_in l)) turns b (written_before w) (written w) s
whole w l turns s b Closed c blames is nr nw =
    elim c.2 [
      | inl talk ↦ record { end = closed; after = c.0; is_legal = c.1; conversation = talk; is_status = is }
      | inr talk ↦ record { end = closing; after = c.0; is_legal = c.1; conversation = talk; is_status = is }
    ]
whole w l turns s b (Torn held) c blames is nr nw = record { end = torn held; after = c.0; is_legal = c.1; conversation = c.2; is_status = is }
whole w l turns s b (Refused f) c blames is nr nw = record { end = refused_end f; after = c.0; is_legal = c.1; conversation = c.2; is_status = is }
whole w l turns s b Spent c blames is nr nw = record { end = spent; after = c.0; is_legal = c.1; conversation = c.2; is_status = is }
whole w l turns s b ReadFault c blames is nr nw = absurd (nr blames)
whole w l turns s b WriteFault c blames is nr nw = absurd (nw blames)

abbrev pub Talks : {F S K E A L I O : Type 0} → World F S K E A L I O → Source → ℕ → List ℕ → ℕ → Type 0
Talks w source turns b s = (l : Loaded) × Means (held w) source l × Answered (front_of (meaning_in l) w.start) (MayRise (faults_in l)) turns b (written_before w) (written w) s

abbrev pub Unloaded : {F S K E A L I O : Type 0} → World F S K E A L I O → Source → ℕ → Type 0
Unloaded w source s = ((s ≡ REFUSED) × Blames w source) ⊎ ((s ≡ NO_MEMORY) ⊎ ((s ≡ BAD_WORDS) × IsAddressless source))

pub pipe_talk : {F S K E A L I O : Type 0} (w : World F S K E A L I O) (source : Source) (turns s : ℕ) (b : List ℕ) → PipeOutcome w source turns s → input w ≡ Some b → ¬ FilesFail w → ¬ InputFails w → ¬ OutputFails w
    → Talks w source turns b s ⊎ Unloaded w source s
pipe_talk w source turns s b (conversed l end means talk is) told nf nr nw = inl (l, means, whole w l turns s b end (talk.conversed b told) talk.blames is nr nw)
pipe_talk w source turns s b (unserved stopped unread unwritten) told nf nr nw = inr (stopped_talk w source s stopped nf)

pub pipe_exact : {F S K E A L I O : Type 0} (w : World F S K E A L I O) (source : Source) (turns s : ℕ) (b : List ℕ) (requests : List Request) (end : End)
    → ((budget : ℕ) (b : List ℕ) (rs qs : List Request) (d e : End) → Asks budget b rs d → Asks budget b qs e → (rs ≡ qs) × SameEnd b rs d e)
    → Talks w source turns b s ⊎ Unloaded w source s → IsServed (held w) source → Asks MOST_REQUESTS b requests end → (s ≡ status_of end) ⊎ (s ≡ NO_MEMORY)
pipe_exact w source turns s b requests end one (inl t) served asks =
    let answered = t.2 in
    let talk = answered.conversation in
    inl (answered.is_status ∙ same_status b (asked talk.exchanges) answered.end end (one MOST_REQUESTS b (asked talk.exchanges) requests answered.end end (talk.asks b refl) asks).1)
pipe_exact w source turns s b requests end one (inr (inl bad)) served asks = absurd (not_both (held w) source bad.1.name bad.1.why served bad.1.refuses)
pipe_exact w source turns s b requests end one (inr (inr (inl memory))) served asks = inr memory
pipe_exact w source turns s b requests end one (inr (inr (inr none))) served asks = absurd (has_address (held w) source served none.1)

pub complete_end : (end : PipeEnd) (s : ℕ) (reads writes : Type 0) → s ≡ pipe_status end → BlamesEnd end reads writes → ¬ reads → ¬ writes
    → (s ≡ DONE) ⊎ ((s ≡ NO_MEMORY) ⊎ ((s ≡ CUT) ⊎ (s ≡ TOO_MANY)))
complete_end Closed s reads writes is blames nr nw = inl is
complete_end (Torn held) s reads writes is blames nr nw = inr (inr (inl is))
complete_end (Refused f) s reads writes is blames nr nw = inr (inr (inl is))
complete_end Spent s reads writes is blames nr nw = inr (inr (inr is))
complete_end ReadFault s reads writes is blames nr nw = absurd (nr blames)
complete_end WriteFault s reads writes is blames nr nw = absurd (nw blames)

pub pipe_complete : {F S K E A L I O : Type 0} (w : World F S K E A L I O) (source : Source) (turns s : ℕ) → PipeOutcome w source turns s → IsServed (held w) source → ¬ FilesFail w → ¬ InputFails w → ¬ OutputFails w
    → (s ≡ DONE) ⊎ ((s ≡ NO_MEMORY) ⊎ ((s ≡ CUT) ⊎ (s ≡ TOO_MANY)))
pipe_complete w source turns s (conversed l end means talk is) served nf nr nw = complete_end end s (InputFails w) (OutputFails w) is talk.blames nr nw
pipe_complete w source turns s (unserved stopped unread unwritten) served nf nr nw =
    inr (inl (stopped_wanting w source s stopped (λ name why bad. not_both (held w) source name why served bad) (λ none. has_address (held w) source served none) nf))

-- ---- whatever fails

pub unloaded_status : {F S K E A L I O : Type 0} (w : World F S K E A L I O) (source : Source) (s : ℕ) → Unloaded w source s → (s ≡ REFUSED) ⊎ ((s ≡ NO_MEMORY) ⊎ ((s ≡ BAD_WORDS) × IsAddressless source))
unloaded_status w source s (inl bad) = inl bad.0
unloaded_status w source s (inr other) = inr other

pub pipe_refuses : {F S K E A L I O : Type 0} (w : World F S K E A L I O) (source : Source) (turns s : ℕ) (name why : List ℕ) → PipeOutcome w source turns s → IsToldBy (held w) source → ¬ FilesFail w → Refuses (held w) source name why
    → (s ≡ REFUSED) ⊎ ((s ≡ NO_MEMORY) ⊎ ((s ≡ BAD_WORDS) × IsAddressless source))
pipe_refuses w source turns s name why (conversed l end means talk is) told nf bad = absurd (not_both (held w) source name why (means_served (held w) source l told means) bad)
pipe_refuses w source turns s name why (unserved stopped unread unwritten) told nf bad = unloaded_status w source s (stopped_talk w source s stopped nf)

pub pipe_held : {F S K E A L I O : Type 0} (w : World F S K E A L I O) (source : Source) (turns s : ℕ) → PipeOutcome w source turns s
    → ((l : Loaded) × (end : PipeEnd) × Means (held w) source l × Conversation (meaning_in l) (MayRise (faults_in l)) w.start turns (streams w) (InputFails w) (OutputFails w) end × (s ≡ pipe_status end))
    ⊎ (IsUnheld (FilesFail w) (IsAddressless source) s × InputStays w × OutputStays w)
pipe_held w source turns s (conversed l end means talk is) = inl (l, end, means, talk, is)
pipe_held w source turns s (unserved stopped unread unwritten) = inr (stopped_unheld w source s stopped, unread, unwritten)

pub handed_end : (end : PipeEnd) (s : ℕ) (handed_on : Type 0) → s ≡ pipe_status end → UnlessUnwritten (link_end end) handed_on → s ≢ WRITE_FAILED → handed_on
handed_end Closed s handed_on is h other = h
handed_end (Torn held) s handed_on is h other = h
handed_end (Refused f) s handed_on is h other = h
handed_end Spent s handed_on is h other = h
handed_end ReadFault s handed_on is h other = h
handed_end WriteFault s handed_on is h other = absurd (other is)

pub pipe_handed_on : {F S K E A L I O : Type 0} (w : World F S K E A L I O) (source : Source) (turns s : ℕ) → PipeOutcome w source turns s → s ≢ WRITE_FAILED → HasHandedOn w
pipe_handed_on w source turns s (conversed l end means talk is) other = handed_end end s (HasHandedOn w) is talk.hands_on other
pipe_handed_on w source turns s (unserved stopped unread unwritten) other = λ first. ap w.tells.flushed unwritten ∙ (first ∙ sym (ap w.tells.written unwritten))

-- ---- by its status

pub pipe_blames : {F S K E A L I O : Type 0} (w : World F S K E A L I O) (source : Source) (turns s : ℕ) → PipeOutcome w source turns s → s ≡ REFUSED → Blames w source
pipe_blames w source turns s (conversed l end means talk is) e = absurd (ended_never REFUSED (λ e. omega (arith, e)) (λ e. omega (arith, e)) (λ e. omega (arith, e)) (λ e. omega (arith, e)) (λ e. omega (arith, e)) end s is e)
pipe_blames w source turns s (unserved stopped unread unwritten) e = stopped_blames w source s stopped e

pub unread_end : (end : PipeEnd) (s : ℕ) (reads writes : Type 0) → s ≡ pipe_status end → BlamesEnd end reads writes → s ≡ READ_FAILED → (end ≡ ReadFault) × reads
unread_end Closed s reads writes is blames e = absurd (omega (arith, is, e))
unread_end (Torn held) s reads writes is blames e = absurd (omega (arith, is, e))
unread_end (Refused f) s reads writes is blames e = absurd (omega (arith, is, e))
unread_end Spent s reads writes is blames e = absurd (omega (arith, is, e))
unread_end ReadFault s reads writes is blames e = (refl, blames)
unread_end WriteFault s reads writes is blames e = absurd (omega (arith, is, e))

pub unwritten_end : (end : PipeEnd) (s : ℕ) (reads writes : Type 0) → s ≡ pipe_status end → BlamesEnd end reads writes → s ≡ WRITE_FAILED → (end ≡ WriteFault) × writes
unwritten_end Closed s reads writes is blames e = absurd (omega (arith, is, e))
unwritten_end (Torn held) s reads writes is blames e = absurd (omega (arith, is, e))
unwritten_end (Refused f) s reads writes is blames e = absurd (omega (arith, is, e))
unwritten_end Spent s reads writes is blames e = absurd (omega (arith, is, e))
unwritten_end ReadFault s reads writes is blames e = absurd (omega (arith, is, e))
unwritten_end WriteFault s reads writes is blames e = (refl, blames)

pub pipe_unread : {F S K E A L I O : Type 0} (w : World F S K E A L I O) (source : Source) (turns s : ℕ) → PipeOutcome w source turns s → s ≡ READ_FAILED
    → (FilesFail w × InputStays w × OutputStays w) ⊎ (InputFails w × (l : Loaded) × Means (held w) source l × Conversation (meaning_in l) (MayRise (faults_in l)) w.start turns (streams w) (InputFails w) (OutputFails w) ReadFault)
pipe_unread w source turns s (conversed l end means talk is) e =
    let ends = unread_end end s (InputFails w) (OutputFails w) is talk.blames e in
    inr (ends.1, l, means, subst (λ (x : PipeEnd). Conversation (meaning_in l) (MayRise (faults_in l)) w.start turns (streams w) (InputFails w) (OutputFails w) x) ends.0 talk)
pipe_unread w source turns s (unserved stopped unread unwritten) e = inl (stopped_reading w source s stopped e, unread, unwritten)

pub pipe_unwritten : {F S K E A L I O : Type 0} (w : World F S K E A L I O) (source : Source) (turns s : ℕ) → PipeOutcome w source turns s → s ≡ WRITE_FAILED
    → (l : Loaded) × Means (held w) source l × Conversation (meaning_in l) (MayRise (faults_in l)) w.start turns (streams w) (InputFails w) (OutputFails w) WriteFault
pipe_unwritten w source turns s (conversed l end means talk is) e =
    let ends = unwritten_end end s (InputFails w) (OutputFails w) is talk.blames e in
    (l, means, subst (λ (x : PipeEnd). Conversation (meaning_in l) (MayRise (faults_in l)) w.start turns (streams w) (InputFails w) (OutputFails w) x) ends.0 talk)
pipe_unwritten w source turns s (unserved stopped unread unwritten) e = absurd (stopped_never WRITE_FAILED (λ e. omega (arith, e)) (λ e. omega (arith, e)) (λ e. omega (arith, e)) (λ e. omega (arith, e)) w source s stopped e)

pub pipe_reading : {F S K E A L I O : Type 0} (w : World F S K E A L I O) (source : Source) (turns s : ℕ) → PipeOutcome w source turns s → s ≡ READ_FAILED → FilesFail w ⊎ InputFails w
pipe_reading w source turns s (conversed l end means talk is) e = inr (unread_end end s (InputFails w) (OutputFails w) is talk.blames e).1
pipe_reading w source turns s (unserved stopped unread unwritten) e = inl (stopped_reading w source s stopped e)

pub pipe_writing : {F S K E A L I O : Type 0} (w : World F S K E A L I O) (source : Source) (turns s : ℕ) → PipeOutcome w source turns s → s ≡ WRITE_FAILED → OutputFails w
pipe_writing w source turns s (conversed l end means talk is) e = (unwritten_end end s (InputFails w) (OutputFails w) is talk.blames e).1
pipe_writing w source turns s (unserved stopped unread unwritten) e = absurd (stopped_never WRITE_FAILED (λ e. omega (arith, e)) (λ e. omega (arith, e)) (λ e. omega (arith, e)) (λ e. omega (arith, e)) w source s stopped e)

pub pipe_words : {F S K E A L I O : Type 0} (w : World F S K E A L I O) (source : Source) (turns s : ℕ) → PipeOutcome w source turns s → s ≡ BAD_WORDS → IsAddressless source
pipe_words w source turns s (conversed l end means talk is) e = absurd (ended_never BAD_WORDS (λ e. omega (arith, e)) (λ e. omega (arith, e)) (λ e. omega (arith, e)) (λ e. omega (arith, e)) (λ e. omega (arith, e)) end s is e)
pipe_words w source turns s (unserved stopped unread unwritten) e = stopped_words w source s stopped e

-- it ends so only before it serves
pub pipe_unserved : {F S K E A L I O : Type 0} (w : World F S K E A L I O) (source : Source) (turns s : ℕ) → PipeOutcome w source turns s → (s ≡ REFUSED) ⊎ (s ≡ NO_MEMORY) → InputStays w × OutputStays w
pipe_unserved w source turns s (conversed l end means talk is) (inl e) = absurd (ended_never REFUSED (λ e. omega (arith, e)) (λ e. omega (arith, e)) (λ e. omega (arith, e)) (λ e. omega (arith, e)) (λ e. omega (arith, e)) end s is e)
pipe_unserved w source turns s (conversed l end means talk is) (inr e) = absurd (ended_never NO_MEMORY (λ e. omega (arith, e)) (λ e. omega (arith, e)) (λ e. omega (arith, e)) (λ e. omega (arith, e)) (λ e. omega (arith, e)) end s is e)
pipe_unserved w source turns s (unserved stopped unread unwritten) e = (unread, unwritten)

-- it ends with no other status
pub pipe_never : (n : ℕ) → n ≢ DONE → n ≢ CUT → n ≢ TOO_MANY → n ≢ READ_FAILED → n ≢ WRITE_FAILED → n ≢ REFUSED → n ≢ NO_MEMORY → n ≢ BAD_WORDS
    → {F S K E A L I O : Type 0} (w : World F S K E A L I O) (source : Source) (turns s : ℕ) → PipeOutcome w source turns s → s ≡ n → ⊥
pipe_never n d c t r f u m b w source turns s (conversed l end means talk is) e = ended_never n d c t r f end s is e
pipe_never n d c t r f u m b w source turns s (unserved stopped unread unwritten) e = stopped_never n r u m b w source s stopped e
