-- What a step that ends so did, and how a connection ends by it.
use Rattle.std.proofs.Common.{◌≡◌, ◌∙◌, ℕ, ◌+◌, ◌<◌, ◌≤◌, Bool, true, false, List, Option, Some, None, inl, inr, refl, sym, subst, arith}
use Rattle.std.specs.Io.KnownBytes.{append_known}
use Rattle.edge_io.specs.laws.Sending.{known_nil}
use Rattle.api_calls.specs.Reply.{ReplyView}
use Rattle.http_wire.specs.Head.{Request}
use Rattle.http_wire.specs.Inboxes.{EndsBy, OnReadFault}
use Rattle.http_wire.specs.Stream.{Stops, refused}
use Rattle.http_wire.specs.declared.WireFault.{WireFault}
use Rattle.http_wire.specs.declared.WireFault.TheVariants as faults
use Rattle.http_front.specs.Faults.{IsHeadFault, last_words}
use Rattle.http_front.specs.Talk.{Exchange, response_of}
use Rattle.http_front.specs.One.{Blames, Did, HandsOn, IfAnswered, IsRefused, ReadsOne, RefusesHead, step_of}
use Rattle.http_front.specs.Link.{LinkBlames, Links, UnlessUnwritten}
use Rattle.http_front.specs.Paced.{Finishes, Handles, InTurn, Moment, Took, one_more}
use Rattle.http_front.specs.inner.Ends.{Handed, Stopped, end_by}
use Rattle.http_front.specs.declared.one.OneEnd.{OneEnd}
use Rattle.http_front.specs.declared.one.OneEnd.TheVariants as steps
use Rattle.http_front.specs.declared.link.End.{End}
use Rattle.http_front.specs.declared.link.End.TheVariants as ends
use Rattle.http_front.proofs.Talking.{SoFar, broke, broke_reading, did_refuse, ended_last, ended_so, so_far_more}

-- ---- an answer

pub handed_so : (closing : Bool) (words : List ℕ) (before written : Option (List ℕ)) → written ≡ append_known before words → Handed closing words before written (step_of closing)
handed_so true words before written is = (refl, is)
handed_so false words before written is = (refl, is)

pub blames_none : (closing : Bool) (P Q : Type 0) → Blames (step_of closing) P Q
blames_none true P Q = tt
blames_none false P Q = tt

pub did_handed : {S : Type 0} (Step : S → Request → ReplyView → S → Type 0) (closing : Bool) (x : Exchange) (e : OneEnd) (s t : S) (known left before written : Option (List ℕ))
    → x.request.closing ≡ closing → Step s x.request x.answer t → ReadsOne known x.request left → Handed closing (response_of x) before written e → Did Step e s t known left before written
did_handed Step closing x steps.Answered s t known left before written is step reads h =
    record { exchange = x; step = step; reads = reads; asked = is ∙ h.0; wrote = h.1 }
did_handed Step closing x steps.Last s t known left before written is step reads h =
    record { exchange = x; step = step; reads = reads; asked = is ∙ h.0; wrote = h.1 }
did_handed Step closing x steps.WriteFault s t known left before written is step reads h =
    inl (record { exchange = x; step = step; reads = reads; some = h })
did_handed Step closing x steps.Closed s t known left before written is step reads h = absurd h
did_handed Step closing x (steps.Torn held) s t known left before written is step reads h = absurd h
did_handed Step closing x (steps.Refused f) s t known left before written is step reads h = absurd h
did_handed Step closing x steps.ReadFault s t known left before written is step reads h = absurd h

pub if_handed : (closing : Bool) (words : List ℕ) (before written : Option (List ℕ)) (e : OneEnd) (P Q : Type 0) → P → Handed closing words before written e → IfAnswered e P Q
if_handed closing words before written steps.Answered P Q holds h = holds
if_handed closing words before written steps.Last P Q holds h = holds
if_handed closing words before written steps.WriteFault P Q holds h = inl holds
if_handed closing words before written steps.Closed P Q holds h = tt
if_handed closing words before written (steps.Torn held) P Q holds h = tt
if_handed closing words before written (steps.Refused f) P Q holds h = tt
if_handed closing words before written steps.ReadFault P Q holds h = tt

-- a fault of reading has no cause where nothing was read
pub blames_written : (e : OneEnd) (P Q : Type 0) → Blames e ⊥ Q → Blames e P Q
blames_written steps.ReadFault P Q h = absurd h
blames_written steps.WriteFault P Q h = h
blames_written steps.Answered P Q h = h
blames_written steps.Last P Q h = h
blames_written steps.Closed P Q h = h
blames_written (steps.Torn held) P Q h = h
blames_written (steps.Refused f) P Q h = h

-- ---- no request

pub stopped_refused : (f : WireFault) (before written : Option (List ℕ)) (e : OneEnd) → IsHeadFault f → RefusesHead f before written e → Stopped f before written e
stopped_refused f before written (steps.Refused g) head h = (head, h.0, h.1)
stopped_refused f before written steps.WriteFault head h = (head, h)
stopped_refused f before written steps.Answered head h = absurd h
stopped_refused f before written steps.Last head h = absurd h
stopped_refused f before written steps.Closed head h = absurd h
stopped_refused f before written (steps.Torn held) head h = absurd h
stopped_refused f before written steps.ReadFault head h = absurd h

pub head_fault : (f : WireFault) → (f ≡ faults.Closed → ⊥) → ((n : ℕ) → f ≡ faults.Torn n → ⊥) → (f ≡ faults.ReadFault → ⊥) → IsHeadFault f
head_fault faults.BadHead at_closed at_torn at_read = tt
head_fault faults.HeadTooLong at_closed at_torn at_read = tt
head_fault faults.LengthRequired at_closed at_torn at_read = tt
head_fault (faults.BodyTooLong n) at_closed at_torn at_read = tt
head_fault faults.Closed at_closed at_torn at_read = absurd (at_closed refl)
head_fault (faults.Torn n) at_closed at_torn at_read = absurd (at_torn n refl)
head_fault faults.ReadFault at_closed at_torn at_read = absurd (at_read refl)

head_ends : (f : WireFault) (b : List ℕ) → IsHeadFault f → EndsBy b f → (budget : ℕ) → 0 < budget → Stops budget b (refused f)
head_ends faults.BadHead b head ends = ends
head_ends faults.HeadTooLong b head ends = ends
head_ends faults.LengthRequired b head ends = ends
head_ends (faults.BodyTooLong n) b head ends = ends
head_ends faults.Closed b head ends = absurd head
head_ends (faults.Torn n) b head ends = absurd head
head_ends faults.ReadFault b head ends = absurd head

pub did_stop : {S : Type 0} (Step : S → Request → ReplyView → S → Type 0) (f : WireFault) (e : OneEnd) (s : S) (known left before written : Option (List ℕ))
    → ((b : List ℕ) → known ≡ Some b → EndsBy b f) → Stopped f before written e → Did Step e s s known left before written
unfolding last_words
did_stop Step f steps.Closed s known left before written ends h =
    record { same = refl; ended = λ b is. subst (λ (g : WireFault). EndsBy b g) h.0 (ends b is); wrote = h.1 ∙ known_nil before }
did_stop Step f (steps.Torn held) s known left before written ends h =
    record { same = refl; ended = λ b is. subst (λ (g : WireFault). EndsBy b g) h.0 (ends b is); wrote = h.1 ∙ known_nil before }
did_stop Step f steps.ReadFault s known left before written ends h = (refl, h.1)
did_stop Step f (steps.Refused g) s known left before written ends h =
    did_refuse Step f (steps.Refused g) s known left before written (λ b is. head_ends f b h.0 (ends b is)) (h.1, h.2)
did_stop Step f steps.WriteFault s known left before written ends h =
    did_refuse Step f steps.WriteFault s known left before written (λ b is. head_ends f b h.0 (ends b is)) h.1
did_stop Step f steps.Answered s known left before written ends h = absurd h
did_stop Step f steps.Last s known left before written ends h = absurd h

pub if_stopped : (f : WireFault) (e : OneEnd) (P : Type 0) (known before written : Option (List ℕ))
    → ((b : List ℕ) → known ≡ Some b → EndsBy b f) → Stopped f before written e → IfAnswered e P (IsRefused known)
if_stopped f steps.WriteFault P known before written ends h = inr (f, λ b is. head_ends f b h.0 (ends b is))
if_stopped f steps.Answered P known before written ends h = absurd h
if_stopped f steps.Last P known before written ends h = absurd h
if_stopped f steps.Closed P known before written ends h = tt
if_stopped f (steps.Torn held) P known before written ends h = tt
if_stopped f (steps.Refused g) P known before written ends h = tt
if_stopped f steps.ReadFault P known before written ends h = tt

pub blames_stopped : (f : WireFault) (e : OneEnd) (P Q : Type 0) → OnReadFault f P → Blames e (f ≡ faults.ReadFault) Q → Blames e P Q
blames_stopped f steps.ReadFault P Q cause h = subst (λ (g : WireFault). OnReadFault g P) h cause
blames_stopped f steps.WriteFault P Q cause h = h
blames_stopped f steps.Answered P Q cause h = h
blames_stopped f steps.Last P Q cause h = h
blames_stopped f steps.Closed P Q cause h = h
blames_stopped f (steps.Torn held) P Q cause h = h
blames_stopped f (steps.Refused g) P Q cause h = h

-- ---- the connection

-- where it doesn't end by a step, the step answered
pub goes_on : (e : OneEnd) → end_by e ≡ None → e ≡ steps.Answered
goes_on steps.Answered none = refl
goes_on steps.Last none = cc
goes_on steps.Closed none = cc
goes_on (steps.Torn held) none = cc
goes_on (steps.Refused f) none = cc
goes_on steps.ReadFault none = cc
goes_on steps.WriteFault none = cc

pub so_far_by : {S : Type 0} (Step : S → Request → ReplyView → S → Type 0) (s t u : S) (now : ℕ) (known mid left before written next : Option (List ℕ))
    → SoFar Step s t now known mid before written → (e : OneEnd) → end_by e ≡ None → Did Step e t u mid left written next → SoFar Step s u (now + 1) known left before next
so_far_by Step s t u now known mid left before written next so_far e none did =
    so_far_more Step s t u now known mid left before written next so_far (subst (λ (x : OneEnd). Did Step x t u mid left written next) (goes_on e none) did)

pub turn_by : {S I O : Type 0} (h : Handles I O) (Step : S → Request → ReplyView → S → Type 0) (most : Option ℕ) (s t u : S) (k m n : Moment I O)
    → InTurn h Step most s k t m → (e : OneEnd) → end_by e ≡ None → Took h Step most e t m u n → InTurn h Step most s k u n
turn_by h Step most s t u k m n turns e none took =
    one_more t m u n turns (subst (λ (x : OneEnd). Took h Step most x t m u n) (goes_on e none) took)

pub handed_by : (e : OneEnd) (P Q : Type 0) → end_by e ≡ None → HandsOn e P Q → P
handed_by e P Q none hands = subst (λ (x : OneEnd). HandsOn x P Q) (goes_on e none) hands

-- what holds of each end by a step holds of the one by this
by_step : (P : OneEnd → End → Type 0)
    → P steps.Last ends.Closed → P steps.Closed ends.Closed → ((held : ℕ) → P (steps.Torn held) (ends.Torn held)) → ((f : WireFault) → P (steps.Refused f) (ends.Refused f))
    → P steps.ReadFault ends.ReadFault → P steps.WriteFault ends.WriteFault
    → (e : OneEnd) (end : End) → end_by e ≡ Some end → P e end
by_step P at_last at_closed at_torn at_refused at_read at_write steps.Last end is = let q : ends.Closed ≡ end = cc (is) in subst (λ (x : End). P steps.Last x) q at_last
by_step P at_last at_closed at_torn at_refused at_read at_write steps.Closed end is = let q : ends.Closed ≡ end = cc (is) in subst (λ (x : End). P steps.Closed x) q at_closed
by_step P at_last at_closed at_torn at_refused at_read at_write (steps.Torn held) end is = let q : ends.Torn held ≡ end = cc (is) in subst (λ (x : End). P (steps.Torn held) x) q (at_torn held)
by_step P at_last at_closed at_torn at_refused at_read at_write (steps.Refused f) end is = let q : ends.Refused f ≡ end = cc (is) in subst (λ (x : End). P (steps.Refused f) x) q (at_refused f)
by_step P at_last at_closed at_torn at_refused at_read at_write steps.ReadFault end is = let q : ends.ReadFault ≡ end = cc (is) in subst (λ (x : End). P steps.ReadFault x) q at_read
by_step P at_last at_closed at_torn at_refused at_read at_write steps.WriteFault end is = let q : ends.WriteFault ≡ end = cc (is) in subst (λ (x : End). P steps.WriteFault x) q at_write
by_step P at_last at_closed at_torn at_refused at_read at_write steps.Answered end is = cc

pub links_by : {S : Type 0} (Step : S → Request → ReplyView → S → Type 0) (budget : ℕ) (s t u : S) (now : ℕ) (known mid left before written next : Option (List ℕ))
    → SoFar Step s t now known mid before written → now < budget → (e : OneEnd) (end : End) → end_by e ≡ Some end
    → Did Step e t u mid left written next → Links Step budget ⊥ end s u known before next
links_by Step budget s t u now known mid left before written next so_far some =
    by_step (λ (e : OneEnd) (end : End). Did Step e t u mid left written next → Links Step budget ⊥ end s u known before next)
    (λ did. inr (ended_last Step budget s t u now known mid left before written next so_far some did))
    (λ did. inl (ended_so Step budget s t u now known mid left before written next so_far _ some did))
    (λ held did. ended_so Step budget s t u now known mid left before written next so_far _ some did)
    (λ f did. ended_so Step budget s t u now known mid left before written next so_far _ some did)
    (λ did. broke_reading Step budget s t u now known mid left before written next so_far (few now budget some) did)
    (λ did. broke Step budget s t u now known mid left before written next so_far ⊥ some did)
  where
    few : (i n : ℕ) → i < n → i ≤ n
    few i n lt = omega arith

pub finishes_by : {S I O : Type 0} (h : Handles I O) (Step : S → Request → ReplyView → S → Type 0) (most : Option ℕ) (s t : S) (k n : Moment I O) (e : OneEnd) (end : End) → end_by e ≡ Some end
    → Took h Step most e s k t n → Finishes h Step most end s k t n
finishes_by {S = S} {I = I} {O = O} h Step most s t k n =
    by_step (λ (e : OneEnd) (end : End). Took h Step most e s k t n → Finishes h Step most end s k t n)
    (λ took. inr took) (λ took. inl took) (λ held took. took) (λ f took. took) (λ took. took) (λ took. took)

pub flushed_by : {O : Type 0} (flushed written : O → Option (List ℕ)) (P : Type 0) (k n : O) → (P → flushed k ≡ written k) → (e : OneEnd) (end : End) → end_by e ≡ Some end
    → HandsOn e (flushed n ≡ written n) (n ≡ k) → UnlessUnwritten end (P → flushed n ≡ written n)
flushed_by {O = O} flushed written P k n before =
    by_step (λ (e : OneEnd) (end : End). HandsOn e (flushed n ≡ written n) (n ≡ k) → UnlessUnwritten end (P → flushed n ≡ written n))
    (λ done p. done) still (λ held. still) (λ f done p. done) still (λ done. tt)
  where
    still : n ≡ k → P → flushed n ≡ written n
    still is p = subst (λ (o : O). flushed o ≡ written o) (sym is) (before p)

pub blames_by : (P Q R W : Type 0) → (P → R) → (Q → W) → (e : OneEnd) (end : End) → end_by e ≡ Some end → Blames e P Q → LinkBlames end R W
blames_by P Q R W read write =
    by_step (λ (e : OneEnd) (end : End). Blames e P Q → LinkBlames end R W)
    (λ h. tt) (λ h. tt) (λ held h. tt) (λ f h. tt) read write
