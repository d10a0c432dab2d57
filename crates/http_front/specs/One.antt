-- What one step of a connection does.
use Rattle.std.specs.Prelude.{◌≡◌, ◌⊎◌, ◌<◌, ℕ, Bool, true, false, List, Option, Some}
use Rattle.std.specs.Io.KnownBytes.{append_known}
use Rattle.edge_io.specs.Sends.{AddsSome}
use Rattle.api_calls.specs.Reply.{ReplyView}
use Rattle.http_wire.specs.Head.{Request, Reads}
use Rattle.http_wire.specs.Stream.{End, Stops, closed, torn, refused}
use Rattle.http_wire.specs.declared.WireFault.{WireFault}
use Rattle.http_front.specs.Faults.{fault_words, last_words}
use Rattle.http_front.specs.Talk.{Exchange, response_of}
use Rattle.http_front.specs.declared.one.OneEnd.{OneEnd}
use Rattle.http_front.specs.declared.one.OneEnd.TheVariants.{Answered, Last, Closed, Torn, Refused, ReadFault, WriteFault}

-- the request at the front of what is known, behind which `left` is
abbrev pub ReadsOne : Option (List ℕ) → Request → Option (List ℕ) → Type 0
ReadsOne known r left = (b : List ℕ) → known ≡ Some b → (rest : List ℕ) × (left ≡ Some rest) × Reads b r rest

-- one request was answered, which asked for closing or didn't
pub record AnswersOne {S : Type 0} (Step : S → Request → ReplyView → S → Type 0) (closes : Bool) (s t : S) (known left before written : Option (List ℕ)) : Type 0 where
  pub exchange : Exchange
  pub step : Step s exchange.request exchange.answer t
  pub reads : ReadsOne known exchange.request left
  pub asked : exchange.request.closing ≡ closes
  pub wrote : written ≡ append_known before (response_of exchange)

-- what is known ends so
abbrev pub IsEnded : Option (List ℕ) → End → Type 0
IsEnded known end = (b : List ℕ) → known ≡ Some b → (budget : ℕ) → 0 < budget → Stops budget b end

-- the input ends so, and the last words were written
pub record EndsInput {S : Type 0} (s t : S) (known before written : Option (List ℕ)) (end : End) : Type 0 where
  pub same : t ≡ s
  pub ended : IsEnded known end
  pub wrote : written ≡ append_known before (last_words end)

-- a request was answered, and a front of the response was written
pub record BreaksAnswer {S : Type 0} (Step : S → Request → ReplyView → S → Type 0) (s t : S) (known left before written : Option (List ℕ)) : Type 0 where
  pub exchange : Exchange
  pub step : Step s exchange.request exchange.answer t
  pub reads : ReadsOne known exchange.request left
  pub some : AddsSome before written (response_of exchange)

-- a head is refused, and a front of the one response was written
pub record BreaksRefusal {S : Type 0} (s t : S) (known before written : Option (List ℕ)) : Type 0 where
  pub fault : WireFault
  pub same : t ≡ s
  pub ended : IsEnded known (refused fault)
  pub some : AddsSome before written (fault_words fault)

-- What a step did with the input that is known, of which `left` is left, from the state s to t.
abbrev pub Did : {S : Type 0} → (S → Request → ReplyView → S → Type 0) → OneEnd → S → S → Option (List ℕ) → Option (List ℕ) → Option (List ℕ) → Option (List ℕ) → Type 0
Did Step Answered s t known left before written = AnswersOne Step false s t known left before written
Did Step Last s t known left before written = AnswersOne Step true s t known left before written
Did Step Closed s t known left before written = EndsInput s t known before written closed
Did Step (Torn held) s t known left before written = EndsInput s t known before written (torn held)
Did Step (Refused f) s t known left before written = EndsInput s t known before written (refused f)
Did Step ReadFault s t known left before written = (t ≡ s) × (written ≡ before)
Did Step WriteFault s t known left before written = BreaksAnswer Step s t known left before written ⊎ BreaksRefusal s t known before written

-- a fault of reading has this cause, and one of writing that
abbrev pub Blames : OneEnd → Type 0 → Type 0 → Type 0
Blames ReadFault read write = read
Blames WriteFault read write = write
Blames Answered read write = Unit {0}
Blames Last read write = Unit {0}
Blames Closed read write = Unit {0}
Blames (Torn held) read write = Unit {0}
Blames (Refused f) read write = Unit {0}

-- What a step wrote was handed on before it ended, unless that failed. Nothing was written where nothing was answered.
abbrev pub HandsOn : OneEnd → Type 0 → Type 0 → Type 0
HandsOn Answered flushed untouched = flushed
HandsOn Last flushed untouched = flushed
HandsOn (Refused f) flushed untouched = flushed
HandsOn Closed flushed untouched = untouched
HandsOn (Torn held) flushed untouched = untouched
HandsOn ReadFault flushed untouched = untouched
HandsOn WriteFault flushed untouched = Unit {0}

-- the input goes on with a head that is refused
abbrev pub IsRefused : Option (List ℕ) → Type 0
IsRefused known = (f : WireFault) × IsEnded known (refused f)

-- of a request that was answered, also where that couldn't be written; there it may have been a head that is refused
abbrev pub IfAnswered : OneEnd → Type 0 → Type 0 → Type 0
IfAnswered Answered p q = p
IfAnswered Last p q = p
IfAnswered WriteFault p q = p ⊎ q
IfAnswered Closed p q = Unit {0}
IfAnswered (Torn held) p q = Unit {0}
IfAnswered (Refused f) p q = Unit {0}
IfAnswered ReadFault p q = Unit {0}

-- the step of an answer
abbrev pub step_of : Bool → OneEnd
step_of true = Last
step_of false = Answered

-- a head was refused, and its response or a front of it was written
abbrev pub RefusesHead : WireFault → Option (List ℕ) → Option (List ℕ) → OneEnd → Type 0
RefusesHead f before written (Refused g) = (f ≡ g) × (written ≡ append_known before (fault_words f))
RefusesHead f before written WriteFault = AddsSome before written (fault_words f)
RefusesHead f before written Answered = ⊥
RefusesHead f before written Last = ⊥
RefusesHead f before written Closed = ⊥
RefusesHead f before written (Torn held) = ⊥
RefusesHead f before written ReadFault = ⊥
