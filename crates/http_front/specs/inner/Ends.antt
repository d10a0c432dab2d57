-- For private clauses: the step at which a request is answered or isn't read, and how a connection ends by it.
use Rattle.std.specs.Prelude.{◌≡◌, ℕ, Bool, true, false, List, Option, None, Some}
use Rattle.std.specs.Io.KnownBytes.{append_known}
use Rattle.edge_io.specs.Sends.{AddsSome}
use Rattle.http_wire.specs.declared.WireFault.{WireFault}
use Rattle.http_wire.specs.declared.WireFault.TheVariants as faults
use Rattle.http_front.specs.Faults.{fault_words, IsHeadFault}
use Rattle.http_front.specs.declared.one.OneEnd.{OneEnd}
use Rattle.http_front.specs.declared.one.OneEnd.TheVariants.{Answered, Last, Closed, Torn, Refused, ReadFault, WriteFault}
use Rattle.http_front.specs.declared.link.End.{End}
use Rattle.http_front.specs.declared.link.End.TheVariants as ends

-- an answer to a request that asked for closing or didn't was written, or a front of it
abbrev pub Handed : Bool → List ℕ → Option (List ℕ) → Option (List ℕ) → OneEnd → Type 0
Handed closing words before written Answered = (closing ≡ false) × (written ≡ append_known before words)
Handed closing words before written Last = (closing ≡ true) × (written ≡ append_known before words)
Handed closing words before written WriteFault = AddsSome before written words
Handed closing words before written Closed = ⊥
Handed closing words before written (Torn held) = ⊥
Handed closing words before written (Refused f) = ⊥
Handed closing words before written ReadFault = ⊥

-- nothing was written, or the head was refused, and its response or a front of it was written
abbrev pub Stopped : WireFault → Option (List ℕ) → Option (List ℕ) → OneEnd → Type 0
Stopped f before written Closed = (f ≡ faults.Closed) × (written ≡ before)
Stopped f before written (Torn held) = (f ≡ faults.Torn held) × (written ≡ before)
Stopped f before written ReadFault = (f ≡ faults.ReadFault) × (written ≡ before)
Stopped f before written (Refused g) = IsHeadFault f × (f ≡ g) × (written ≡ append_known before (fault_words f))
Stopped f before written WriteFault = IsHeadFault f × AddsSome before written (fault_words f)
Stopped f before written Answered = ⊥
Stopped f before written Last = ⊥

-- how a connection ends by a step, if it does
abbrev pub end_by : OneEnd → Option End
end_by Answered = None
end_by Last = Some ends.Closed
end_by Closed = Some ends.Closed
end_by (Torn held) = Some (ends.Torn held)
end_by (Refused f) = Some (ends.Refused f)
end_by ReadFault = Some ends.ReadFault
end_by WriteFault = Some ends.WriteFault
