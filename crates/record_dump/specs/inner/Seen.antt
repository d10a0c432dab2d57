-- For private clauses: where a dump and a restoring stand in memory, and what ends of calls come to.
use Rattle.std.specs.Prelude.{◌≡◌, ◌≤◌, ◌<◌, ◌+◌, ◌-◌, ⊤, ℕ, List, [], ◌∷◌, ◌++◌}
use Rattle.kj_value.specs.Json.{Json}
use Rattle.edge_io.specs.Exchanges.{Exchange}
use Rattle.place.specs.Place.{Names}
use Rattle.wire_client.specs.Calls.{lists}
use Rattle.wire_client.specs.Answers.{Reply, given, broken, long, gone, code, shape}
use Rattle.wire_client.specs.Ends.{IsPage}
use Rattle.wire_client.specs.declared.end.ListPage.{ListPage}
use Rattle.wire_client.specs.declared.end.WireEnd.{WireEnd}
use Rattle.wire_client.specs.declared.end.WireEnd.TheVariants as wire
use Rattle.far_migrate.specs.Answered.{Did, expired}
use Rattle.far_migrate.specs.Pages.{most_objects}
use Rattle.record_dump.specs.Dumps as dumps
use Rattle.record_dump.specs.Dumps.{Dumps, FailsList, OnBrokenOff}
use Rattle.record_dump.specs.declared.ends.DumpEnd.{DumpEnd}
use Rattle.record_dump.specs.declared.ends.DumpEnd.TheVariants as ends
use Rattle.record_dump.specs.declared.dumping.Turned.{Turned}
use Rattle.record_dump.specs.declared.dumping.Turned.TheVariants as turned
use Rattle.record_dump.specs.declared.dumping.Unlisted.{Unlisted}
use Rattle.record_dump.specs.declared.dumping.Unlisted.TheVariants as unlisted
use Rattle.record_dump.specs.declared.line.Unsent.{Unsent}
use Rattle.record_dump.specs.declared.line.Unsent.TheVariants as unsent
use Rattle.record_dump.specs.declared.walk.Walk.{Walk}

-- ---- a dump

abbrev pub walk_of : Walk → dumps.Walk
walk_of w = record { limit = w.limit; token = w.token.bytes; last = w.last; listed = w.listed }

abbrev pub IsWalking : Walk → Type 0
IsWalking w = w.listed ≤ most_objects

-- what may still be listed and halved
abbrev pub left_in : dumps.Walk → ℕ
left_in a = (most_objects - a.listed) + a.limit

-- P holds where writing failed
abbrev pub OnUnsent : Type 0 → Unsent → Type 0
OnUnsent P unsent.Failed = P
OnUnsent P unsent.NoMemory = ⊤

abbrev pub unsent_as : Unsent → DumpEnd
unsent_as unsent.Failed = ends.WriteFault
unsent_as unsent.NoMemory = ends.NoMemory

-- what follows of an end
abbrev pub OnEnded : (DumpEnd → Type 0) → Turned → Type 0
OnEnded P turned.More = ⊤
OnEnded P (turned.Ended d) = P d

-- P holds between two pages, and where the dump broke off
abbrev pub OnTurned : Type 0 → Turned → Type 0
OnTurned P turned.More = P
OnTurned P (turned.Ended d) = OnBrokenOff P d

-- the reply that an end of a list tells; want of memory tells none
abbrev pub OnReply : (Reply → Type 0) → Type 0 → WireEnd → Type 0
OnReply P starved wire.LinkFault = P broken
OnReply P starved wire.TooLong = P long
OnReply P starved wire.Gone = P gone
OnReply P starved (wire.Code c) = P (code c)
OnReply P starved (wire.Shape path) = P (shape path.bytes)
OnReply P starved wire.NoMemory = starved

-- what a dump comes to by that reply to a list
abbrev pub ListReply : Unlisted → Reply → Type 0
ListReply unlisted.TooLong r = r ≡ long
ListReply (unlisted.Ended (ends.Done lines)) r = ⊥
ListReply (unlisted.Ended ends.LinkFault) r = FailsList r ends.LinkFault
ListReply (unlisted.Ended ends.WriteFault) r = ⊥
ListReply (unlisted.Ended (ends.Answer c)) r = FailsList r (ends.Answer c)
ListReply (unlisted.Ended ends.Expired) r = r ≡ code expired
ListReply (unlisted.Ended ends.NoMemory) r = ⊥

abbrev pub ListEnds : WireEnd → Unlisted → Type 0
ListEnds end x = OnReply (ListReply x) (x ≡ unlisted.Ended ends.NoMemory) end

-- what follows from there follows from before
abbrev pub Leads : Names → dumps.Walk → List Exchange → List ℕ → dumps.Walk → Type 0
Leads n a es w b = (fs : List Exchange) (v : List ℕ) (d : DumpEnd) → Dumps n b fs v d → Dumps n a (es ++ fs) (w ++ v) d

-- the exchanges of one page, and what it wrote
abbrev pub Turns : Names → dumps.Walk → List Exchange → List ℕ → dumps.Walk → Turned → Type 0
Turns n a es w b turned.More = Leads n a es w b × (left_in b < left_in a)
Turns n a es w b (turned.Ended d) = Dumps n a es w d

-- the same where the page is there already
abbrev pub TakesPage : Walk → ListPage → List ℕ → Walk → Turned → Type 0
TakesPage a p w b result = (n : Names) (j : Json) (e : Exchange) → Did n (lists a.limit a.token.bytes) e (given j) → IsPage j p → Turns n (walk_of a) (e ∷ []) w (walk_of b) result
