-- For private clauses: what posting a line comes to, and where a restoring stands in memory.
use Rattle.std.specs.Prelude.{◌≡◌, ◌≤◌, ◌<◌, ◌+◌, ⊤, ℕ, List, [], ◌++◌, Result, Ok, Err}
use Rattle.kj_value.specs.Json.{Json}
use Rattle.kj_value.specs.Seen.{json}
use Rattle.kj_value.specs.declared.value.JVal.{JVal}
use Rattle.edge_io.specs.Exchanges.{Exchange}
use Rattle.place.specs.Place.{Names}
use Rattle.wire_client.specs.Far.{Server, Told, Made}
use Rattle.wire_client.specs.Answers.{Reply, given, broken, long, gone, code, shape}
use Rattle.wire_client.specs.Ends.{Came, Lacked}
use Rattle.wire_client.specs.declared.end.WireEnd.{WireEnd}
use Rattle.wire_client.specs.declared.end.WireEnd.TheVariants as wire
use Rattle.far_migrate.specs.Answered.{conflict}
use Rattle.record_dump.specs.Restores as restores
use Rattle.record_dump.specs.Restores.{Says, post_of, FailsPost, Restores, lines_in, most_lines}
use Rattle.record_dump.specs.inner.Lined.{Lies}
use Rattle.record_dump.specs.declared.ends.RestoreEnd.{RestoreEnd}
use Rattle.record_dump.specs.declared.ends.RestoreEnd.TheVariants as ends
use Rattle.record_dump.specs.declared.posting.Posted.{Posted}
use Rattle.record_dump.specs.declared.posting.Posted.TheVariants as posted
use Rattle.record_dump.specs.declared.posting.Unposted.{Unposted}
use Rattle.record_dump.specs.declared.posting.Unposted.TheVariants as unposted
use Rattle.record_dump.specs.declared.lines.Unread.{Unread}
use Rattle.record_dump.specs.declared.lines.Unread.TheVariants as unread
use Rattle.record_dump.specs.declared.lines.Unlined.{Unlined}
use Rattle.record_dump.specs.declared.lines.Unlined.TheVariants as unlined
use Rattle.record_dump.specs.declared.restoring.Counts.{Counts}
use Rattle.record_dump.specs.declared.restoring.Next.{Next}
use Rattle.record_dump.specs.declared.restoring.Next.TheVariants as next

-- ---- a line

-- what reading it comes to
abbrev pub IsRead : Names → List ℕ → Result JVal Unposted → Type 0
IsRead n line (Ok v) = Says n line (json v)
IsRead n line (Err unposted.Bad) = (j : Json) → Says n line j → ⊥
IsRead n line (Err unposted.Link) = ⊥
IsRead n line (Err (unposted.Answer c)) = ⊥
IsRead n line (Err unposted.NoMemory) = ⊤

-- what a reply to a post comes to
abbrev pub PostReply : Reply → Result Posted Unposted → Type 0
PostReply r (Ok posted.Created) = ⊥
PostReply r (Ok posted.Present) = r ≡ code conflict
PostReply r (Err unposted.Bad) = ⊥
PostReply r (Err unposted.Link) = r ≡ broken
PostReply r (Err (unposted.Answer c)) = (i : ℕ) → FailsPost i r (ends.Answer i c)
PostReply r (Err unposted.NoMemory) = ⊥

-- what the end of a post comes to
abbrev pub PostEnds : WireEnd → Result Posted Unposted → Type 0
PostEnds wire.LinkFault x = PostReply broken x
PostEnds wire.TooLong x = PostReply long x
PostEnds wire.Gone x = PostReply gone x
PostEnds (wire.Code c) x = PostReply (code c) x
PostEnds (wire.Shape path) x = PostReply (shape path.bytes) x
PostEnds wire.NoMemory x = x ≡ Err unposted.NoMemory

-- what posting an object comes to
abbrev pub PostMade : Server → Told → Told → Names → Json → Result Posted Unposted → Type 0
PostMade s before now n j (Ok posted.Created) = (k : Json) × Came s before now n (post_of j) (given k)
PostMade s before now n j (Ok posted.Present) = Came s before now n (post_of j) (code conflict)
PostMade s before now n j (Err unposted.Bad) = ⊥
PostMade s before now n j (Err unposted.Link) = Came s before now n (post_of j) broken
PostMade s before now n j (Err (unposted.Answer c)) = (r : Reply) × Came s before now n (post_of j) r × ((i : ℕ) → FailsPost i r (ends.Answer i c))
PostMade s before now n j (Err unposted.NoMemory) = Lacked s before now n (post_of j)

-- what posting a line comes to: it says no object, memory was wanted to read it, or its object was posted
pub data LineMade (s : Server) (before now : Told) (n : Names) (line : List ℕ) : Result Posted Unposted → Type 0 where
  bad : ((j : Json) → Says n line j → ⊥) → Made s before now [] → LineMade s before now n line (Err unposted.Bad)
  starved : Made s before now [] → LineMade s before now n line (Err unposted.NoMemory)
  posts : (j : Json) (r : Result Posted Unposted) → Says n line j → PostMade s before now n j r → LineMade s before now n line r

-- P holds where an exchange failed
abbrev pub OnLink : Type 0 → Unposted → Type 0
OnLink P unposted.Bad = ⊤
OnLink P unposted.Link = P
OnLink P (unposted.Answer c) = ⊤
OnLink P unposted.NoMemory = ⊤

-- ---- ends

abbrev pub unread_as : Unread → RestoreEnd
unread_as unread.Failed = ends.ReadFault
unread_as unread.NoMemory = ends.NoMemory

abbrev pub unlined_as : ℕ → Unlined → RestoreEnd
unlined_as i (unlined.Unread x) = unread_as x
unlined_as i unlined.TooLong = ends.BadLine i
unlined_as i unlined.Cut = ends.Cut i

abbrev pub unposted_as : ℕ → Unposted → RestoreEnd
unposted_as i unposted.Bad = ends.BadLine i
unposted_as i unposted.Link = ends.LinkFault
unposted_as i (unposted.Answer c) = ends.Answer i c
unposted_as i unposted.NoMemory = ends.NoMemory

-- ---- between two lines

abbrev pub counts_of : Counts → restores.Counts
counts_of t = record { created = t.created; present = t.present }

-- one more line was posted
abbrev pub added : Posted → restores.Counts → restores.Counts
added posted.Created t = record t { created = t.created + 1 }
added posted.Present t = record t { present = t.present + 1 }

abbrev pub AreFew : Counts → Type 0
AreFew t = lines_in (counts_of t) ≤ most_lines

-- a line lies there whole, or the restoring ended without a post
abbrev pub IsNextLine : restores.Counts → List ℕ → List ℕ → Result ℕ RestoreEnd → Type 0
IsNextLine t all held (Ok len) = (held ≡ all) × Lies all len × (lines_in t < most_lines)
IsNextLine t all held (Err d) = (n : Names) → Restores n t all [] d

-- what follows from there follows from before
abbrev pub Leads : Names → restores.Counts → List ℕ → List Exchange → restores.Counts → Type 0
Leads n t used es u = (rest : List ℕ) (fs : List Exchange) (d : RestoreEnd) → Restores n u rest fs d → Restores n t (used ++ rest) (es ++ fs) d

-- one line of these bytes was posted, or the restoring ended there
abbrev pub Steps : Names → restores.Counts → List ℕ → List Exchange → restores.Counts → List ℕ → Next → Type 0
Steps n t bytes es u held next.More = (used : List ℕ) × (bytes ≡ used ++ held) × Leads n t used es u × (lines_in u ≡ lines_in t + 1)
Steps n t bytes es u held (next.Ended d) = Restores n t bytes es d

-- what follows of an end
abbrev pub OnEnded : (RestoreEnd → Type 0) → Next → Type 0
OnEnded P next.More = ⊤
OnEnded P (next.Ended d) = P d
