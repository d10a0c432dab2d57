-- What it is to answer the requests of an input, with turns of one worker after each answer.
use Rattle.std.specs.Prelude.{◌≡◌, ◌⊎◌, ◌+◌, ◌<◌, ℕ, List, [], Option, None, Some}
use Rattle.kube_meta.specs.declared.limits.TheConstants.Limits.{STANDING}
use Rattle.api_calls.specs.Calls.{Server}
use Rattle.api_calls.specs.Ends.{grown}
use Rattle.api_calls.specs.Item.{Item}
use Rattle.api_calls.specs.Legal.{legal}
use Rattle.api_calls.specs.Meaning.{Meaning}
use Rattle.api_calls.specs.Reply.{ReplyView}
use Rattle.api_calls.specs.State.{revision, state}
use Rattle.api_calls.specs.Work.{Turn, work_decision}
use Rattle.http_wire.specs.Head.{Request}
use Rattle.http_wire.specs.declared.limits.TheConstants.{MOST_REQUESTS}
use Rattle.http_front.specs.Link.{LinkBlames, Links}
use Rattle.http_front.specs.Paced.{Handles, Paced}
use Rattle.request_replies.specs.Replies.{Front, Replies}
use Rattle.http_front.specs.declared.link.End.{End as LinkEnd}
use Rattle.http_front.specs.declared.link.End.TheVariants as links
use Rattle.shared_api.specs.Steps.{IsToPrepare}
use Rattle.serve_input.specs.declared.conversing.PipeEnd.{PipeEnd}
use Rattle.serve_input.specs.declared.conversing.PipeEnd.TheVariants.{Closed, Torn, Refused, Spent, ReadFault, WriteFault}

-- the number of the server's start, and the one stamp of the clock where the clock tells it
pub record Start : Type 0 where
  pub boot : ℕ
  pub told : Option (List ℕ)

-- what no request changes, where definitions mean this
abbrev pub front_of : Meaning → Start → Front
front_of m start = record { server = record { meaning = m; limits = STANDING; boot = start.boot }; told = start.told }

-- ---- what may fail

-- a tool whose faults are counted so may fail: there are two states of it between which the count rises
abbrev pub MayRise : {A : Type 0} → (A → ℕ) → Type 0
MayRise {A} faults = (before : A) × (now : A) × (faults before < faults now)

-- ---- a server of one thread

-- The reply to a request at the history, and the history after it, which nothing but what the requests enter is in. The tool fails only
-- where it may.
pub record AnswersAlone (f : Front) (fails : Type 0) (log : List Item) (r : Request) (a : ReplyView) (after : List Item) : Type 0 where
  pub item : Option Item
  pub replies : Replies f fails log log r a item
  pub grows : after ≡ grown log item

-- ---- a worker beside it

-- the history, and the claim of the worker
pub record At : Type 0 where
  pub log : List Item
  pub claim : Option ℕ

-- nothing is entered, and the worker has no claim
abbrev pub opening : At
opening = record { log = []; claim = None }

-- what is decided of a turn of the worker
abbrev pub turn_at : Server → At → Turn
turn_at s p = work_decision (revision p.log + 1) (state s.meaning p.log) p.claim

-- where a turn leads
abbrev pub turned : Server → At → At
turned s p = record { log = grown p.log (turn_at s p).decision.item; claim = (turn_at s p).claim }

-- The worker takes a turn, which is as it is decided; or it is to prepare an object, memory is wanted for that or the tool fails, and nothing
-- changes.
abbrev pub TakesTurn : Server → At → At → Type 0
TakesTurn s p q = (q ≡ turned s p) ⊎ (IsToPrepare s.meaning p.log p.claim × (q ≡ p))

-- so many turns, one after the other
pub data TakesTurns (s : Server) (p : At) : ℕ → At → Type 0 where
  no_turn : TakesTurns s p 0 p
  one_more : (n : ℕ) (mid q : At) → TakesTurns s p n mid → TakesTurn s mid q → TakesTurns s p (n + 1) q

-- A request is answered at the history, and then the worker takes so many turns.
pub record AnswersAndWorks (f : Front) (fails : Type 0) (turns : ℕ) (p : At) (r : Request) (a : ReplyView) (q : At) : Type 0 where
  pub mid : List Item
  pub answers : AnswersAlone f fails p.log r a mid
  pub works : TakesTurns f.server (record { log = mid; claim = p.claim }) turns q

-- ---- a connection

-- how the connection ended
abbrev pub link_end : PipeEnd → LinkEnd
link_end Closed = links.Closed
link_end (Torn held) = links.Torn held
link_end (Refused f) = links.Refused f
link_end Spent = links.Spent
link_end ReadFault = links.ReadFault
link_end WriteFault = links.WriteFault

-- The input was answered from a history with nothing in it to this end, with so many turns of the worker after each answer, and
-- what was entered until then is a legal list. A fault of reading comes behind the answers to the first requests. A fault of writing
-- comes behind those and a front of one more response. A tool's fault ends nothing.
abbrev pub Conversed : Front → Type 0 → ℕ → List ℕ → Option (List ℕ) → Option (List ℕ) → PipeEnd → Type 0
Conversed f fails turns input before written end =
    (after : At) × legal f.server.meaning f.server.limits after.log × Links (AnswersAndWorks f fails turns) MOST_REQUESTS ⊥ (link_end end) opening after (Some input) before written

-- What a conversation reads and writes: what these tell in each of their states, how many bytes one read gives at most where that is told, and
-- the states in which they were found and left.
pub record Streams (I O : Type 0) : Type 0 where
  pub tell : Handles I O
  pub most : Option ℕ
  pub input_before : I
  pub input : I
  pub output_before : O
  pub output : O

-- Each request was answered, its answer was handed on and the worker took its turns before anything was read but what came with the request.
-- `held` is what was read that no request took.
abbrev pub IsPaced : {I O : Type 0} → Streams I O → Front → Type 0 → ℕ → PipeEnd → Type 0
IsPaced s f fails turns end = (after : At) × (held : List ℕ)
    × Paced s.tell (AnswersAndWorks f fails turns) s.most (link_end end)
    opening (record { held = []; input = s.input_before; output = s.output_before }) after (record { held = held; input = s.input; output = s.output })

-- a fault of reading has this cause, and one of writing that
abbrev pub Blames : PipeEnd → Type 0 → Type 0 → Type 0
Blames end reads writes = LinkBlames (link_end end) reads writes
