-- A whole connection: how it ended, and what was answered and written until then.
use Rattle.std.specs.Prelude.{◌≡◌, ◌⊎◌, ◌++◌, ℕ, List, [], ◌∷◌, Option, Some, true}
use Rattle.std.specs.Io.KnownBytes.{append_known}
use Rattle.edge_io.specs.Sends.{AddsSome}
use Rattle.api_calls.specs.Reply.{ReplyView}
use Rattle.http_wire.specs.Head.{Request}
use Rattle.http_wire.specs.Response.{says}
use Rattle.http_wire.specs.Stream.{Stops, closed, closing, spent, torn, refused}
use Rattle.http_wire.specs.declared.WireFault.{WireFault}
use Rattle.http_front.specs.Faults.{fault_words}
use Rattle.request_replies.specs.Replies.{wants_memory}
use Rattle.http_front.specs.Talk.{Exchange, asked, response_of, bytes_of, Steps, Conversation, Begins}
use Rattle.http_front.specs.declared.link.End.{End}
use Rattle.http_front.specs.declared.link.End.TheVariants.{Closed, Torn, Refused, ReadFault, WriteFault, Spent, NoMemory}

-- the one response where there is no memory for the connection, which asks for closing
abbrev pub memory_words : List ℕ
memory_words = says wants_memory.code wants_memory.text true

-- the first requests of the input
abbrev pub AreFirst : ℕ → Option (List ℕ) → List Exchange → Type 0
AreFirst budget known xs = (b : List ℕ) → known ≡ Some b → (rest : List ℕ) × Begins budget b (asked xs) rest

-- the first requests were answered, and their responses written
pub record BreaksReading {S : Type 0} (Step : S → Request → ReplyView → S → Type 0) (budget : ℕ) (s t : S) (known before written : Option (List ℕ)) : Type 0 where
  pub exchanges : List Exchange
  pub steps : Steps Step s exchanges t
  pub first : AreFirst budget known exchanges
  pub wrote : written ≡ append_known before (bytes_of exchanges)

-- What was to be written where a write failed: `whole` was written, and then `piece`, of which a front was. The piece is the last
-- answer's response, that of a head which is refused, or that of want of memory.
pub data Breaks (budget : ℕ) (unread : Type 0) (known : Option (List ℕ)) : List Exchange → List ℕ → List ℕ → Type 0 where
  answer : (xs : List Exchange) (x : Exchange) → Breaks budget unread known (xs ++ x ∷ []) (bytes_of xs) (response_of x)
  refusal : (xs : List Exchange) (f : WireFault)
      → ((b : List ℕ) → known ≡ Some b → (rest : List ℕ) × Begins budget b (asked xs) rest × Stops 1 rest (refused f))
      → Breaks budget unread known xs (bytes_of xs) (fault_words f)
  no_memory : unread → Breaks budget unread known [] [] memory_words

-- the first requests were answered, their responses written, and a front of one more
pub record BreaksWriting {S : Type 0} (Step : S → Request → ReplyView → S → Type 0) (budget : ℕ) (unread : Type 0) (s t : S) (known before written : Option (List ℕ)) : Type 0 where
  pub exchanges : List Exchange
  pub whole : List ℕ
  pub piece : List ℕ
  pub steps : Steps Step s exchanges t
  pub first : AreFirst budget known exchanges
  pub breaks : Breaks budget unread known exchanges whole piece
  pub some : AddsSome (append_known before whole) written piece

-- The connection ended so: its requests are those of all that the input held. `unread` says that nothing was read.
abbrev pub Links : {S : Type 0} → (S → Request → ReplyView → S → Type 0) → ℕ → Type 0 → End → S → S → Option (List ℕ) → Option (List ℕ) → Option (List ℕ) → Type 0
Links Step budget unread Closed s t known before written =
    Conversation Step budget s t known before written closed ⊎ Conversation Step budget s t known before written closing
Links Step budget unread (Torn held) s t known before written = Conversation Step budget s t known before written (torn held)
Links Step budget unread (Refused f) s t known before written = Conversation Step budget s t known before written (refused f)
Links Step budget unread Spent s t known before written = Conversation Step budget s t known before written spent
Links Step budget unread ReadFault s t known before written = BreaksReading Step budget s t known before written
Links Step budget unread WriteFault s t known before written = BreaksWriting Step budget unread s t known before written
Links Step budget unread NoMemory s t known before written = unread × (t ≡ s) × (written ≡ append_known before memory_words)

-- a fault of reading has this cause, and one of writing that
abbrev pub LinkBlames : End → Type 0 → Type 0 → Type 0
LinkBlames ReadFault read write = read
LinkBlames WriteFault read write = write
LinkBlames Closed read write = Unit {0}
LinkBlames (Torn held) read write = Unit {0}
LinkBlames (Refused f) read write = Unit {0}
LinkBlames Spent read write = Unit {0}
LinkBlames NoMemory read write = Unit {0}

-- at an end that isn't a fault of writing
abbrev pub UnlessUnwritten : End → Type 0 → Type 0
UnlessUnwritten WriteFault p = Unit {0}
UnlessUnwritten ReadFault p = p
UnlessUnwritten Closed p = p
UnlessUnwritten (Torn held) p = p
UnlessUnwritten (Refused f) p = p
UnlessUnwritten Spent p = p
UnlessUnwritten NoMemory p = p
