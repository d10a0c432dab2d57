-- What it means that a connection was served, once it is closed.
use Rattle.std.specs.Prelude.{◌≡◌, ◌⊎◌, ◌+◌, ℕ, List, [], Option, IfSome}
use Rattle.api_calls.specs.Item.{Logged}
use Rattle.api_calls.specs.Meaning.{Meaning}
use Rattle.edge_io.specs.Causes.{Rose}
use Rattle.edge_io.specs.Connections.{Ending, HasAllLeft}
use Rattle.http_wire.specs.declared.limits.TheConstants.{MOST_REQUESTS}
use Rattle.http_front.specs.Link.{Links, LinkBlames, UnlessUnwritten}
use Rattle.http_front.specs.Paced.{Handles, Paced, IsUnserved}
use Rattle.request_replies.specs.Replies.{Front}
use Rattle.http_front.specs.Steps.{StepAnswers}
use Rattle.http_front.specs.declared.link.End.{End}
use Rattle.shared_api.specs.Base.{server_of}
use Rattle.shared_api.specs.declared.cell.CoreBase.{CoreBase}

-- the server, and the clock's one stamp where the clock tells it
abbrev pub front_of : {V : Type 0} → (V → Meaning) → CoreBase V → Option (List ℕ) → Front
front_of meaning base told = record { server = server_of meaning base; told = told }

-- what the two sides of a connection tell in each of their states, and how many bytes one read gives at most, where that is told
pub record Sides (I O : Type 0) : Type 0 where
  pub tell : Handles I O
  pub most : I → Option ℕ

abbrev pub sides : {I O : Type 0} → (I → Option (List ℕ)) → (I → Option ℕ) → (O → Option (List ℕ)) → (O → Option (List ℕ)) → Sides I O
sides left most written flushed = record { tell = record { left = left; written = written; flushed = flushed }; most = most }

-- The pass of the number n served the connection that ended so: its list went from p to q, and what `count` counts of its tool
-- rose so far. The requests are those that the connection's bytes spell, each is answered at a list between p and q, and what
-- was written is the responses. A fault of reading or of writing comes only where it was counted.
pub record IsAnswered {A I O : Type 0} (count : A → ℕ) (w : Sides I O) (f : Front) (n : ℕ) (p q : List Logged) (rose : ℕ) (e : Ending) : Type 0 where
  pub end : End
  -- the pass's tool at first, and as it was left
  pub tool : A
  pub left : A
  pub counted : count left ≡ count tool + rose
  -- what the connection is read from and written to, as they were handed out and as they were closed
  pub input_before : I
  pub input : I
  pub output_before : O
  pub output : O
  pub whole : HasAllLeft e.origin (w.tell.left input_before)
  pub empty : IfSome (w.tell.written output_before) (λ bytes. bytes ≡ [])
  pub written : e.written ≡ w.tell.written output
  pub flushed : e.flushed ≡ w.tell.flushed output
  pub links : Links (StepAnswers f n) MOST_REQUESTS (input ≡ input_before) end
      (record { seen = p; faults = count tool }) (record { seen = q; faults = count left }) (w.tell.left input_before) (w.tell.written output_before) e.written
  -- each answer was handed on before anything was read but what came with its request, unless nothing was read, for want of memory
  pub paced : (IsUnserved end × (input ≡ input_before)) ⊎ ((held : List ℕ)
      × Paced w.tell (StepAnswers f n) (w.most input_before) end
      (record { seen = p; faults = count tool }) (record { held = []; input = input_before; output = output_before })
      (record { seen = q; faults = count left }) (record { held = held; input = input; output = output }))
  -- all that was written was handed on, unless writing failed
  pub handed_on : UnlessUnwritten end (e.flushed ≡ e.written)
  pub blames : LinkBlames end (Rose 0 e.read_faults) (Rose 0 e.write_faults)
