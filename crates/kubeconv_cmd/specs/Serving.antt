-- What it is to answer an input, or connections beside each other, by what a definition means to requests.
use Rattle.std.specs.Prelude.{◌≡◌, ◌<◌, ◌≤◌, ◌⊎◌, ◌+◌, ℕ, List, [], ◌∷◌, length, Option, Some, IfSome}
use Rattle.kube_meta.specs.declared.limits.TheConstants.Limits.{STANDING}
use Rattle.api_calls.specs.Item.{Logged}
use Rattle.api_calls.specs.Legal.{IsLegal}
use Rattle.api_calls.specs.Meaning.{Meaning}
use Rattle.edge_io.specs.Causes.{Rose}
use Rattle.edge_io.specs.Connections.{Origin, Ending}
use Rattle.http_front.specs.Link.{UnlessUnwritten}
use Rattle.serve_spans.specs.Owners.{At, Within, IsOfWorker}
use Rattle.serve_spans.specs.Served.{Among, origins_of, HandsOutAll, AddsAll, AreAll, AreWorkers}
use Rattle.serve_spans.specs.Spans.{Span, AllServed, AreApart}
use Rattle.serve_many.specs.Answered.{IsAnswered, Sides}
use Rattle.serve_input.specs.Conversed.{Blames, Conversed, IsPaced, Start, Streams, front_of, link_end}
use Rattle.serve_input.specs.declared.conversing.PipeEnd.{PipeEnd}
use Rattle.output_lines.specs.Listening.{Told, ToldSome, Announced}
use Rattle.command_lines.specs.Lines.{Listening}
use Rattle.kubeconv_cmd.specs.declared.status.TheConstants.{DONE, WRITE_FAILED, NO_MEMORY, LISTEN_FAILED}

-- The input, where it is told, was answered to this end. Each answer was handed on before more was read, and unless the output failed, what is
-- written is handed on, also where the input failed. A fault of the input has one cause, and one of the output another.
pub record Conversation {I O : Type 0} (m : Meaning) (fails : Type 0) (start : Start) (turns : ℕ) (s : Streams I O) (reads writes : Type 0) (end : PipeEnd) : Type 0 where
  pub conversed : (b : List ℕ) → s.tell.left s.input_before ≡ Some b
      → Conversed (front_of m start) fails turns b (s.tell.written s.output_before) (s.tell.written s.output) end
  pub paced : IsPaced s (front_of m start) fails turns end
  pub blames : Blames end reads writes
  pub hands_on : UnlessUnwritten (link_end end) (s.tell.flushed s.output_before ≡ s.tell.written s.output_before → s.tell.flushed s.output ≡ s.tell.written s.output)

-- ---- connections

-- So many connections were handed out, and as many were given back, with so many workers asked for beside them. One list tells what they were
-- answered: it is legal, begins with nothing entered, and has for each connection a span in which one pass served it. No two share an item, and
-- each item is one of a connection's or a worker's. Each pass has a tool, whose faults are counted so.
pub record AnsweredAll {A I O : Type 0} (faults : A → ℕ) (k : Sides I O) (m : Meaning) (start : Start) (asked count : ℕ) (h0 handed : Option (List Origin)) (g0 given : Option (List Ending)) : Type 0 where
  pub log : List Logged
  pub legal : IsLegal m STANDING log
  pub origins : List (Option Origin)
  pub endings : List Ending
  pub spans : List Span
  pub handed_out : HandsOutAll h0 origins handed
  pub given_back : AddsAll g0 endings given
  pub counted : (length origins ≡ count) × (length endings ≡ count)
  pub each : (o : Option Origin) → Among o origins → Among o (origins_of endings)
  pub served : AllServed (IsAnswered faults k (front_of m start)) log endings spans
  pub apart : AreApart spans
  -- The pass of the number 0 accepts, and these are all that there were. So many workers have no thread, and each of the others has a pass of its own.
  pub passes : List ℕ
  pub idle : ℕ
  pub workers : List ℕ
  pub are_workers : AreWorkers (0 ∷ []) passes spans workers
  pub hired : length workers + idle ≡ asked
  -- the passes that were made for workers whose thread wasn't started
  pub spared : List ℕ
  pub few : length spared ≤ idle
  -- each pass is one of these
  pub all : AreAll (0 ∷ []) passes spans workers spared
  -- the first pass takes the turns of workers without a thread
  pub owned : (i : ℕ) (x : Logged) → At log i x → Within spans i x ⊎ IsOfWorker (Some 0) idle workers spared x

-- what is told of ears and an output before and behind that
pub record Hearing : Type 0 where
  pub handed_before : Option (List Origin)
  pub handed : Option (List Origin)
  pub returned_before : Option (List Ending)
  pub returned : Option (List Ending)
  pub faults_before : ℕ
  pub faults : ℕ
  pub written_before : Option (List ℕ)
  pub written : Option (List ℕ)
  pub flushed : Option (List ℕ)
  pub output_faults_before : ℕ
  pub output_faults : ℕ

-- so many connections were answered, behind the line that names the place where they come, which was handed on
abbrev pub Answers : {A I O : Type 0} → (A → ℕ) → Sides I O → Meaning → Start → Listening → Hearing → ℕ → Type 0
Answers faults k m start s h count = Announced h.written_before h.written h.flushed × AnsweredAll faults k m start s.workers count h.handed_before h.handed h.returned_before h.returned

-- none was handed out, and none was given back
abbrev pub IsUnheard : Hearing → Type 0
IsUnheard h = (h.handed ≡ h.handed_before) × (h.returned ≡ h.returned_before)

-- nothing was written, or that line
abbrev pub MayHaveTold : Hearing → Type 0
MayHaveTold h = (h.written ≡ h.written_before) ⊎ Told h.written_before h.written

-- how serving connections ends
pub data Service {A I O : Type 0} (faults : A → ℕ) (k : Sides I O) (m : Meaning) (start : Start) (s : Listening) (h : Hearing) (status : ℕ) : Type 0 where
  -- as many were answered as were asked for
  answered : (count : ℕ) → status ≡ DONE → s.connections ≡ Some count → Answers faults k m start s h count → Service faults k m start s h status
  -- or fewer, as no further one could be had
  answered_fewer : (count : ℕ) → status ≡ LISTEN_FAILED → Rose h.faults_before h.faults → IfSome s.connections (λ n. count < n) → Answers faults k m start s h count
      → Service faults k m start s h status
  -- nobody can listen at the place, or no connection could be had
  unheard : status ≡ LISTEN_FAILED → Rose h.faults_before h.faults → MayHaveTold h → IsUnheard h → Service faults k m start s h status
  -- a front of the line was written, and then the output failed
  untold : status ≡ WRITE_FAILED → Rose h.output_faults_before h.output_faults → ToldSome h.written_before h.written → IsUnheard h → Service faults k m start s h status
  -- memory was wanted before any connection came
  wanting_service : status ≡ NO_MEMORY → MayHaveTold h → IsUnheard h → Service faults k m start s h status
