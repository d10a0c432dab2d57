-- For private clauses: how the parts of a run end.
use Rattle.std.specs.Prelude.{◌≡◌, ◌<◌, ◌≤◌, ◌⊎◌, ℕ, List, Option, codes, length, Result, Ok, Err}
use Rattle.api_calls.specs.Meaning.{Fault}
use Rattle.api_calls.specs.Readings.{IsFaulty}
use Rattle.api_calls.specs.declared.versions.TheConstants.{OBJECT_LEVELS}
use Rattle.crd_meaning.specs.Definition.{Definition}
use Rattle.review_batch.specs.Answer.{IsNoRequest}
use Rattle.place.specs.declared.PlaceFault.{PlaceFault}
use Rattle.record_dump.specs.declared.ends.DumpEnd.{DumpEnd}
use Rattle.far_lines.specs.declared.end.LoadEnd.{LoadEnd}
use Rattle.serve_many.specs.Answered.{Sides}
use Rattle.serve_input.specs.Conversed.{Start}
use Rattle.serve_input.specs.declared.conversing.PipeEnd.{PipeEnd}
use Rattle.output_lines.specs.declared.listening.Unserved.{Unserved}
use Rattle.output_lines.specs.declared.listening.Unserved.TheVariants.{NotListening, WriteFailed, NoMemory as Wanting}
use Rattle.command_lines.specs.Lines.{Source, Listening}
use Rattle.kubeconv_cmd.specs.Sources.{Loaded, Means, Refuses, IsAddressless, meaning_in, faults_in, blame_text}
use Rattle.kubeconv_cmd.specs.Serving.{Hearing, Service, IsUnheard}
use Rattle.kubeconv_cmd.specs.Tasks.{IsWithout, fault_words, too_long, not_review}
use Rattle.kubeconv_cmd.specs.Status.{Told, plainly, of_file, of_input, dump_told, load_told, place_told, pipe_status}
use Rattle.kubeconv_cmd.specs.declared.input.TheConstants.{MOST_INPUT_BYTES}
use Rattle.kubeconv_cmd.specs.declared.input.Unread.{Unread}
use Rattle.kubeconv_cmd.specs.declared.input.Unread.TheVariants as unread
use Rattle.kubeconv_cmd.specs.declared.halt.Halt.{Halt}
use Rattle.kubeconv_cmd.specs.declared.halt.Halt.TheVariants as halts
use Rattle.kubeconv_cmd.specs.declared.stop.Why.{Why}
use Rattle.kubeconv_cmd.specs.declared.stop.Why.TheVariants as whys
use Rattle.kubeconv_cmd.specs.declared.stop.Stop.{Stop}
use Rattle.kubeconv_cmd.specs.declared.stop.Stop.TheVariants as stops
use Rattle.kubeconv_cmd.specs.declared.stop.Unmet.{Unmet}
use Rattle.kubeconv_cmd.specs.declared.stop.Unmet.TheVariants as unmet
use Rattle.kubeconv_cmd.specs.declared.status.TheConstants.{DONE, BAD_WORDS, READ_FAILED, WRITE_FAILED, NO_MEMORY, LISTEN_FAILED}

-- ---- no definition

-- why a file is refused, as the error line says it
abbrev pub why_text : Why → List ℕ
why_text whys.TooLong = codes "TooLong"
why_text whys.NotText = codes "NotText"
why_text (whys.At path word) = blame_text path.bytes word.bytes

-- why no definition was loaded: a file failed for this cause, this is refused of one, or an address isn't one, which has this cause
abbrev pub StopsBy : Type 0 → (List ℕ → List ℕ → Type 0) → Type 0 → Stop → Type 0
StopsBy fails P addressless stops.ReadFailed = fails
StopsBy fails P addressless (stops.Refused file why) = P file.now (why_text why)
StopsBy fails P addressless stops.BadAddress = addressless
StopsBy fails P addressless stops.NoMemory = Unit {0}

-- of a line with this source, where nothing was touched if its address is none
abbrev pub Stops : Type 0 → (List ℕ → Option (List ℕ)) → Source → Type 0 → Stop → Type 0
Stops fails file source untouched stop = StopsBy fails (Refuses file source) (IsAddressless source × untouched) stop

-- memory was wanted
abbrev pub IsWanting : Stop → Type 0
IsWanting stops.ReadFailed = ⊥
IsWanting (stops.Refused file why) = ⊥
IsWanting stops.BadAddress = ⊥
IsWanting stops.NoMemory = Unit {0}

abbrev pub stop_told : Stop → Told
stop_told stops.ReadFailed = plainly READ_FAILED
stop_told (stops.Refused file why) = of_file file.now (why_text why)
stop_told stops.BadAddress = plainly BAD_WORDS
stop_told stops.NoMemory = plainly NO_MEMORY

-- ---- the ends of lines

abbrev pub pipe_told : Result PipeEnd Stop → Told
pipe_told (Ok end) = plainly (pipe_status end)
pipe_told (Err stop) = stop_told stop

abbrev pub service_status : Result Unit Unserved → ℕ
service_status (Ok u) = DONE
service_status (Err NotListening) = LISTEN_FAILED
service_status (Err WriteFailed) = WRITE_FAILED
service_status (Err Wanting) = NO_MEMORY

abbrev pub met_of : Result Unit Unserved → Result Unit Unmet
met_of (Ok u) = Ok u
met_of (Err why) = Err (unmet.Unserved why)

abbrev pub serve_told : Result Unit Unmet → Told
serve_told (Ok u) = plainly DONE
serve_told (Err (unmet.Unserved why)) = plainly (service_status (Err why))
serve_told (Err (unmet.Stopped stop)) = stop_told stop

-- how a line of `serve` ends: by its definition it was served, or there is none
abbrev pub Serves : {I O : Type 0} → Sides I O → (List ℕ → Option (List ℕ)) → Source → Start → Listening → Hearing → Type 0 → Type 0 → Type 0 → Result Unit Unmet → Type 0
Serves k file source start s h fails untouched silent (Ok u) = (l : Loaded) × Means file source l × Service (faults_in l) k (meaning_in l) start s h DONE
Serves k file source start s h fails untouched silent (Err (unmet.Unserved why)) = (l : Loaded) × Means file source l × Service (faults_in l) k (meaning_in l) start s h (service_status (Err why))
Serves k file source start s h fails untouched silent (Err (unmet.Stopped stop)) = Stops fails file source untouched stop × silent

abbrev pub dumped_told : Result DumpEnd PlaceFault → Told
dumped_told (Ok d) = dump_told d
dumped_told (Err fault) = place_told fault

abbrev pub loaded_told : Result LoadEnd PlaceFault → Told
loaded_told (Ok e) = load_told e
loaded_told (Err fault) = place_told fault

-- ---- a document

-- where the input failed, P holds; where it is too long, Q does
abbrev pub OnUnread : Type 0 → Type 0 → Unread → Type 0
OnUnread P Q unread.Failed = P
OnUnread P Q unread.TooLong = Q
OnUnread P Q unread.NoMemory = Unit {0}

-- what holds where reading or writing failed, and of why the input is refused
pub record Reasons : Type 1 where
  pub reads : Type 0
  pub writes : Type 0
  pub input : List ℕ → Type 0

abbrev pub OnHalt : Reasons → Halt → Type 0
OnHalt r halts.ReadFailed = r.reads
OnHalt r halts.WriteFailed = r.writes
OnHalt r (halts.Input why) = r.input why.bytes
OnHalt r halts.NoMemory = Unit {0}

-- The version that is wanted is known; or it isn't, which is told, and nothing was read.
abbrev pub LacksOnly : {T : Type 0} → (List ℕ → Type 0) → Result T Halt → Type 0
LacksOnly lacks (Ok t) = ⊥
LacksOnly lacks (Err halt) = OnHalt (record { reads = ⊥; writes = ⊥; input = lacks }) halt

abbrev pub Asked : {T : Type 0} → Type 0 → Type 0 → (List ℕ → Type 0) → Result T Halt → Type 0
Asked known unread lacks result = known ⊎ (unread × LacksOnly lacks result)

-- where nothing was written, P holds
abbrev pub Unwritten : Type 0 → Halt → Type 0
Unwritten P halts.ReadFailed = P
Unwritten P halts.WriteFailed = Unit {0}
Unwritten P (halts.Input why) = P
Unwritten P halts.NoMemory = P

abbrev pub task_told : Result Unit Halt → Told
task_told (Ok u) = plainly DONE
task_told (Err halts.ReadFailed) = plainly READ_FAILED
task_told (Err halts.WriteFailed) = plainly WRITE_FAILED
task_told (Err (halts.Input why)) = of_input why.bytes
task_told (Err halts.NoMemory) = plainly NO_MEMORY

-- how a document comes to no answer where the input isn't had
abbrev pub Follows : Unread → Halt → Type 0
Follows unread.Failed halt = halt ≡ halts.ReadFailed
Follows unread.TooLong halt = OnHalt (record { reads = ⊥; writes = ⊥; input = λ why. why ≡ too_long }) halt
Follows unread.NoMemory halt = halt ≡ halts.NoMemory

-- why a document has no value at version v
pub data NoValue (d : Definition) (v : ℕ) (bytes : List ℕ) : List ℕ → Type 0 where
  long : MOST_INPUT_BYTES < length bytes → NoValue d v bytes too_long
  faulty : (f : Fault) → length bytes ≤ MOST_INPUT_BYTES → IsFaulty bytes OBJECT_LEVELS (IsWithout d v) f → NoValue d v bytes (fault_words f)

-- why a review has no answer
pub data NoAnswer (bytes : List ℕ) : List ℕ → Type 0 where
  long : MOST_INPUT_BYTES < length bytes → NoAnswer bytes too_long
  none : (path : List ℕ) → length bytes ≤ MOST_INPUT_BYTES → IsNoRequest bytes path → NoAnswer bytes (not_review path)
