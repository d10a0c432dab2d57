-- What a run of a line comes to, whatever the outside does: by cases on the line, and on how it ended. A new line is a new case.
use Rattle.std.specs.Prelude.{◌≡◌, ℕ, List}
use Rattle.std.specs.Io.KnownBytes.{IsAtEnd}
use Rattle.place.specs.Place.{IsPlace, PlaceView}
use Rattle.crd_meaning.specs.Definition.{Definition}
use Rattle.serve_input.specs.Conversed.{MayRise}
use Rattle.serve_input.specs.declared.conversing.PipeEnd.{PipeEnd}
use Rattle.command_lines.specs.Lines.{Source, built_in, by_rules, by_converter, Listening, Task, Line, pipe, task, drill, serve, migrate, dump, load, remote}
use Rattle.kubeconv_cmd.specs.World.{World, held, written_before, written, flushed, left, FilesFail, InputFails, OutputFails, FilesStay, InputStays, OutputStays, EarsStay, LinksStay, Says, OfInput, streams, hearing}
use Rattle.kubeconv_cmd.specs.Sources.{Loaded, with_rules, meaning_in, faults_in, DrillsExample, Means, Refuses, IsAddressless}
use Rattle.kubeconv_cmd.specs.Serving.{Conversation, Service}
use Rattle.kubeconv_cmd.specs.Tasks.{AnswersDocument, RefusesDocument, KnowsTarget, LacksTarget, Wrote, Broke}
use Rattle.kubeconv_cmd.specs.Remote.{MigrateOutcome, DumpOutcome, LoadOutcome}
use Rattle.kubeconv_cmd.specs.Status.{line_saying, pipe_status, refusal_line}
use Rattle.kubeconv_cmd.specs.declared.status.TheConstants.{DONE, BAD_WORDS, REFUSED, BAD_INPUT, READ_FAILED, WRITE_FAILED, NO_MEMORY}

-- ---- no definition

-- Why the line did nothing: a file couldn't be read; something of one is refused, and the error line names the file and says why; memory was
-- wanted, for the definition or for what works by it; or its converter has no address, and nothing was touched.
pub data Stopped {F S K E A L I O : Type 0} (w : World F S K E A L I O) (source : Source) (status : ℕ) : Type 0 where
  unreadable : status ≡ READ_FAILED → FilesFail w → Stopped w source status
  refused : (name why : List ℕ) → status ≡ REFUSED → Refuses (held w) source name why → Says w (refusal_line name why) → Stopped w source status
  wanting : status ≡ NO_MEMORY → Stopped w source status
  addressless : status ≡ BAD_WORDS → IsAddressless source → FilesStay w → LinksStay w → Stopped w source status

-- ---- `pipe`

pub data PipeOutcome {F S K E A L I O : Type 0} (w : World F S K E A L I O) (source : Source) (turns status : ℕ) : Type 0 where
  -- a conversation was held to some end, and the status is that of the end
  conversed : (l : Loaded) (end : PipeEnd) → Means (held w) source l
      → Conversation (meaning_in l) (MayRise (faults_in l)) w.start turns (streams w) (InputFails w) (OutputFails w) end → status ≡ pipe_status end → PipeOutcome w source turns status
  -- none was: nothing was read of the input, and nothing written
  unserved : Stopped w source status → InputStays w → OutputStays w → PipeOutcome w source turns status

-- ---- `convert` and `review`

-- What a definition made of the input. That there is no version of the name is told before anything is read.
pub data TaskEnd {F S K E A L I O : Type 0} (w : World F S K E A L I O) (d : Definition) (t : Task) (status : ℕ) : Type 0 where
  -- the whole input was read, and its line was written and handed on
  wrote_line : status ≡ DONE → OfInput w (λ b. Wrote (AnswersDocument d t b) (written_before w) (written w)) → IsAtEnd (left w) → flushed w ≡ written w → TaskEnd w d t status
  -- a front of its line was written, and then the output failed
  broke_line : status ≡ WRITE_FAILED → OutputFails w → OfInput w (λ b. Broke (AnswersDocument d t b) (written_before w) (written w)) → TaskEnd w d t status
  -- the input is refused, and the error line says why
  refused_input : (why : List ℕ) → status ≡ BAD_INPUT → OfInput w (λ b. RefusesDocument d b t why) → Says w (line_saying why) → OutputStays w → TaskEnd w d t status
  -- the input couldn't be read
  unread_input : status ≡ READ_FAILED → InputFails w → OutputStays w → TaskEnd w d t status
  -- memory was wanted for the input or for its line
  wanting_task : status ≡ NO_MEMORY → OutputStays w → TaskEnd w d t status

pub data TaskOutcome {F S K E A L I O : Type 0} (w : World F S K E A L I O) (source : Source) (t : Task) (status : ℕ) : Type 0 where
  did_task : (d : Definition) → Means (held w) source (with_rules d) → KnowsTarget d t → TaskEnd w d t status → TaskOutcome w source t status
  -- nothing was read of the input
  targetless : (d : Definition) (why : List ℕ) → Means (held w) source (with_rules d) → LacksTarget d t why → status ≡ BAD_INPUT → Says w (line_saying why)
      → InputStays w → OutputStays w → TaskOutcome w source t status
  unloaded_task : Stopped w source status → InputStays w → OutputStays w → TaskOutcome w source t status

-- ---- `drill`

pub data DrillOutcome {F S K E A L I O : Type 0} (w : World F S K E A L I O) (start count status : ℕ) : Type 0 where
  -- what is told of the drill was written and handed on
  wrote_drill : status ≡ DONE → Wrote (DrillsExample start count) (written_before w) (written w) → flushed w ≡ written w → DrillOutcome w start count status
  -- a front of that was written, and then the output failed
  broke_drill : status ≡ WRITE_FAILED → OutputFails w → Broke (DrillsExample start count) (written_before w) (written w) → DrillOutcome w start count status
  wanting_drill : status ≡ NO_MEMORY → OutputStays w → DrillOutcome w start count status

-- ---- `serve`

pub data ServeOutcome {F S K E A L I O : Type 0} (w : World F S K E A L I O) (source : Source) (s : Listening) (status : ℕ) : Type 0 where
  served : (l : Loaded) → Means (held w) source l → Service (faults_in l) w.tells.sides (meaning_in l) w.start s (hearing w) status → ServeOutcome w source s status
  unloaded_service : Stopped w source status → OutputStays w → EarsStay w → ServeOutcome w source s status

-- ---- any line

-- P holds of a definition without a converter
abbrev pub IfRuled : Source → Type 0 → Type 0
IfRuled built_in P = P
IfRuled (by_rules crd rules) P = P
IfRuled (by_converter crd hub url) P = Unit {0}

-- The run of the line came to this status. `serve` reads no input, and the other lines ask nothing of the ears; a drill reads no file either, and no
-- input, nor does a line that works on a server from outside, of which `load` alone reads the input. Without a converter or such a server nothing
-- is asked of the links.
abbrev pub Outcome : {F S K E A L I O : Type 0} → World F S K E A L I O → Line → ℕ → Type 0
Outcome w (pipe source turns) status = PipeOutcome w source turns status × EarsStay w × IfRuled source (LinksStay w)
Outcome w (task crd rules t) status = TaskOutcome w (by_rules crd rules) t status × EarsStay w × LinksStay w
Outcome w (drill start count) status = DrillOutcome w start count status × FilesStay w × InputStays w × EarsStay w × LinksStay w
Outcome w (serve source s) status = ServeOutcome w source s status × InputStays w × IfRuled source (LinksStay w)
Outcome w (remote migrate url) status = MigrateOutcome w url status × FilesStay w × InputStays w × EarsStay w
Outcome w (remote dump url) status = DumpOutcome w url status × FilesStay w × InputStays w × EarsStay w
Outcome w (remote load url) status = LoadOutcome w url status × FilesStay w × EarsStay w

-- the line works at an address that is that of no place, or has a converter at an address that is none
abbrev pub IsPlaceless : Line → Type 0
IsPlaceless (pipe source turns) = IsAddressless source
IsPlaceless (task crd rules t) = ⊥
IsPlaceless (drill start count) = ⊥
IsPlaceless (serve source s) = IsAddressless source
IsPlaceless (remote work url) = (p : PlaceView) → IsPlace url p → ⊥

-- P holds of the place of a line of `serve`
abbrev pub IfServes : Line → (List ℕ → Type 0) → Type 0
IfServes (pipe source turns) P = Unit {0}
IfServes (task crd rules t) P = Unit {0}
IfServes (drill start count) P = Unit {0}
IfServes (serve source s) P = P s.place
IfServes (remote work url) P = Unit {0}
