-- What a run comes to where nothing fails, and what it comes to by its status.
use Rattle.std.specs.Prelude.{◌≡◌, ◌≢◌, ◌<◌, ◌≤◌, ◌⊎◌, ℕ, List, Option, Some, IfSome, length}
use Rattle.edge_io.specs.declared.files.TheConstants.{MOST_FILE_BYTES}
use Rattle.api_calls.specs.Legal.{legal}
use Rattle.http_wire.specs.Stream.{End}
use Rattle.http_wire.specs.declared.limits.TheConstants.{MOST_REQUESTS}
use Rattle.request_replies.specs.Replies.{Front}
use Rattle.http_front.specs.Talk.{Conversation}
use Rattle.http_address.specs.Address.{AddressView, IsAddress}
use Rattle.crd_meaning.specs.Definition.{Definition}
use Rattle.hook_versions.specs.Loads.{LoadsHook}
use Rattle.command_lines.specs.Lines.{Source, built_in, by_rules, by_converter, Task, Line, pipe, task, drill, serve, migrate, dump, load, remote}
use Rattle.output_lines.specs.Listening.{Told, ToldSome}
use Rattle.serve_input.specs.Conversed.{At, AnswersAndWorks, MayRise, front_of, opening}
use Rattle.kubeconv_cmd.specs.World.{World, held, written, written_before, Says}
use Rattle.kubeconv_cmd.specs.Sources.{Loaded, with_rules, DrillsExample, LoadsSet, Means, Refuses, faults_in, meaning_in}
use Rattle.kubeconv_cmd.specs.Status.{status_of, refusal_line}
use Rattle.kubeconv_cmd.specs.Tasks.{AnswersDocument, LacksTarget, RefusesDocument, Wrote}
use Rattle.kubeconv_cmd.specs.declared.status.TheConstants.{DONE, BAD_WORDS, REFUSED, BAD_INPUT, READ_FAILED, WRITE_FAILED, NO_MEMORY, LISTEN_FAILED, CUT, TOO_MANY}

-- the line waits for no connections
abbrev pub HearsNone : Line → Type 0
HearsNone (pipe source turns) = Unit {0}
HearsNone (task crd rules t) = Unit {0}
HearsNone (drill start count) = Unit {0}
HearsNone (serve source l) = ⊥
HearsNone (remote work url) = Unit {0}

-- the line writes nothing before it has all memory that it wants
abbrev pub WantsFirst : Line → Type 0
WantsFirst (pipe source turns) = Unit {0}
WantsFirst (task crd rules t) = Unit {0}
WantsFirst (drill start count) = Unit {0}
WantsFirst (serve source l) = ⊥
WantsFirst (remote migrate url) = Unit {0}
WantsFirst (remote dump url) = ⊥
WantsFirst (remote load url) = Unit {0}

-- the line works on no server from outside
abbrev pub IsLocal : Line → Type 0
IsLocal (pipe source turns) = Unit {0}
IsLocal (task crd rules t) = Unit {0}
IsLocal (drill start count) = Unit {0}
IsLocal (serve source l) = Unit {0}
IsLocal (remote work url) = ⊥

-- P holds of the source of the line, if it works by a definition of files or by the one that is built in
abbrev pub OfSource : Line → (Source → Type 0) → Type 0
OfSource (pipe source turns) P = P source
OfSource (task crd rules t) P = P (by_rules crd rules)
OfSource (drill start count) P = ⊥
OfSource (serve source l) P = P source
OfSource (remote work url) P = ⊥

-- something of the files is refused, and the error line names the file and says why
pub record Blames {F S K E A L I O : Type 0} (w : World F S K E A L I O) (source : Source) : Type 0 where
  pub name : List ℕ
  pub why : List ℕ
  pub refuses : Refuses (held w) source name why
  pub says : Says w (refusal_line name why)

-- ---- what files tell

-- they tell the texts of the source
abbrev pub IsToldBy : (List ℕ → Option (List ℕ)) → Source → Type 0
IsToldBy file built_in = Unit {0}
IsToldBy file (by_rules crd rules) = (c : List ℕ) × (r : List ℕ) × (file crd ≡ Some c) × (file rules ≡ Some r)
IsToldBy file (by_converter crd hub url) = (c : List ℕ) × (file crd ≡ Some c)

-- and these are short enough and load; a converter has an address
abbrev pub IsServed : (List ℕ → Option (List ℕ)) → Source → Type 0
IsServed file built_in = Unit {0}
IsServed file (by_rules crd rules) =
    (c : List ℕ) × (r : List ℕ) × (file crd ≡ Some c) × (file rules ≡ Some r) × (length c ≤ MOST_FILE_BYTES) × (length r ≤ MOST_FILE_BYTES) × (d : Definition) × LoadsSet c r d
IsServed file (by_converter crd hub url) =
    (c : List ℕ) × (file crd ≡ Some c) × (length c ≤ MOST_FILE_BYTES) × ((d : Definition) × LoadsHook c hub d) × (a : AddressView) × IsAddress url a

-- the line has such a definition, or needs no file
abbrev pub HasDefinition : (List ℕ → Option (List ℕ)) → Line → Type 0
HasDefinition file (pipe source turns) = IsServed file source
HasDefinition file (task crd rules t) = IsServed file (by_rules crd rules)
HasDefinition file (drill start count) = Unit {0}
HasDefinition file (serve source l) = IsServed file source
HasDefinition file (remote work url) = ⊥

-- ---- `pipe`

-- The input was answered whole, beginning with nothing entered. What was entered is a legal list, and the status is that of the
-- input's end.
pub record Answered (f : Front) (fails : Type 0) (turns : ℕ) (input : List ℕ) (before written : Option (List ℕ)) (status : ℕ) : Type 0 where
  pub end : End
  pub after : At
  pub is_legal : legal f.server.meaning f.server.limits after.log
  pub conversation : Conversation (AnswersAndWorks f fails turns) MOST_REQUESTS opening after (Some input) before written end
  pub is_status : status ≡ status_of end

-- no conversation was held: a file is refused, memory is wanted, a file can't be read, which has a cause, or a converter has no address
abbrev pub IsUnheld : Type 0 → Type 0 → ℕ → Type 0
IsUnheld files addressless status = (status ≡ REFUSED) ⊎ ((status ≡ NO_MEMORY) ⊎ (((status ≡ READ_FAILED) × files) ⊎ ((status ≡ BAD_WORDS) × addressless)))

-- ---- `convert` and `review`

-- A line of one document wrote the text that is written of the input, or the input or the version is refused and nothing was written.
pub data RanTask (d : Definition) (t : Task) (input : List ℕ) (before written : Option (List ℕ)) (status : ℕ) : Type 0 where
  answered : status ≡ DONE → Wrote (AnswersDocument d t input) before written → RanTask d t input before written status
  refused : (why : List ℕ) → status ≡ BAD_INPUT → RefusesDocument d input t why ⊎ LacksTarget d t why → written ≡ before → RanTask d t input before written status

-- ---- `serve`

-- Connections were answered after that was told, or none came: nobody can listen at the place, or no further connection could
-- be had.
pub data RanService (before written : Option (List ℕ)) (status : ℕ) : Type 0 where
  served : status ≡ DONE → Told before written → RanService before written status
  failed : status ≡ LISTEN_FAILED → (written ≡ before) ⊎ Told before written → RanService before written status

-- What was written and the status, whatever the outside did: without a definition nothing, and where it couldn't be told at which
-- place connections come a front of that.
pub data SaysOfService (before written : Option (List ℕ)) (status : ℕ) : Type 0 where
  told_all : status ≡ DONE → Told before written → SaysOfService before written status
  told_none : (status ≡ REFUSED) ⊎ ((status ≡ READ_FAILED) ⊎ (status ≡ BAD_WORDS)) → written ≡ before → SaysOfService before written status
  told_front : status ≡ WRITE_FAILED → ToldSome before written → SaysOfService before written status
  told_or_not : (status ≡ LISTEN_FAILED) ⊎ (status ≡ NO_MEMORY) → (written ≡ before) ⊎ Told before written → SaysOfService before written status

-- A run of `serve` came to this status. `answered` says that so many connections were handed out and given back, behind what is told of where it
-- listens, `rose` that the count of the ears' faults rose, and `untouched` that no connection was handed out.
pub record RunsService (connections : Option ℕ) (answered : ℕ → Type 0) (rose untouched : Type 0) (status : ℕ) : Type 0 where
  -- as many as were asked for
  pub done : status ≡ DONE → (count : ℕ) × (connections ≡ Some count) × answered count
  -- it can't listen, or fewer came
  pub failed : status ≡ LISTEN_FAILED → rose × (untouched ⊎ ((count : ℕ) × IfSome connections (λ n. count < n) × answered count))
  pub others : status ≢ DONE → status ≢ LISTEN_FAILED → untouched

-- ---- any line

-- What a line with a definition does with an input, where nothing fails: what is written behind what was, and the status.
abbrev pub Ran : {F S K E A L I O : Type 0} → World F S K E A L I O → Line → List ℕ → ℕ → Type 0
Ran w (pipe source turns) input status = (l : Loaded) × Means (held w) source l × Answered (front_of (meaning_in l) w.start) (MayRise (faults_in l)) turns input (written_before w) (written w) status
Ran w (task crd rules t) input status = (d : Definition) × Means (held w) (by_rules crd rules) (with_rules d) × RanTask d t input (written_before w) (written w) status
Ran w (drill start count) input status = (status ≡ DONE) × Wrote (DrillsExample start count) (written_before w) (written w)
Ran w (serve source l) input status = RanService (written_before w) (written w) status
Ran w (remote work url) input status = ⊥

-- A line that had its definition, where nothing failed: it is done, or memory was wanted; or its input was no whole conversation, or is
-- refused.
abbrev pub IsComplete : Line → ℕ → Type 0
IsComplete (pipe source turns) status = (status ≡ DONE) ⊎ ((status ≡ NO_MEMORY) ⊎ ((status ≡ CUT) ⊎ (status ≡ TOO_MANY)))
IsComplete (task crd rules t) status = (status ≡ DONE) ⊎ ((status ≡ NO_MEMORY) ⊎ (status ≡ BAD_INPUT))
IsComplete (drill start count) status = (status ≡ DONE) ⊎ (status ≡ NO_MEMORY)
IsComplete (serve source l) status = (status ≡ DONE) ⊎ (status ≡ NO_MEMORY)
IsComplete (remote work url) status = ⊥
