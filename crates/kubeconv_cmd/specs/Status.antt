-- The status of a run, and what it says of a fault.
use Rattle.std.specs.Prelude.{◌==◌, ◌++◌, ℕ, List, [], codes, decimal, if◌then◌else◌}
use Rattle.http_wire.specs.Stream.{End, closed, closing, spent, torn, refused}
use Rattle.place.specs.declared.PlaceFault.{PlaceFault}
use Rattle.place.specs.declared.PlaceFault.TheVariants as places
use Rattle.record_dump.specs.declared.ends.DumpEnd.{DumpEnd}
use Rattle.record_dump.specs.declared.ends.DumpEnd.TheVariants as dumps
use Rattle.record_dump.specs.declared.ends.RestoreEnd.TheVariants as restores
use Rattle.far_lines.specs.declared.end.MigrateEnd.{MigrateEnd}
use Rattle.far_lines.specs.declared.end.MigrateEnd.TheVariants as migrations
use Rattle.far_lines.specs.declared.end.LoadEnd.{LoadEnd}
use Rattle.far_lines.specs.declared.end.LoadEnd.TheVariants as loads
use Rattle.serve_input.specs.declared.conversing.PipeEnd.{PipeEnd}
use Rattle.serve_input.specs.declared.conversing.PipeEnd.TheVariants.{Closed, Torn, Refused, Spent, ReadFault, WriteFault}
use Rattle.kubeconv_cmd.specs.declared.status.TheConstants.{DONE, BAD_WORDS, REFUSED, BAD_INPUT, READ_FAILED, WRITE_FAILED, NO_MEMORY, LISTEN_FAILED, CUT, TOO_MANY, LINK_FAILED, BAD_ANSWER, UNSETTLED}

-- the status of the end of an input
abbrev pub status_of : End → ℕ
status_of closed = DONE
status_of closing = DONE
status_of (torn held) = CUT
status_of (refused f) = CUT
status_of spent = TOO_MANY

-- the status of a conversation's end
abbrev pub pipe_status : PipeEnd → ℕ
pipe_status Closed = DONE
pipe_status ReadFault = READ_FAILED
pipe_status WriteFault = WRITE_FAILED
pipe_status (Torn held) = CUT
pipe_status (Refused f) = CUT
pipe_status Spent = TOO_MANY

-- the words of an error line for a status
abbrev pub fault_text : ℕ → List ℕ
fault_text status =
    if status == BAD_WORDS then codes "bad command line" else (
    if status == READ_FAILED then codes "read failed" else (
    if status == NO_MEMORY then codes "out of memory" else (
    if status == LISTEN_FAILED then codes "listening failed" else (
    if status == CUT then codes "request cut or refused" else (
    if status == LINK_FAILED then codes "link failed" else (
    if status == UNSETTLED then codes "contested" else codes "too many requests"))))))

-- an error line that says this
abbrev pub line_saying : List ℕ → List ℕ
line_saying text = codes "kubeconv: " ++ (text ++ codes "\n")

-- the line that a status puts on the error stream: nothing where the run is done, and where the output failed. A refused
-- file has a line that names it.
unfoldable pub error_line : ℕ → List ℕ
error_line status =
    if status == DONE then [] else (
    if status == WRITE_FAILED then [] else line_saying (fault_text status))

-- the line that names a refused file and says why
unfoldable pub refusal_line : List ℕ → List ℕ → List ℕ
refusal_line name why = codes "kubeconv: " ++ (name ++ (codes ": " ++ (why ++ codes "\n")))

-- the line that names the code of an answer for which there is no rule
unfoldable pub answer_line : ℕ → List ℕ
answer_line code = codes "kubeconv: answer " ++ (decimal code ++ codes "\n")

-- the line that names the number of a line of the input that is refused
unfoldable pub bad_line : ℕ → List ℕ
bad_line number = codes "kubeconv: line " ++ (decimal number ++ codes "\n")

-- ---- how a run ends

-- what is told of an end: a status that has a line of its own; or that a file is refused, or the input, or a line of it, or an answer
pub data Told : Type 0 where
  plainly : ℕ → Told
  of_file : (name why : List ℕ) → Told
  of_input : (why : List ℕ) → Told
  of_line : (number : ℕ) → Told
  of_answer : (code : ℕ) → Told

abbrev pub status_told : Told → ℕ
status_told (plainly status) = status
status_told (of_file name why) = REFUSED
status_told (of_input why) = BAD_INPUT
status_told (of_line number) = BAD_INPUT
status_told (of_answer code) = BAD_ANSWER

abbrev pub line_told : Told → List ℕ
line_told (plainly status) = error_line status
line_told (of_file name why) = refusal_line name why
line_told (of_input why) = line_saying why
line_told (of_line number) = bad_line number
line_told (of_answer code) = answer_line code

abbrev pub migration_told : MigrateEnd → Told
migration_told migrations.Done = plainly DONE
migration_told migrations.Contested = plainly UNSETTLED
migration_told migrations.BadPlace = plainly BAD_WORDS
migration_told migrations.LinkFault = plainly LINK_FAILED
migration_told (migrations.Answer code) = of_answer code
migration_told migrations.Restarted = plainly UNSETTLED
migration_told migrations.WriteFault = plainly WRITE_FAILED
migration_told migrations.NoMemory = plainly NO_MEMORY

abbrev pub place_told : PlaceFault → Told
place_told places.BadPlace = plainly BAD_WORDS
place_told places.NoMemory = plainly NO_MEMORY

abbrev pub dump_told : DumpEnd → Told
dump_told (dumps.Done lines) = plainly DONE
dump_told dumps.LinkFault = plainly LINK_FAILED
dump_told dumps.WriteFault = plainly WRITE_FAILED
dump_told (dumps.Answer code) = of_answer code
dump_told dumps.Expired = plainly UNSETTLED
dump_told dumps.NoMemory = plainly NO_MEMORY

abbrev pub load_told : LoadEnd → Told
load_told (loads.Restored (restores.Done created present)) = plainly DONE
load_told (loads.Restored restores.LinkFault) = plainly LINK_FAILED
load_told (loads.Restored restores.ReadFault) = plainly READ_FAILED
load_told (loads.Restored (restores.BadLine number)) = of_line number
load_told (loads.Restored (restores.Cut number)) = plainly CUT
load_told (loads.Restored restores.TooMany) = plainly TOO_MANY
load_told (loads.Restored (restores.Answer number code)) = of_answer code
load_told (loads.Restored restores.NoMemory) = plainly NO_MEMORY
load_told (loads.WriteFault created present) = plainly WRITE_FAILED
