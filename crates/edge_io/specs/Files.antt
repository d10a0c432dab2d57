-- What the reading of a file answers.
use Rattle.std.specs.Prelude.{◌≡◌, ◌<◌, ◌≤◌, ⊤, ℕ, List, length, Result, Ok, Err, IsUtf8}
use Rattle.kj_value.specs.Txt.{Bytes}
use Rattle.edge_io.specs.declared.files.TheConstants.{MOST_FILE_BYTES}
use Rattle.edge_io.specs.declared.files.FileFault.{FileFault}
use Rattle.edge_io.specs.declared.files.FileFault.TheVariants.{Failed, TooLong, NotText, NoMemory}

-- a fault that the bytes of the file show: it is too long, or it is short enough and no text
abbrev pub ShowsFault : List ℕ → FileFault → Type 0
ShowsFault bytes Failed = ⊤
ShowsFault bytes TooLong = MOST_FILE_BYTES < length bytes
ShowsFault bytes NotText = (length bytes ≤ MOST_FILE_BYTES) × ¬ IsUtf8 bytes
ShowsFault bytes NoMemory = ⊤

-- the text of the file, which isn't too long, or a fault that its bytes show
abbrev pub ReadsFile : List ℕ → Result Bytes FileFault → Type 0
ReadsFile bytes (Ok text) = (length bytes ≤ MOST_FILE_BYTES) × IsUtf8 bytes × (text.bytes ≡ bytes)
ReadsFile bytes (Err fault) = ShowsFault bytes fault

-- where the fault is that the outside failed, P holds
abbrev pub OnFailed : FileFault → Type 0 → Type 0
OnFailed Failed P = P
OnFailed TooLong P = ⊤
OnFailed NotText P = ⊤
OnFailed NoMemory P = ⊤
