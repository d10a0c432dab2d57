-- The outside of a run: what the run found there, and what it left.
use Rattle.std.specs.Prelude.{◌≡◌, ℕ, List, Option, Some}
use Rattle.std.specs.Io.KnownBytes.{append_known}
use Rattle.edge_io.specs.Causes.{Rose}
use Rattle.edge_io.specs.Connections.{Origin, Ending}
use Rattle.tcp_links.specs.Links.{Ending as LinkEnding}
use Rattle.serve_many.specs.Answered.{Sides}
use Rattle.serve_input.specs.Conversed.{Start, Streams}
use Rattle.kubeconv_cmd.specs.Serving.{Hearing}

-- the states of the files, the input, the output, the error stream, the ears and the links
pub record Moment (F S K E A L : Type 0) : Type 0 where
  pub files : F
  pub input : S
  pub output : K
  pub errors : E
  pub ears : A
  pub links : L

-- What these tell in each of their states, and how often each has failed. Where one doesn't tell what a file holds, or bytes, or connections,
-- there is none.
pub record Tells (F S K E A L I O : Type 0) : Type 0 where
  -- what the file of a name holds
  pub file : F → List ℕ → Option (List ℕ)
  pub files_faults : F → ℕ
  -- the bytes that are left of the input, and how many one read gives at most
  pub left : S → Option (List ℕ)
  pub most : S → Option ℕ
  pub input_faults : S → ℕ
  -- what was written, and what of that was handed on
  pub written : K → Option (List ℕ)
  pub flushed : K → Option (List ℕ)
  pub output_faults : K → ℕ
  pub said : E → Option (List ℕ)
  pub errors_faults : E → ℕ
  -- the connections that were handed out, and those that were given back
  pub handed : A → Option (List Origin)
  pub returned : A → Option (List Ending)
  pub ears_faults : A → ℕ
  -- what the two sides of a connection tell
  pub sides : Sides I O
  -- the links that were given back
  pub linked : L → Option (List LinkEnding)

-- a moment before the run and one after it
pub record World (F S K E A L I O : Type 0) : Type 0 where
  pub tells : Tells F S K E A L I O
  pub start : Start
  pub before : Moment F S K E A L
  pub after : Moment F S K E A L

-- ---- in short

module _ {F S K E A L I O : Type 0} (w : World F S K E A L I O) where
  -- what a file holds, which no run changes
  abbrev pub held : List ℕ → Option (List ℕ)
  held name = w.tells.file w.before.files name

  abbrev pub input : Option (List ℕ)
  input = w.tells.left w.before.input

  abbrev pub left : Option (List ℕ)
  left = w.tells.left w.after.input

  abbrev pub written_before : Option (List ℕ)
  written_before = w.tells.written w.before.output

  abbrev pub written : Option (List ℕ)
  written = w.tells.written w.after.output

  abbrev pub flushed : Option (List ℕ)
  flushed = w.tells.flushed w.after.output

  abbrev pub linked_before : Option (List LinkEnding)
  linked_before = w.tells.linked w.before.links

  abbrev pub linked : Option (List LinkEnding)
  linked = w.tells.linked w.after.links

  -- it failed during the run
  abbrev pub FilesFail : Type 0
  FilesFail = Rose (w.tells.files_faults w.before.files) (w.tells.files_faults w.after.files)

  abbrev pub InputFails : Type 0
  InputFails = Rose (w.tells.input_faults w.before.input) (w.tells.input_faults w.after.input)

  abbrev pub OutputFails : Type 0
  OutputFails = Rose (w.tells.output_faults w.before.output) (w.tells.output_faults w.after.output)

  abbrev pub ErrorsFail : Type 0
  ErrorsFail = Rose (w.tells.errors_faults w.before.errors) (w.tells.errors_faults w.after.errors)

  abbrev pub EarsFail : Type 0
  EarsFail = Rose (w.tells.ears_faults w.before.ears) (w.tells.ears_faults w.after.ears)

  -- the run left it as it was
  abbrev pub FilesStay : Type 0
  FilesStay = w.after.files ≡ w.before.files

  abbrev pub InputStays : Type 0
  InputStays = w.after.input ≡ w.before.input

  abbrev pub OutputStays : Type 0
  OutputStays = w.after.output ≡ w.before.output

  abbrev pub EarsStay : Type 0
  EarsStay = w.after.ears ≡ w.before.ears

  abbrev pub LinksStay : Type 0
  LinksStay = w.after.links ≡ w.before.links

  -- no connection was handed out, and none was given back
  abbrev pub HearsNobody : Type 0
  HearsNobody = (w.tells.handed w.after.ears ≡ w.tells.handed w.before.ears) × (w.tells.returned w.after.ears ≡ w.tells.returned w.before.ears)

  -- this was written on the error stream, unless that failed
  abbrev pub Says : List ℕ → Type 0
  Says line = ¬ ErrorsFail → w.tells.said w.after.errors ≡ append_known (w.tells.said w.before.errors) line

  -- what is written on the output is handed on, if what had been written before was
  abbrev pub HasHandedOn : Type 0
  HasHandedOn = w.tells.flushed w.before.output ≡ written_before → flushed ≡ written

  -- P holds of the bytes of the input, where the input tells them
  abbrev pub OfInput : (List ℕ → Type 0) → Type 0
  OfInput P = (b : List ℕ) → input ≡ Some b → P b

  -- what a conversation reads and writes
  abbrev pub streams : Streams S K
  streams = record {
    tell = record { left = w.tells.left; written = w.tells.written; flushed = w.tells.flushed };
    most = w.tells.most w.before.input;
    input_before = w.before.input;
    input = w.after.input;
    output_before = w.before.output;
    output = w.after.output;
  }

  -- what is told of the ears and the output
  abbrev pub hearing : Hearing
  hearing = record {
    handed_before = w.tells.handed w.before.ears;
    handed = w.tells.handed w.after.ears;
    returned_before = w.tells.returned w.before.ears;
    returned = w.tells.returned w.after.ears;
    faults_before = w.tells.ears_faults w.before.ears;
    faults = w.tells.ears_faults w.after.ears;
    written_before = written_before;
    written = written;
    flushed = flushed;
    output_faults_before = w.tells.output_faults w.before.output;
    output_faults = w.tells.output_faults w.after.output;
  }
