-- What files in memory are seen as.
use Rattle.std.specs.Prelude.{◌≡◌, ◌⊎◌, ℕ, List, find, option_map, Option, None, nat_eq, Result, Ok, Err}
use Rattle.std.specs.Cmp.Lexicographic.{pointwise}
use Rattle.edge_io.specs.Calls.{Calls, IsListed, answered, failed}
use Rattle.edge_io.specs.declared.files.FileFault.{FileFault}
use Rattle.edge_io.specs.declared.files.FileFault.TheVariants.{Failed, TooLong, NotText, NoMemory}

-- a path, and the bytes of its file
pub record File : Type 0 where
  pub path : List ℕ
  pub bytes : List ℕ

-- the bytes of the first file of that path
abbrev pub file_at : List File → List ℕ → Option (List ℕ)
file_at files path = option_map (λ f. f.bytes) (find (λ f. pointwise nat_eq f.path path) files)

-- the files, and the calls
pub record FilesState : Type 0 where
  pub files : List File
  pub calls : Calls

-- the call is one of those that are to fail, or no file has the path
abbrev pub FailsAt : FilesState → List ℕ → Type 0
FailsAt s path = IsListed s.calls ⊎ (file_at s.files path ≡ None)

-- the calls after one with that answer
abbrev pub after_reading : {T : Type 0} → Calls → Result T FileFault → Calls
after_reading calls (Ok text) = answered calls
after_reading calls (Err Failed) = failed calls
after_reading calls (Err TooLong) = answered calls
after_reading calls (Err NotText) = answered calls
after_reading calls (Err NoMemory) = answered calls
