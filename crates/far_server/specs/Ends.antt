-- What the end of a dump tells.
use Rattle.std.specs.Prelude.{◌≡◌, ⊤, ℕ, List, Option}
use Rattle.std.specs.Io.KnownBytes.{append_known}
use Rattle.record_dump.specs.declared.ends.DumpEnd.{DumpEnd}
use Rattle.record_dump.specs.declared.ends.DumpEnd.TheVariants as ends

-- P holds of the number of lines where all was written
abbrev pub IfDone : DumpEnd → (ℕ → Type 0) → Type 0
IfDone (ends.Done lines) P = P lines
IfDone ends.LinkFault P = ⊤
IfDone ends.WriteFault P = ⊤
IfDone (ends.Answer c) P = ⊤
IfDone ends.Expired P = ⊤
IfDone ends.NoMemory P = ⊤

-- bytes were written behind those before, of which P holds with the number of lines where all was written
pub record Wrote (before now : Option (List ℕ)) (d : DumpEnd) (P : List ℕ → ℕ → Type 0) : Type 0 where
  pub bytes : List ℕ
  pub written : now ≡ append_known before bytes
  pub done : IfDone d (P bytes)
