-- For private clauses: what reading a line comes to.
use Rattle.std.specs.Prelude.{◌≡◌, ◌<◌, ⊤, ℕ, List, ◌++◌, length, Result, Ok, Err}
use Rattle.record_dump.specs.Lines.{ended}
use Rattle.record_dump.specs.Restores.{IsLine, AreInLine, most_bytes}
use Rattle.record_dump.specs.declared.lines.Unread.{Unread}
use Rattle.record_dump.specs.declared.lines.Unread.TheVariants as unread
use Rattle.record_dump.specs.declared.lines.Unlined.{Unlined}
use Rattle.record_dump.specs.declared.lines.Unlined.TheVariants as unlined

-- of so many bytes, the first of these
pub record Lies (bytes : List ℕ) (len : ℕ) : Type 0 where
  pub line : List ℕ
  pub rest : List ℕ
  pub split : bytes ≡ ended line ++ rest
  pub is_line : IsLine line
  pub len_is : length line ≡ len

-- the bytes begin with more than a line has
pub record IsLong (bytes : List ℕ) : Type 0 where
  pub front : List ℕ
  pub rest : List ℕ
  pub split : bytes ≡ front ++ rest
  pub inside : AreInLine front
  pub long : most_bytes < length front

-- of all that was read, and what is held now
abbrev pub IsRead : List ℕ → List ℕ → Result ℕ Unlined → Type 0
IsRead all held (Ok len) = (held ≡ all) × Lies all len
IsRead all held (Err (unlined.Unread x)) = ⊤
IsRead all held (Err unlined.TooLong) = IsLong all
IsRead all held (Err unlined.Cut) = IsLine all

-- P holds where reading failed
abbrev pub OnUnread : Type 0 → Unread → Type 0
OnUnread P unread.Failed = P
OnUnread P unread.NoMemory = ⊤

abbrev pub OnUnlined : Type 0 → Unlined → Type 0
OnUnlined P (unlined.Unread x) = OnUnread P x
OnUnlined P unlined.TooLong = ⊤
OnUnlined P unlined.Cut = ⊤

-- P holds where the input ended
abbrev pub OnCut : Type 0 → Unlined → Type 0
OnCut P (unlined.Unread x) = ⊤
OnCut P unlined.TooLong = ⊤
OnCut P unlined.Cut = P
