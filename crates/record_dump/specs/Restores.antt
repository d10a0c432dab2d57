-- How the lines of an input are posted, and how that ends.
use Rattle.std.specs.Prelude.{◌≡◌, ◌≢◌, ◌+◌, ◌<◌, ◌≤◌, ◌&&◌, ⊤, ℕ, Bool, true, List, [], ◌∷◌, ◌++◌, length}
use Rattle.kj_value.specs.Characters.{line_feed}
use Rattle.kj_value.specs.Json.{Json}
use Rattle.kj_value.specs.Reading.{Reads}
use Rattle.kube_meta.specs.Names.{is_name, is_namespace}
use Rattle.edge_io.specs.Exchanges.{Exchange}
use Rattle.place.specs.Place.{Names}
use Rattle.wire_client.specs.Calls.{Call, posts}
use Rattle.wire_client.specs.Answers.{Reply, given, broken, long, gone, code, shape}
use Rattle.wire_client.specs.Forms.{api_version, fields_of, has_version, key_in}
use Rattle.far_migrate.specs.Answered.{Did, Asked, conflict, not_found}
use Rattle.record_dump.specs.Lines.{ended}
use Rattle.record_dump.specs.declared.ends.RestoreEnd.{RestoreEnd}
use Rattle.record_dump.specs.declared.ends.RestoreEnd.TheVariants as ends

-- ---- lines

-- the bytes of a line, at most
abbrev pub most_bytes : ℕ
most_bytes = 1_048_576

-- the lines of an input, at most
abbrev pub most_lines : ℕ
most_lines = 1_000_000

-- the levels of lists and objects of a line's value, at most
abbrev pub most_levels : ℕ
most_levels = 64

-- no line ends among the bytes
abbrev pub AreInLine : List ℕ → Type 0
AreInLine [] = ⊤
AreInLine (b ∷ bs) = (b ≢ line_feed) × AreInLine bs

pub record IsLine (line : List ℕ) : Type 0 where
  pub inside : AreInLine line
  pub short : length line ≤ most_bytes

-- an object of that version, with a namespace and a name
abbrev pub is_object_of : List ℕ → Json → Bool
is_object_of version j = has_version version (fields_of j) && is_namespace (key_in (fields_of j)).ns && is_name (key_in (fields_of j)).name

-- the line is such an object of the place's version
pub record Says (n : Names) (line : List ℕ) (j : Json) : Type 0 where
  pub reads : Reads line most_levels j
  pub object : is_object_of (api_version n) j ≡ true

-- its post, to its own namespace
abbrev pub post_of : Json → Call
post_of j = posts (key_in (fields_of j)).ns j

-- ---- its ends

-- so many lines were created, and so many were there already
pub record Counts : Type 0 where
  pub created : ℕ
  pub present : ℕ

abbrev pub none_yet : Counts
none_yet = record { created = 0; present = 0 }

-- the lines so far
abbrev pub lines_in : Counts → ℕ
lines_in t = t.created + t.present

-- the number of the next line
abbrev pub next_line : Counts → ℕ
next_line t = lines_in t + 1

-- what an answer to a post comes to, unless the object was created or is there already
abbrev pub FailsPost : ℕ → Reply → RestoreEnd → Type 0
FailsPost i (given j) d = ⊥
FailsPost i broken d = d ≡ ends.LinkFault
FailsPost i long d = d ≡ ends.Answer i 0
FailsPost i gone d = d ≡ ends.Answer i not_found
FailsPost i (code c) d = (c ≢ conflict) × (d ≡ ends.Answer i c)
FailsPost i (shape path) d = d ≡ ends.Answer i 0

-- From there on these bytes were read and these exchanges made, up to that end.
pub data Restores (n : Names) : Counts → List ℕ → List Exchange → RestoreEnd → Type 0 where
  done : (t : Counts) → Restores n t [] [] (ends.Done t.created t.present)
  created : (t : Counts) (line rest : List ℕ) (j k : Json) (e : Exchange) (es : List Exchange) (d : RestoreEnd) → lines_in t < most_lines → IsLine line → Says n line j
      → Did n (post_of j) e (given k) → Restores n (record t { created = t.created + 1 }) rest es d → Restores n t (ended line ++ rest) (e ∷ es) d
  present : (t : Counts) (line rest : List ℕ) (j : Json) (e : Exchange) (es : List Exchange) (d : RestoreEnd) → lines_in t < most_lines → IsLine line → Says n line j
      → Did n (post_of j) e (code conflict) → Restores n (record t { present = t.present + 1 }) rest es d → Restores n t (ended line ++ rest) (e ∷ es) d
  fails : (t : Counts) (line rest : List ℕ) (j : Json) (e : Exchange) (r : Reply) (d : RestoreEnd) → lines_in t < most_lines → IsLine line → Says n line j
      → Did n (post_of j) e r → FailsPost (next_line t) r d → Restores n t (ended line ++ rest) (e ∷ []) d
  -- the line says no such object
  bad : (t : Counts) (line rest : List ℕ) → lines_in t < most_lines → IsLine line → ((j : Json) → Says n line j → ⊥) → Restores n t (ended line ++ rest) [] (ends.BadLine (next_line t))
  too_long : (t : Counts) (front rest : List ℕ) → lines_in t < most_lines → AreInLine front → most_bytes < length front → Restores n t (front ++ rest) [] (ends.BadLine (next_line t))
  -- the input ends inside of the line
  cut : (t : Counts) (front : List ℕ) → lines_in t < most_lines → 0 < length front → IsLine front → Restores n t front [] (ends.Cut (next_line t))
  too_many : (t : Counts) (rest : List ℕ) → most_lines ≤ lines_in t → 0 < length rest → Restores n t rest [] ends.TooMany
  unread : (t : Counts) (rest : List ℕ) → Restores n t rest [] ends.ReadFault
  -- memory was wanted before a post, or once it was answered
  starved : (t : Counts) (rest : List ℕ) → Restores n t rest [] ends.NoMemory
  unknown : (t : Counts) (line rest : List ℕ) (j : Json) (e : Exchange) → lines_in t < most_lines → IsLine line → Says n line j → Asked n (post_of j) e → Restores n t (ended line ++ rest) (e ∷ []) ends.NoMemory

-- ---- causes

-- P holds where an exchange failed, and Q where the input did
abbrev pub OnFaults : Type 0 → Type 0 → RestoreEnd → Type 0
OnFaults P Q (ends.Done c p) = ⊤
OnFaults P Q ends.LinkFault = P
OnFaults P Q ends.ReadFault = Q
OnFaults P Q (ends.BadLine i) = ⊤
OnFaults P Q (ends.Cut i) = ⊤
OnFaults P Q ends.TooMany = ⊤
OnFaults P Q (ends.Answer i c) = ⊤
OnFaults P Q ends.NoMemory = ⊤

-- P holds where the input was read to its end
abbrev pub OnEnd : Type 0 → RestoreEnd → Type 0
OnEnd P (ends.Done c p) = P
OnEnd P ends.LinkFault = ⊤
OnEnd P ends.ReadFault = ⊤
OnEnd P (ends.BadLine i) = ⊤
OnEnd P (ends.Cut i) = P
OnEnd P ends.TooMany = ⊤
OnEnd P (ends.Answer i c) = ⊤
OnEnd P ends.NoMemory = ⊤
