-- What the end of a dump, or of a restoring, tells of its exchanges.
use Rattle.std.specs.Prelude.{◌≡◌, ◌/◌, ◌+◌, ◌<◌, ℕ, true, false, List, [], ◌∷◌, ◌++◌, length}
use Rattle.kj_value.specs.Json.{Json}
use Rattle.edge_io.specs.Exchanges.{Exchange}
use Rattle.place.specs.Place.{Names}
use Rattle.wire_client.specs.Calls.{lists}
use Rattle.wire_client.specs.Answers.{given, long, code}
use Rattle.far_migrate.specs.Answered.{Did, conflict}
use Rattle.far_migrate.specs.Pages.{objects_of, token_of, is_empty}
use Rattle.record_dump.specs.Lines.{ended, lines_of}
use Rattle.record_dump.specs.Dumps.{Walk, at_first, goes_on, after_page}
use Rattle.record_dump.specs.Restores.{IsLine, Says, post_of}

-- ---- a dump that is done

-- One list from there to its last page, each page asked for with the token of the one before, and its objects in order.
pub data Lists (n : Names) : Walk → List Exchange → List Json → Type 0 where
  last : (a : Walk) (j : Json) (e : Exchange) → Did n (lists a.limit a.token) e (given j) → goes_on a j ≡ true → is_empty (token_of j) ≡ true → Lists n a (e ∷ []) (objects_of j)
  page : (a : Walk) (j : Json) (e : Exchange) (es : List Exchange) (js : List Json) → Did n (lists a.limit a.token) e (given j) → goes_on a j ≡ true → is_empty (token_of j) ≡ false
      → Lists n (after_page a j) es js → Lists n a (e ∷ es) (objects_of j ++ js)
  shorter : (a : Walk) (e : Exchange) (es : List Exchange) (js : List Json) → Did n (lists a.limit a.token) e long → 1 < a.limit → Lists n (record a { limit = a.limit / 2 }) es js → Lists n a (e ∷ es) js

-- The exchanges are one whole list, of so many objects, and what was written is their lines.
pub record IsWhole (n : Names) (es : List Exchange) (w : List ℕ) (k : ℕ) : Type 0 where
  pub objects : List Json
  pub lists : Lists n at_first es objects
  pub wrote : w ≡ lines_of objects
  pub count : k ≡ length objects

-- ---- a restoring that is done

-- each with its line feed, one after the other
abbrev pub joined : List (List ℕ) → List ℕ
joined [] = []
joined (line ∷ lines) = ended line ++ joined lines

-- Each line was posted by one exchange, in order: so many objects were created, and so many were there already.
pub data Posts (n : Names) : List (List ℕ) → List Exchange → ℕ → ℕ → Type 0 where
  none : Posts n [] [] 0 0
  created : (line : List ℕ) (lines : List (List ℕ)) (j k : Json) (e : Exchange) (es : List Exchange) (c p : ℕ) → IsLine line → Says n line j → Did n (post_of j) e (given k)
      → Posts n lines es c p → Posts n (line ∷ lines) (e ∷ es) (c + 1) p
  present : (line : List ℕ) (lines : List (List ℕ)) (j : Json) (e : Exchange) (es : List Exchange) (c p : ℕ) → IsLine line → Says n line j → Did n (post_of j) e (code conflict)
      → Posts n lines es c p → Posts n (line ∷ lines) (e ∷ es) c (p + 1)

-- The input was lines, each of which was posted.
pub record IsPosted (n : Names) (bytes : List ℕ) (es : List Exchange) (c p : ℕ) : Type 0 where
  pub lines : List (List ℕ)
  pub input : bytes ≡ joined lines
  pub posts : Posts n lines es c p
