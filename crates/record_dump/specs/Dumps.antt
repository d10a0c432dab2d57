-- How a dump goes from page to page, what it writes, and how it ends.
use Rattle.std.specs.Prelude.{◌≡◌, ◌≢◌, ◌+◌, ◌/◌, ◌<◌, ◌≤◌, ⊤, ℕ, Bool, true, false, List, [], ◌∷◌, ◌++◌, Option, None, length}
use Rattle.kj_value.specs.Json.{Json}
use Rattle.kube_meta.specs.Key.{KeyView}
use Rattle.edge_io.specs.Exchanges.{Exchange}
use Rattle.place.specs.Place.{Names}
use Rattle.wire_client.specs.Calls.{lists}
use Rattle.wire_client.specs.Answers.{Reply, given, broken, long, gone, code, shape}
use Rattle.far_migrate.specs.Answered.{Did, Asked, expired, not_found}
use Rattle.far_migrate.specs.Pages.{first_limit, objects_of, token_of, is_empty, last_key, goes_on_from}
use Rattle.record_dump.specs.Lines.{lines_of}
use Rattle.record_dump.specs.declared.ends.DumpEnd.{DumpEnd}
use Rattle.record_dump.specs.declared.ends.DumpEnd.TheVariants as ends

-- ---- between two pages

pub record Walk : Type 0 where
  -- the objects that the next page may have
  pub limit : ℕ
  -- of the next page; empty at the first one
  pub token : List ℕ
  -- the last key of the pages so far
  pub last : Option KeyView
  -- the objects of the pages so far
  pub listed : ℕ

abbrev pub at_first : Walk
at_first = record { limit = first_limit; token = []; last = None; listed = 0 }

-- The page goes on with its list: its keys rise behind those before it, there is one where another page follows, and there aren't too
-- many in all.
abbrev pub goes_on : Walk → Json → Bool
goes_on a j = goes_on_from a.last a.listed (objects_of j) (token_of j)

abbrev pub after_page : Walk → Json → Walk
after_page a j = record { limit = a.limit; token = token_of j; last = last_key a.last (objects_of j); listed = a.listed + length (objects_of j) }

-- ---- its ends

-- what an answer to a list comes to that gives no page, unless it is too long or its token is too old
abbrev pub FailsList : Reply → DumpEnd → Type 0
FailsList (given j) d = ⊥
FailsList broken d = d ≡ ends.LinkFault
FailsList long d = ⊥
FailsList gone d = d ≡ ends.Answer not_found
FailsList (code c) d = (c ≢ expired) × (d ≡ ends.Answer c)
FailsList (shape path) d = d ≡ ends.Answer 0

-- a page's lines weren't written whole, or not handed on
abbrev pub IsUnwritten : DumpEnd → Type 0
IsUnwritten (ends.Done lines) = ⊥
IsUnwritten ends.LinkFault = ⊥
IsUnwritten ends.WriteFault = ⊤
IsUnwritten (ends.Answer c) = ⊥
IsUnwritten ends.Expired = ⊥
IsUnwritten ends.NoMemory = ⊤

-- From there on these exchanges were made and these bytes were written, up to that end.
pub data Dumps (n : Names) : Walk → List Exchange → List ℕ → DumpEnd → Type 0 where
  -- the last page
  last : (a : Walk) (j : Json) (e : Exchange) → Did n (lists a.limit a.token) e (given j) → goes_on a j ≡ true → is_empty (token_of j) ≡ true
      → Dumps n a (e ∷ []) (lines_of (objects_of j)) (ends.Done (a.listed + length (objects_of j)))
  -- another page follows
  page : (a : Walk) (j : Json) (e : Exchange) (es : List Exchange) (w : List ℕ) (d : DumpEnd) → Did n (lists a.limit a.token) e (given j) → goes_on a j ≡ true → is_empty (token_of j) ≡ false
      → Dumps n (after_page a j) es w d → Dumps n a (e ∷ es) (lines_of (objects_of j) ++ w) d
  -- the page is too long: half of the objects are asked for from now on
  halved : (a : Walk) (e : Exchange) (es : List Exchange) (w : List ℕ) (d : DumpEnd) → Did n (lists a.limit a.token) e long → 1 < a.limit
      → Dumps n (record a { limit = a.limit / 2 }) es w d → Dumps n a (e ∷ es) w d
  -- a front of the page's lines was written
  unwritten : (a : Walk) (j : Json) (e : Exchange) (front back : List ℕ) (d : DumpEnd) → Did n (lists a.limit a.token) e (given j) → goes_on a j ≡ true
      → lines_of (objects_of j) ≡ front ++ back → IsUnwritten d → Dumps n a (e ∷ []) front d
  other : (a : Walk) (j : Json) (e : Exchange) → Did n (lists a.limit a.token) e (given j) → goes_on a j ≡ false → Dumps n a (e ∷ []) [] (ends.Answer 0)
  too_long : (a : Walk) (e : Exchange) → Did n (lists a.limit a.token) e long → a.limit ≤ 1 → Dumps n a (e ∷ []) [] (ends.Answer 0)
  too_old : (a : Walk) (e : Exchange) → Did n (lists a.limit a.token) e (code expired) → Dumps n a (e ∷ []) [] ends.Expired
  list_fails : (a : Walk) (e : Exchange) (r : Reply) (d : DumpEnd) → Did n (lists a.limit a.token) e r → FailsList r d → Dumps n a (e ∷ []) [] d
  -- memory was wanted before the list, or once it was answered
  unlisted : (a : Walk) → Dumps n a [] [] ends.NoMemory
  unread : (a : Walk) (e : Exchange) → Asked n (lists a.limit a.token) e → Dumps n a (e ∷ []) [] ends.NoMemory

-- ---- causes

-- P holds where an exchange failed, and Q where the output did
abbrev pub OnFaults : Type 0 → Type 0 → DumpEnd → Type 0
OnFaults P Q (ends.Done lines) = ⊤
OnFaults P Q ends.LinkFault = P
OnFaults P Q ends.WriteFault = Q
OnFaults P Q (ends.Answer c) = ⊤
OnFaults P Q ends.Expired = ⊤
OnFaults P Q ends.NoMemory = ⊤

-- P holds where the dump broke off: of the pages before, whose lines were written
abbrev pub OnBrokenOff : Type 0 → DumpEnd → Type 0
OnBrokenOff P (ends.Done lines) = ⊤
OnBrokenOff P ends.LinkFault = P
OnBrokenOff P ends.WriteFault = ⊤
OnBrokenOff P (ends.Answer c) = P
OnBrokenOff P ends.Expired = P
OnBrokenOff P ends.NoMemory = ⊤

-- P holds where all was written
abbrev pub OnDone : Type 0 → DumpEnd → Type 0
OnDone P (ends.Done lines) = P
OnDone P ends.LinkFault = ⊤
OnDone P ends.WriteFault = ⊤
OnDone P (ends.Answer c) = ⊤
OnDone P ends.Expired = ⊤
OnDone P ends.NoMemory = ⊤
