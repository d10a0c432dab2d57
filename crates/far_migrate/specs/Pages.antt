-- How a migration goes from page to page, and how it ends.
use Rattle.std.specs.Prelude.{◌≡◌, ◌+◌, ◌/◌, ◌<◌, ◌≤◌, ◌&&◌, ◌||◌, not, ℕ, Bool, true, false, List, [], ◌∷◌, ◌++◌, Option, None, Some, length, nat_le, unwrap_or}
use Rattle.std.specs.Ordering.{match_ordering}
use Rattle.kj_value.specs.Json.{Json}
use Rattle.kube_meta.specs.Key.{KeyView, key_cmp}
use Rattle.edge_io.specs.Exchanges.{Exchange}
use Rattle.place.specs.Place.{Names}
use Rattle.wire_client.specs.Calls.{lists}
use Rattle.wire_client.specs.Answers.{Reply, given, long, code}
use Rattle.wire_client.specs.Forms.{fields_of, items_in, token_in}
use Rattle.far_migrate.specs.Counts.{Counts, nothing, with_page, Fault, answer, restarted, memory}
use Rattle.far_migrate.specs.Answered.{Did, Asked, expired, FailsList}
use Rattle.far_migrate.specs.Puts.{key_of, Handled, all, failed, PutsBack}

-- ---- limits

-- the objects of a page
abbrev pub first_limit : ℕ
first_limit = 500

-- the objects of one list
abbrev pub most_objects : ℕ
most_objects = 1_000_000

-- how often a list may begin again
abbrev pub most_restarts : ℕ
most_restarts = 16

-- ---- a page

abbrev pub objects_of : Json → List Json
objects_of j = unwrap_or (items_in (fields_of j)) []

-- the token of the next page
abbrev pub token_of : Json → List ℕ
token_of j = token_in (fields_of j)

abbrev pub is_behind : Option KeyView → KeyView → Bool
is_behind None k = true
is_behind (Some l) k = match_ordering (key_cmp l k) true false false

-- the keys rise strictly, all behind that one
abbrev pub rise_behind : Option KeyView → List Json → Bool
rise_behind last [] = true
rise_behind last (j ∷ js) = is_behind last (key_of j) && rise_behind (Some (key_of j)) js

-- the last key, where there is one
abbrev pub last_key : Option KeyView → List Json → Option KeyView
last_key last [] = last
last_key last (j ∷ js) = last_key (Some (key_of j)) js

abbrev pub is_empty : {A : Type 0} → List A → Bool
is_empty [] = true
is_empty (x ∷ xs) = false

-- ---- between two pages

-- The page goes on with its list, whose pages so far have that last key and so many objects: its keys rise behind those before it, there
-- is one where another page follows, and there aren't too many in all.
abbrev pub goes_on_from : Option KeyView → ℕ → List Json → List ℕ → Bool
goes_on_from last listed js token =
    rise_behind last js
    && (is_empty token || not (is_empty js))
    && nat_le (listed + length js) most_objects

pub record Run : Type 0 where
  -- the objects that the next page may have
  pub limit : ℕ
  -- the lists that were answered that their token is too old
  pub expired : ℕ
  -- of the next page; empty at the first one
  pub token : List ℕ
  -- the last key of the pages of this list
  pub last : Option KeyView
  -- since its first page
  pub counts : Counts

-- at the first page of a list
abbrev pub at_first : ℕ → ℕ → Run
at_first limit times = record { limit = limit; expired = times; token = []; last = None; counts = nothing }

abbrev pub goes_on_with : Run → List Json → List ℕ → Bool
goes_on_with a js token = goes_on_from a.last a.counts.listed js token

abbrev pub goes_on : Run → Json → Bool
goes_on a j = goes_on_with a (objects_of j) (token_of j)

-- the counts once the page is there
abbrev pub with_objects : Run → Json → Counts
with_objects a j = with_page (length (objects_of j)) a.counts

abbrev pub after_page : Run → Json → Counts → Run
after_page a j t = record { limit = a.limit; expired = a.expired; token = token_of j; last = last_key a.last (objects_of j); counts = t }

-- These exchanges lead to the next page.
pub data Step (n : Names) (a : Run) : List Exchange → Run → Type 0 where
  -- a page that isn't the last, whose objects were put back
  page : (j : Json) (e : Exchange) (es : List Exchange) (t : Counts) → Did n (lists a.limit a.token) e (given j) → goes_on a j ≡ true → is_empty (token_of j) ≡ false
      → PutsBack n (objects_of j) (with_objects a j) es (all t) → Step n a (e ∷ es) (after_page a j t)
  -- the page is too long: half of the objects are asked for from now on
  halved : (e : Exchange) → Did n (lists a.limit a.token) e long → 1 < a.limit → Step n a (e ∷ []) (record a { limit = a.limit / 2 })
  -- the token is too old: the list begins again, and so do the counts
  again : (e : Exchange) → Did n (lists a.limit a.token) e (code expired) → a.expired < most_restarts → Step n a (e ∷ []) (at_first a.limit (a.expired + 1))

-- With these exchanges the migration ends.
pub data Stop (n : Names) (a : Run) : List Exchange → Handled → Type 0 where
  -- the last page, whose objects were put back
  last : (j : Json) (e : Exchange) (es : List Exchange) (t : Counts) → Did n (lists a.limit a.token) e (given j) → goes_on a j ≡ true → is_empty (token_of j) ≡ true
      → PutsBack n (objects_of j) (with_objects a j) es (all t) → Stop n a (e ∷ es) (all t)
  put_fails : (j : Json) (e : Exchange) (es : List Exchange) (f : Fault) → Did n (lists a.limit a.token) e (given j) → goes_on a j ≡ true
      → PutsBack n (objects_of j) (with_objects a j) es (failed f) → Stop n a (e ∷ es) (failed f)
  other : (j : Json) (e : Exchange) → Did n (lists a.limit a.token) e (given j) → goes_on a j ≡ false → Stop n a (e ∷ []) (failed (answer 0))
  too_long : (e : Exchange) → Did n (lists a.limit a.token) e long → a.limit ≤ 1 → Stop n a (e ∷ []) (failed (answer 0))
  too_often : (e : Exchange) → Did n (lists a.limit a.token) e (code expired) → most_restarts ≤ a.expired → Stop n a (e ∷ []) (failed restarted)
  list_fails : (e : Exchange) (r : Reply) (f : Fault) → Did n (lists a.limit a.token) e r → FailsList r f → Stop n a (e ∷ []) (failed f)
  -- memory was wanted before the list, or once it was answered
  unlisted : Stop n a [] (failed memory)
  unread : (e : Exchange) → Asked n (lists a.limit a.token) e → Stop n a (e ∷ []) (failed memory)

-- From there on these exchanges were made, up to that end.
pub data Runs (n : Names) : Run → List Exchange → Handled → Type 0 where
  stop : (a : Run) (es : List Exchange) (h : Handled) → Stop n a es h → Runs n a es h
  step : (a b : Run) (es fs : List Exchange) (h : Handled) → Step n a es b → Runs n b fs h → Runs n a (es ++ fs) h
