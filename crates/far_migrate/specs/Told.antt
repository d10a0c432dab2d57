-- What the end of a migration tells of its exchanges.
use Rattle.std.specs.Prelude.{◌≡◌, ◌/◌, ◌<◌, ℕ, zero, suc, true, false, List, [], ◌∷◌, ◌++◌, Some}
use Rattle.kj_value.specs.Json.{Json}
use Rattle.edge_io.specs.Exchanges.{Exchange}
use Rattle.http_wire.specs.Received.{Response, Receives}
use Rattle.place.specs.Place.{Names}
use Rattle.wire_client.specs.Calls.{lists}
use Rattle.wire_client.specs.Answers.{given, long, code}
use Rattle.far_migrate.specs.Answered.{Did, expired}
use Rattle.far_migrate.specs.Counts.{Counts}
use Rattle.far_migrate.specs.Puts.{PutsBack, all}
use Rattle.far_migrate.specs.Pages.{Run, at_first, goes_on, objects_of, token_of, is_empty, with_objects, after_page}

-- ---- a tally is that of one list

-- One list from there to its last page, each page asked for with the token of the one before, and its objects put back.
pub data Lists (n : Names) : Run → List Exchange → Counts → Type 0 where
  last : (a : Run) (j : Json) (e : Exchange) (es : List Exchange) (t : Counts) → Did n (lists a.limit a.token) e (given j) → goes_on a j ≡ true → is_empty (token_of j) ≡ true
      → PutsBack n (objects_of j) (with_objects a j) es (all t) → Lists n a (e ∷ es) t
  page : (a : Run) (j : Json) (e : Exchange) (es fs : List Exchange) (t u : Counts) → Did n (lists a.limit a.token) e (given j) → goes_on a j ≡ true → is_empty (token_of j) ≡ false
      → PutsBack n (objects_of j) (with_objects a j) es (all t) → Lists n (after_page a j t) fs u → Lists n a ((e ∷ es) ++ fs) u
  shorter : (a : Run) (e : Exchange) (fs : List Exchange) (u : Counts) → Did n (lists a.limit a.token) e long → 1 < a.limit → Lists n (record a { limit = a.limit / 2 }) fs u
      → Lists n a ((e ∷ []) ++ fs) u

-- The last of the exchanges are one whole list with these counts.
pub record EndsInList (n : Names) (es : List Exchange) (t : Counts) : Type 0 where
  pub before : List Exchange
  pub limit : ℕ
  pub times : ℕ
  pub whole : List Exchange
  pub split : es ≡ before ++ whole
  pub lists : Lists n (at_first limit times) whole t

-- ---- how often a token was too old

-- so many of the exchanges are lists that were answered that their token is too old
abbrev pub HasExpired : Names → ℕ → List Exchange → Type 0
HasExpired n zero es = Unit {0}
HasExpired n (suc k) es = (front : List Exchange) × (e : Exchange) × (back : List Exchange) × (limit : ℕ) × (token : List ℕ)
    × (es ≡ front ++ e ∷ back) × Did n (lists limit token) e (code expired) × HasExpired n k back

-- ---- the last answer

-- the last exchange was answered with that code
pub record EndsWithCode (es : List Exchange) (c : ℕ) : Type 0 where
  pub front : List Exchange
  pub e : Exchange
  pub there : es ≡ front ++ e ∷ []
  pub bytes : List ℕ
  pub answer : e.answer ≡ Some bytes
  pub response : Response
  pub rest : List ℕ
  pub receives : Receives bytes response rest
  pub code : response.code ≡ c
