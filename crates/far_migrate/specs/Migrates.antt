-- What a migration's exchanges say.
use Rattle.edge_io.specs.Exchanges.{Exchange}
use Rattle.std.specs.Prelude.{Result, Ok, Err, ◌≡◌, ℕ, List, [], ◌∷◌, ◌++◌}
use Rattle.kj_value.specs.Json.{Json}
use Rattle.kube_meta.specs.Key.{KeyView}
use Rattle.api_calls.specs.Legal.{In}
use Rattle.place.specs.Place.{Names}
use Rattle.wire_client.specs.Calls.{lists, gets, puts}
use Rattle.wire_client.specs.Answers.{given}
use Rattle.far_migrate.specs.Answered.{Did, Asked}
use Rattle.far_migrate.specs.Counts.{counts_of, fault_of}
use Rattle.far_migrate.specs.Puts.{key_of, Handled, all, failed}
use Rattle.far_migrate.specs.declared.tally.Tally.{Tally}
use Rattle.far_migrate.specs.declared.tally.FarFault.{FarFault}
use Rattle.far_migrate.specs.Pages.{at_first, first_limit, objects_of, Runs}

-- These exchanges are those of a migration with that end: pages of at most 500 objects are listed, and each object is put back.
abbrev pub Migrates : Names → List Exchange → Handled → Type 0
Migrates n es h = Runs n (at_first first_limit 0) es h

-- the end of a migration, as it is answered
abbrev pub tally_of : Result Tally FarFault → Handled
tally_of (Ok t) = all (counts_of t)
tally_of (Err f) = failed (fault_of f)

-- ---- only what was given is put

-- The exchange gave that value of the object of that key: by a page that has it, or by a get.
pub data Gave (n : Names) (key : KeyView) (j : Json) (e : Exchange) : Type 0 where
  by_page : (limit : ℕ) (token : List ℕ) (page : Json) → Did n (lists limit token) e (given page) → In j (objects_of page) → key ≡ key_of j → Gave n key j e
  by_get : Did n (gets key) e (given j) → Gave n key j e

-- one of the exchanges did
pub record WasGiven (n : Names) (key : KeyView) (j : Json) (es : List Exchange) : Type 0 where
  pub front : List Exchange
  pub e : Exchange
  pub back : List Exchange
  pub there : es ≡ front ++ e ∷ back
  pub gave : Gave n key j e

-- a list, a get, or the put of a value that an earlier exchange gave
pub data IsFounded (n : Names) (before : List Exchange) (e : Exchange) : Type 0 where
  by_list : (limit : ℕ) (token : List ℕ) → Asked n (lists limit token) e → IsFounded n before e
  by_get_of : (key : KeyView) → Asked n (gets key) e → IsFounded n before e
  by_put : (key : KeyView) (j : Json) → Asked n (puts key j) e → WasGiven n key j before → IsFounded n before e

-- all of these are, behind those before
abbrev pub AreFounded : Names → List Exchange → List Exchange → Type 0
AreFounded n before [] = Unit {0}
AreFounded n before (e ∷ es) = IsFounded n before e × AreFounded n (before ++ e ∷ []) es
