-- A page of a list of records by key: those of a namespace behind a key, up to a limit (the parameters `limit` and `continue` of a list of the Kubernetes API).
use Rattle.std.specs.Prelude.{ℕ, ◌-◌, Bool, true, not, ◌&&◌, List, Option, None, Some, length, filter, take, nat_eq, if◌then◌else◌}
use Rattle.std.specs.Str.{bytes_eq}
use Rattle.kube_meta.specs.Key.{KeyView}
use Rattle.kube_meta.specs.Plan.{Bound, Start, After, passed}

-- the number of the snapshot that the page is of, its records, and how many are left behind them
pub record Page (X : Type 0) : Type 0 where
  pub number : ℕ
  pub items : List X
  pub remaining : ℕ

-- no namespace asks for all
abbrev pub in_namespace : Option (List ℕ) → KeyView → Bool
in_namespace None k = true
in_namespace (Some ns) k = bytes_eq ns k.ns

abbrev pub bound_after : Option KeyView → Bound
bound_after None = Start
bound_after (Some k) = After k

-- the records of a namespace behind a key
abbrev pub listed : {X : Type 0} → (X → KeyView) → Option (List ℕ) → Option KeyView → List X → List X
listed key ns after xs = filter (λ x. in_namespace ns (key x) && not (passed (bound_after after) (key x))) xs

-- limit 0 means no limit
abbrev pub page_of : {X : Type 0} → ℕ → ℕ → List X → Page X
page_of number limit xs =
    if nat_eq limit 0 then record { number = number; items = xs; remaining = 0 }
    else record { number = number; items = take limit xs; remaining = length xs - limit }
