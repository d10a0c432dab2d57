-- The tries of a walk over a schema document, one after the other, and the first that is refused.
use Rattle.std.specs.Prelude.{ℕ, suc, ◌+◌, List, [], ◌∷◌, map, Bool, ◌&&◌, cond, Option, Some, None, option_map, nat_lt}
use Rattle.struct_schema.specs.Path.{Step}
use Rattle.struct_schema.specs.Fault.{or_else}
use Rattle.schema_reading.specs.Words.{limit_word}
use Rattle.schema_reading.specs.declared.walk.TheConstants.{MAX_NESTING, MAX_NODES}

-- a node that is entered, so deep below the root; or a keyword, and whether it's allowed
pub data Tried : Type 0 where
  entered : ℕ → Tried
  keyword : List ℕ → Bool → Tried

pub record Visit : Type 0 where
  pub path : List Step
  pub tried : Tried

pub record Refusal : Type 0 where
  pub path : List Step
  pub keyword : List ℕ

abbrev pub here : Tried → Visit
here t = record { path = []; tried = t }

-- one step further in
abbrev pub inside : Step → Visit → Visit
inside s v = record { path = s ∷ v.path; tried = v.tried }

abbrev pub within : Step → List Visit → List Visit
within s vs = map (inside s) vs

-- how many nodes were entered
abbrev pub counted : ℕ → Tried → ℕ
counted n (entered d) = n + 1
counted n (keyword k b) = n

-- a node is refused where it's too deep or one too many, after so many nodes
abbrev pub denied : ℕ → Tried → Option (List ℕ)
denied n (entered d) = cond (nat_lt n MAX_NODES && nat_lt d (suc MAX_NESTING)) None (Some limit_word)
denied n (keyword k b) = cond b None (Some k)

abbrev pub refused_at : List Step → List ℕ → Refusal
refused_at p k = record { path = p; keyword = k }

abbrev pub after : ℕ → List Visit → ℕ
after n [] = n
after n (v ∷ vs) = after (counted n v.tried) vs

abbrev pub first : ℕ → List Visit → Option Refusal
first n [] = None
first n (v ∷ vs) = or_else (option_map (refused_at v.path) (denied n v.tried)) (first (counted n v.tried) vs)

-- the same refusal, one step further in
abbrev pub under : Step → Option Refusal → Option Refusal
under s None = None
under s (Some r) = Some (record { path = s ∷ r.path; keyword = r.keyword })
