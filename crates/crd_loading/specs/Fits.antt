-- The rules of each spoke for its schema and the hub's: a version but the hub without rules has none.
use Rattle.std.specs.Prelude.{◌≡◌, ◌≤◌, ℕ, suc, List, [], ◌∷◌, map, cond, nat_eq, Option, None, Some, Result, Ok, Err}
use Rattle.std.specs.Str.{bytes_eq}
use Rattle.kj_value.specs.Json.{Json}
use Rattle.kj_value.specs.Fields.{field}
use Rattle.struct_schema.specs.Shape.{Shape}
use Rattle.struct_schema.specs.Fault.{or_else}
use Rattle.hub_cells.specs.Level.{Name, Level}
use Rattle.hub_cells.specs.Fit.{Fit, IsFitted}
use Rattle.hub_rules.specs.Rule.{Rule, Rules, no_rules, rules_of, inner_depth}
use Rattle.hub_rules.specs.Sound.{AreSoundRules}
use Rattle.hub_rules.specs.declared.rules.TheConstants.{MAX_OBJECTS}
use Rattle.hub_rules.specs.Refusal.{fit_fault}
use Rattle.hub_fit.specs.Chosen.{fit_of}
use Rattle.hub_fills.specs.LateNames.{first_late}
use Rattle.struct_schema.specs.PathText.{Path}
use Rattle.rule_reading.specs.SetRead.{Spoke, set_read}
use Rattle.crd_reading.specs.View.{VersionView}
use Rattle.crd_loading.specs.Blame.{Blame, of_rules, of_fit, of_late}
use Rattle.crd_loading.specs.Known.{known_rules}

-- ---- the hub

-- a version with its place
abbrev pub Placed : Type 0
Placed = ℕ × VersionView

-- the first version of the name, counted from a number
abbrev pub version_from : ℕ → List ℕ → List VersionView → Option Placed
version_from i n [] = None
version_from i n (v ∷ vs) = cond (bytes_eq n v.name) (Some (i, v)) (version_from (suc i) n vs)

-- the versions but the one at a place, counted from a number
abbrev pub spokes_from : ℕ → ℕ → List VersionView → List VersionView
spokes_from hub i [] = []
spokes_from hub i (v ∷ vs) = cond (nat_eq i hub) (spokes_from hub (suc i) vs) (v ∷ spokes_from hub (suc i) vs)

abbrev pub spokes_of : ℕ → List VersionView → List VersionView
spokes_of hub vs = spokes_from hub 0 vs

-- ---- the spokes

abbrev pub rules_or_none : Option (List Rule) → Rules
rules_or_none None = no_rules
rules_or_none (Some rs) = rules_of rs

abbrev pub rules_for : List ℕ → List Spoke → Rules
rules_for n ss = rules_or_none (field n ss)

-- of the spokes in order, for the hub's schema
abbrev pub fits_blame : Shape → List Spoke → List VersionView → Option Blame
fits_blame h ss [] = None
fits_blame h ss (v ∷ vs) = or_else (of_fit (fit_fault v.schema h (rules_for v.name ss))) (fits_blame h ss vs)

abbrev pub fits_of : Shape → List Spoke → List VersionView → List Fit
fits_of h ss [] = []
fits_of h ss (v ∷ vs) = fit_of 0 v.schema h (rules_for v.name ss) ∷ fits_of h ss vs

-- the levels at the root, and the first name whose default comes too late for some spoke
abbrev pub levels_in : List Fit → List (Option Level)
levels_in fs = map (λ f. Some f.level) fs

abbrev pub late_blame : List Fit → Option Blame
late_blame fs = of_late (first_late (levels_in fs))

-- what rules mean for two schemas, from the root on: their tables list scalars, and no more than eight objects stand one
-- inside the other
pub record IsRuled (f : Fit) : Type 0 where
  pub rules : Rules
  pub is : f ≡ fit_of 0 f.spoke f.hub rules
  pub sound : AreSoundRules rules
  pub depth : inner_depth rules ≤ MAX_OBJECTS
  pub fitted : IsFitted f

-- ---- a document of rules, for the versions of a definition

abbrev pub RuleSet : Type 0
RuleSet = Name × List Spoke

abbrev pub rules_in : List VersionView → Json → Result RuleSet Path
rules_in vs j = set_read (known_rules vs j)

-- each spoke is tried by itself before all of them together
abbrev pub spokes_blame : Option Placed → List Spoke → List VersionView → Option Blame
spokes_blame None ss vs = None
spokes_blame (Some h) ss vs =
    or_else (fits_blame h.1.schema ss (spokes_of h.0 vs)) (late_blame (fits_of h.1.schema ss (spokes_of h.0 vs)))

abbrev pub fit_blame : Result RuleSet Path → List VersionView → Option Blame
fit_blame (Err p) vs = None
fit_blame (Ok s) vs = spokes_blame (version_from 0 s.0 vs) s.1 vs

-- the first thing that is refused: in the document, then of the spokes in their order, and then of all of them
unfoldable pub rules_blame : List VersionView → Json → Option Blame
rules_blame vs j = or_else (of_rules (rules_in vs j)) (fit_blame (rules_in vs j) vs)
