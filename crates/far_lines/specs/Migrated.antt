-- What a migration over one link came to, and what is written of it.
use Rattle.std.specs.Prelude.{◌≡◌, ◌<◌, ◌++◌, ◌⊎◌, ℕ, List, Option, IfSome, codes, decimal}
use Rattle.edge_io.specs.Connections.{AddsOne}
use Rattle.tcp_links.specs.Links.{Ending}
use Rattle.place.specs.Place.{Names}
use Rattle.far_migrate.specs.Counts.{AddsUp, Counts, link, memory}
use Rattle.far_migrate.specs.Migrates.{Migrates}
use Rattle.far_migrate.specs.Puts.{Handled, all, failed}

-- a tally adds up: each object that was listed is of one kind
abbrev pub IsTallied : Handled → Type 0
IsTallied (all t) = AddsUp t
IsTallied (failed f) = Unit {0}

-- The links made one link and took it back, and a tally adds up. Where they tell what the link did, its exchanges are those of a migration of
-- these objects that came to this, and it failed where they came to that.
pub record Migrated (n : Names) (before now : Option (List Ending)) (h : Handled) : Type 0 where
  pub ending : Ending
  pub back : AddsOne before now ending
  pub made : IfSome ending.exchanges (λ es. Migrates n es h)
  pub broke : h ≡ failed link → 0 < ending.faults
  pub sum : IsTallied h

-- the same, or memory was wanted for a link, and none was made
abbrev pub Comes : Names → Option (List Ending) → Option (List Ending) → Handled → Type 0
Comes n before now h = Migrated n before now h ⊎ ((h ≡ failed memory) × (now ≡ before))

-- ---- the text of a tally

unfoldable pub put_lines : ℕ → ℕ → ℕ → List ℕ
put_lines listed written unchanged =
    codes "listed " ++ (decimal listed ++ (codes "\nwritten " ++ (decimal written ++ (codes "\nunchanged " ++ (decimal unchanged ++ codes "\n")))))

unfoldable pub other_lines : ℕ → ℕ → List ℕ
other_lines gone contested = codes "gone " ++ (decimal gone ++ (codes "\ncontested " ++ (decimal contested ++ codes "\n")))

abbrev pub tally_lines : Counts → List ℕ
tally_lines t = put_lines t.listed t.written t.unchanged ++ other_lines t.gone t.contested
