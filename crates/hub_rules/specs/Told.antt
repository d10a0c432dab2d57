-- How a refusal is told by an answer: by its path as text, or where memory ran out by want of memory alone.
use Rattle.std.specs.Prelude.{◌≡◌, ◌++◌, ℕ, List, [], ◌∷◌, Option, Some, None, codes}
use Rattle.hub_cells.specs.Level.{Name}
use Rattle.hub_cells.specs.Seen.{side}
use Rattle.hub_rules.specs.Refusal.{Fault, name_twice, name_missing, schema_differs, unpaired_default, required_lost, range_lost}
use Rattle.hub_rules.specs.inner.Spots.{why}
use Rattle.hub_rules.specs.declared.refusal.FitFault.{FitFault}
use Rattle.hub_rules.specs.declared.refusal.FitFault.TheVariants.{NameTwice, NameMissing, SchemaDiffers, UnpairedDefault, RequiredLost, RangeLost, NoMemory}
use Rattle.hub_rules.specs.declared.refusal.Stop.{Stop}
use Rattle.hub_rules.specs.declared.refusal.Stop.TheVariants.{Found, Starved}

-- names joined by points
abbrev pub path_text : List Name → List ℕ
path_text [] = []
path_text (n ∷ []) = n
path_text (n ∷ m ∷ ns) = n ++ codes "." ++ path_text (m ∷ ns)

-- there is a refusal, and it is this one unless memory ran out
abbrev pub NamesFitFault : Option Fault → FitFault → Type 0
NamesFitFault None e = ⊥
NamesFitFault (Some f) (NameTwice path) = (f.why ≡ name_twice) × (path.bytes ≡ path_text f.path)
NamesFitFault (Some f) (NameMissing path) = (f.why ≡ name_missing) × (path.bytes ≡ path_text f.path)
NamesFitFault (Some f) (SchemaDiffers path) = (f.why ≡ schema_differs) × (path.bytes ≡ path_text f.path)
NamesFitFault (Some f) (UnpairedDefault path) = (f.why ≡ unpaired_default) × (path.bytes ≡ path_text f.path)
NamesFitFault (Some f) (RequiredLost path) = (f.why ≡ required_lost) × (path.bytes ≡ path_text f.path)
NamesFitFault (Some f) (RangeLost path) = (f.why ≡ range_lost) × (path.bytes ≡ path_text f.path)
NamesFitFault (Some f) NoMemory = Unit {0}

abbrev pub IsNamed : List Name → Type 0
IsNamed [] = ⊥
IsNamed (n ∷ ns) = Unit {0}

-- for private clauses: the same on the way out, below the root
abbrev pub StopsFit : Option Fault → Stop → Type 0
StopsFit None e = ⊥
StopsFit (Some f) (Found x) = (x.path.bytes ≡ path_text f.path) × (side x.side ≡ f.side) × (why x.why ≡ f.why) × IsNamed f.path
StopsFit (Some f) Starved = Unit {0}
