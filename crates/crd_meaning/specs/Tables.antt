-- The values that tables list are JSON values: their numbers have 64 bits, and the names of their objects rise.
use Rattle.std.specs.Prelude.{List, [], ◌∷◌}
use Rattle.kj_value.specs.Json.{Json}
use Rattle.kj_value.specs.Sound.{IsSoundJson}
use Rattle.hub_cells.specs.Cell.{Kind, same, spoke_only, hub_only, split, table, scale}
use Rattle.hub_cells.specs.Level.{Cell, Level, level, Inners, no_inner, inner}

abbrev pub AreSoundPairs : List (Json × Json) → Type 0
AreSoundPairs [] = Unit {0}
AreSoundPairs (p ∷ ps) = IsSoundJson p.0 × IsSoundJson p.1 × AreSoundPairs ps

abbrev pub IsSoundKind : Kind → Type 0
IsSoundKind same = Unit {0}
IsSoundKind spoke_only = Unit {0}
IsSoundKind hub_only = Unit {0}
IsSoundKind split = Unit {0}
IsSoundKind (table ps x y) = AreSoundPairs ps × IsSoundJson x × IsSoundJson y
IsSoundKind (scale k) = Unit {0}

abbrev pub AreSoundCells : List Cell → Type 0
AreSoundCells [] = Unit {0}
AreSoundCells (c ∷ cs) = IsSoundKind c.kind × AreSoundCells cs

abbrev mutual
  pub HasSoundTables : Level → Type 0
  HasSoundTables (level cs is) = AreSoundCells cs × InnersHaveSoundTables is

  pub InnersHaveSoundTables : Inners → Type 0
  InnersHaveSoundTables no_inner = Unit {0}
  InnersHaveSoundTables (inner a b r l is) = HasSoundTables l × InnersHaveSoundTables is
