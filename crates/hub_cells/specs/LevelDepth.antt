-- How deep levels nest: 1 for a level with no object inside.
use Rattle.std.specs.Prelude.{ℕ, suc, max}
use Rattle.hub_cells.specs.Level.{Level, level, Inners, no_inner, inner}

abbrev mutual
  pub level_depth : Level → ℕ
  level_depth (level cs is) = suc (inners_depth is)

  pub inners_depth : Inners → ℕ
  inners_depth no_inner = 0
  inners_depth (inner a b r l is) = max (level_depth l) (inners_depth is)
