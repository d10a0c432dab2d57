-- The values that the tables of a document of rules list are JSON values.
use Rattle.std.proofs.Common.{ℕ, suc, List, [], ◌∷◌, Bool, true, false, cond, sym, subst}
use Rattle.kj_value.specs.Json.{Json, null, boolean, whole, text, list, object}
use Rattle.kj_value.specs.Sound.{IsSoundJson as IsValue}
use Rattle.struct_schema.specs.Shape.{Shape, Shapes, no_shapes, shape_at, MaybeShapes, no_map, some_map, properties}
use Rattle.hub_cells.specs.Side.{spoke}
use Rattle.hub_cells.specs.Level.{Name, Cell, Inners}
use Rattle.hub_cells.specs.Fit.{Fit, has_name}
use Rattle.hub_rules.specs.Rule.{Rule, same, within, spoke_only, hub_only, split, table, scale, Rules, no_rules, rule, names_on}
use Rattle.hub_rules.specs.Refusal.{node_at}
use Rattle.hub_rules.specs.Sound.{IsScalar, AreScalars, IsSoundRule, AreSoundRules}
use Rattle.hub_fit.specs.Chosen.{with_cell, free_cells, free_in, cells_before, cells_of, with_inner, inners_of, level_of}
use Rattle.crd_loading.specs.Fits.{IsRuled}
use Rattle.crd_meaning.specs.Tables.{AreSoundPairs, AreSoundCells, HasSoundTables, InnersHaveSoundTables}

scalar_sound : (j : Json) → IsScalar j → IsValue j
scalar_sound null h = tt
scalar_sound (boolean b) h = tt
scalar_sound (whole z) h = h
scalar_sound (text t) h = tt
scalar_sound (list js) h = absurd h
scalar_sound (object ms) h = absurd h

pairs_sound : (ps : List (Json × Json)) → AreScalars ps → AreSoundPairs ps
pairs_sound [] h = tt
pairs_sound (p ∷ ps) h = (scalar_sound p.0 h.0, scalar_sound p.1 h.1, pairs_sound ps h.2)

-- ---- cells

with_sound : (n : ℕ) (s h : Shape) (r : Rule) (cs : List Cell) → IsSoundRule r → AreSoundCells cs → AreSoundCells (with_cell n s h r cs)
with_sound n s h (same a b) cs k c = (tt, c)
with_sound n s h (within a b ts) cs k c = c
with_sound n s h (spoke_only a) cs k c = (tt, c)
with_sound n s h (hub_only b) cs k c = (tt, c)
with_sound n s h (split a b d) cs k c = (tt, c)
with_sound n s h (table a b ps x y) cs k c = ((pairs_sound ps k.0, scalar_sound x k.1, scalar_sound y k.2), c)
with_sound n s h (scale a b f) cs k c = (tt, c)

either : (b : Bool) (cs ds : List Cell) → AreSoundCells cs → AreSoundCells ds → AreSoundCells (cond b cs ds)
either true cs ds c d = c
either false cs ds c d = d

free_sound : (n : ℕ) (s h : Shape) (ns : List Name) (ss : Shapes) → AreSoundCells (free_cells n s h ns ss)
free_sound n s h ns no_shapes = tt
free_sound n s h ns (shape_at k t ss) =
    either (has_name k ns) _ _ (free_sound n s h ns ss) (tt, free_sound n s h ns ss)

free_in_sound : (n : ℕ) (s h : Shape) (ns : List Name) (m : MaybeShapes) → AreSoundCells (free_in n s h ns m)
free_in_sound n s h ns no_map = tt
free_in_sound n s h ns (some_map ss) = free_sound n s h ns ss

before_sound : (n : ℕ) (s h : Shape) (rs : Rules) (cs : List Cell) → AreSoundRules rs → AreSoundCells cs → AreSoundCells (cells_before n s h rs cs)
before_sound n s h no_rules cs k c = c
before_sound n s h (rule r rs) cs k c =
    with_sound n s h r (cells_before n s h rs cs) k.0 (before_sound n s h rs cs k.1 c)

cells_sound : (n : ℕ) (s h : Shape) (rs : Rules) → AreSoundRules rs → AreSoundCells (cells_of n s h rs)
cells_sound n s h rs k =
    before_sound n s h rs (free_in n s h (names_on spoke rs) (properties s)) k (free_in_sound n s h (names_on spoke rs) (properties s))

-- ---- levels

mutual
  inner_sound : (n : ℕ) (s h : Shape) (r : Rule) (is : Inners) → IsSoundRule r → InnersHaveSoundTables is → InnersHaveSoundTables (with_inner n s h r is)
  inner_sound n s h (same a b) is k t = t
  inner_sound n s h (within a b ts) is k t =
      ((cells_sound (suc n) (node_at a s) (node_at b h) ts k, inners_sound (suc n) (node_at a s) (node_at b h) ts k), t)
  inner_sound n s h (spoke_only a) is k t = t
  inner_sound n s h (hub_only b) is k t = t
  inner_sound n s h (split a b d) is k t = t
  inner_sound n s h (table a b ps x y) is k t = t
  inner_sound n s h (scale a b f) is k t = t

  inners_sound : (n : ℕ) (s h : Shape) (rs : Rules) → AreSoundRules rs → InnersHaveSoundTables (inners_of n s h rs)
  inners_sound n s h no_rules k = tt
  inners_sound n s h (rule r rs) k = inner_sound n s h r (inners_of n s h rs) k.0 (inners_sound n s h rs k.1)

level_sound : (n : ℕ) (s h : Shape) (rs : Rules) → AreSoundRules rs → HasSoundTables (level_of n s h rs)
level_sound n s h rs k = (cells_sound n s h rs k, inners_sound n s h rs k)

pub ruled_sound : (f : Fit) → IsRuled f → HasSoundTables f.level
ruled_sound f r =
    subst (λ (g : Fit). HasSoundTables g.level) (sym r.is) (level_sound 0 f.spoke f.hub r.rules r.sound)
