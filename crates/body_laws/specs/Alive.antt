-- Of what an object keeps, the part that counts. The rest is dead: it changes nothing, and is gone after the next conversion.
use Rattle.std.specs.Prelude.{◌≡◌, List, [], ◌∷◌, ◌++◌, ◌&&◌, not, cond, Option, Some, None}
use Rattle.kj_value.specs.Fields.{Pairs, field}
use Rattle.hub_cells.specs.Side.{Side, other}
use Rattle.hub_cells.specs.Cell.{Tuple}
use Rattle.hub_cells.specs.Level.{named, tuple_of}
use Rattle.body_laws.specs.Cell.{Cell}
use Rattle.body_laws.specs.Frame.{Level, level, Inners, no_inner, inner, cells_names, inner_names}
use Rattle.body_laws.specs.Kept.{CellsKept, Kept, InnersKept, nothing}
use Rattle.body_laws.specs.Over.{own, alive, value_left, Held, crossed, settled}

-- what is kept of a cell counts where it is shown as what stands here; where it matches it isn't kept
abbrev pub living : Side → Cell → Tuple → Option Tuple → Option Tuple
living d c t None = None
living d c t (Some was) = cond (alive d c t was && not (c.matches (other d) was)) (Some was) None

abbrev pub cells_living : Side → (cs : List Cell) → Pairs → CellsKept cs → CellsKept cs
cells_living d [] x k = tt
cells_living d (c ∷ cs) x k = (living d c (tuple_of (c.names d) x) k.0, cells_living d cs x k.1)

-- own fields of the other side count, and inside an object what counts beside it; where no object stands, nothing does
abbrev mutual
  pub all_living : Side → (l : Level) → Pairs → Kept l → Kept l
  all_living d (level cs is) x k =
      (own (cells_names (other d) cs ++ inner_names (other d) is) k.0, cells_living d cs x k.1, inners_living d is x k.2)

  pub inners_living : Side → (is : Inners) → Pairs → InnersKept is → InnersKept is
  inners_living d no_inner x k = tt
  inners_living d (inner a b l is) x k =
      (value_left (nothing l) (λ y. all_living d l y k.0) (field (named d a b) x), inners_living d is x k.1)

-- the object without what is dead
abbrev pub without_dead : Side → (l : Level) → Held l → Held l
without_dead d l x = record { fields = x.fields; kept = all_living d l x.fields x.kept }

-- ---- settled objects, and pairs of them

-- it is what it settles to
abbrev pub IsSettled : Side → (l : Level) → Held l → Type 0
IsSettled d l x = settled d l x ≡ x

-- each gives the other
pub record IsPair (d : Side) (l : Level) (x y : Held l) : Type 0 where
  pub there : crossed d l x ≡ y
  pub back : crossed (other d) l y ≡ x
