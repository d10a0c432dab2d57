-- When an entry of an object is alive.
use Rattle.std.specs.Prelude.{◌≡◌, List, [], ◌∷◌, true, ◌⊎◌, Option, Some, None}
use Rattle.kj_value.specs.Fields.{Pairs, field}
use Rattle.hub_cells.specs.Side.{Side, other}
use Rattle.hub_cells.specs.Level.{Name, tuple_of}
use Rattle.kept_entries.specs.declared.entry.Entry.{Entry}
use Rattle.keep_laws.specs.Entry.{is_part, kept_of, inside}
use Rattle.hub_cells.specs.Level.{Cell, Level, level, Inners, no_inner, inner, names, named}
use Rattle.keep_laws.specs.Body.{object_in}
use Rattle.keep_laws.specs.Settle.{alive}

-- the part's names are in the cell, no earlier entry names it, and it is an allowed and unmatched tuple that shows what stands here
pub record IsAliveIn (d : Side) (c : Cell) (x : Pairs) (es : List Entry) (was : Pairs) : Type 0 where
  pub names_it : is_part (names (other d) c) was ≡ true
  pub first : kept_of (names (other d) c) es ≡ Some (tuple_of (names (other d) c) was)
  pub shows : alive d c (tuple_of (names d c) x) (tuple_of (names (other d) c) was) ≡ true

abbrev pub AliveInCells : Side → List Cell → Pairs → List Entry → Pairs → Type 0
AliveInCells d [] x es was = ⊥
AliveInCells d (c ∷ cs) x es was = IsAliveIn d c x es was ⊎ AliveInCells d cs x es was

abbrev pub IsThere : (Pairs → Type 0) → Option Pairs → Type 0
IsThere P None = ⊥
IsThere P (Some y) = P y

abbrev mutual
  pub AliveAt : Side → Level → Pairs → List Entry → List Name → Pairs → Type 0
  AliveAt d (level cs is) x es [] was = AliveInCells d cs x es was
  AliveAt d (level cs is) x es (n ∷ at) was = AliveUnder d is x es n at was

  pub AliveUnder : Side → Inners → Pairs → List Entry → Name → List Name → Pairs → Type 0
  AliveUnder d no_inner x es n at was = ⊥
  AliveUnder d (inner a b rq l is) x es n at was =
      ((n ≡ named (other d) a b) × IsThere (λ y. AliveAt d l y (inside (named (other d) a b) es) at was) (object_in (field (named d a b) x))) ⊎ AliveUnder d is x es n at was
