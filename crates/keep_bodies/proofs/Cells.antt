-- One cell more of a level.
use Rattle.std.proofs.Common.{◌≡◌, ℕ, ◌+◌, ◌<◌, List, [], ◌∷◌, ◌++◌, map, drop, length, get_or, true, Option, Some, None, append_assoc, refl, ap, subst, ◌∙◌}
use Rattle.kj_value.specs.Fields.{Pairs}
use Rattle.kept_entries.specs.declared.entry.Entry.{Entry}
use Rattle.hub_cells.specs.Side.{Side}
use Rattle.hub_cells.specs.Cell.{Tuple}
use Rattle.hub_cells.specs.Level as levels
use Rattle.hub_cells.specs.Level.{Name, CellsFit, allows}
use Rattle.hub_cells.specs.Seen.{cell}
use Rattle.hub_cells.specs.declared.cell.Cell.{Cell}
use Rattle.keep_laws.specs.Body.{read_cells, entry_of}
use Rattle.keep_laws.specs.Settle.{CellsAllowed}
use Rattle.keep_bodies.specs.inner.Over.{tuple_here}
use Rattle.keep_bodies.proofs.Lookups.{rest_from}

pub cells_from : (cs : List Cell) (i : ℕ) (c : Cell) → i < length cs → c ≡ get_or cs i c → map cell (drop i cs) ≡ cell c ∷ map cell (drop (i + 1) cs)
cells_from cs i c p e = ap (map cell) (rest_from cs i c p e)

abbrev pub AreAllowed : Side → Pairs → List Entry → List levels.Cell → Type 0
AreAllowed d x es cs = CellsAllowed d cs (read_cells d cs x es)

pub first_allowed : (d : Side) (x : Pairs) (es : List Entry) (cs rest : List levels.Cell) (c : levels.Cell) → cs ≡ c ∷ rest → AreAllowed d x es cs → (allows d c (tuple_here d c x) ≡ true) × AreAllowed d x es rest
first_allowed d x es cs rest c e h =
    let g = subst (AreAllowed d x es) e h in
    (g.0, g.1)

pub first_fits : (cs rest : List levels.Cell) (c : levels.Cell) → cs ≡ c ∷ rest → CellsFit cs → CellsFit rest
first_fits cs rest c e h = let g = subst CellsFit e h in g.1

entry_more : (ns : List Name) (o : Option Tuple) (rest : List Entry) → entry_of ns o [] ++ rest ≡ entry_of ns o rest
entry_more ns None rest = refl
entry_more ns (Some u) rest = refl

pub entry_append : (ns : List Name) (o : Option Tuple) (old rest : List Entry) → (old ++ entry_of ns o []) ++ rest ≡ old ++ entry_of ns o rest
entry_append ns o old rest = append_assoc old (entry_of ns o []) rest ∙ ap (λ (es : List Entry). old ++ es) (entry_more ns o rest)
