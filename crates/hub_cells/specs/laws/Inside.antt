-- For measures: an inner object's level is less deep than the level that it stands in.
use Rattle.std.proofs.Common.{◌≡◌, ℕ, zero, suc, ◌<◌, ◌≤◌, List, [], ◌∷◌, length, get_or, arith}
use Rattle.hub_cells.specs.Level.{Inners}
use Rattle.hub_cells.specs.LevelDepth.{level_depth, inners_depth}
use Rattle.hub_cells.specs.SeenFit.{inners_of}
use Rattle.hub_cells.specs.declared.fitted.Inner.{Inner}

depth-get_or : (is : List Inner) (i : ℕ) (d : Inner) → i < length is → level_depth (get_or is i d).fitted.level ≤ inners_depth (inners_of is)
depth-get_or [] i d p = absurd (omega arith)
depth-get_or (x ∷ is) zero d p = omega arith
depth-get_or (x ∷ is) (suc i) d p = omega (arith, depth-get_or is i d (omega arith))

-- an inner object read at a place, as a loop knows it
pub inner_depth : (is : List Inner) (js : Inners) (i : ℕ) (x : Inner) → inners_of is ≡ js → i < length is → x ≡ get_or is i x → level_depth x.fitted.level ≤ inners_depth js
inner_depth is js i x e p q =
    let bound : level_depth (get_or is i x).fitted.level ≤ inners_depth (inners_of is) = depth-get_or is i x p in
    rw (← e, q) bound
