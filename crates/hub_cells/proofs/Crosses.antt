-- What a fitted cell's side allows can cross: a product that the hub allows has 64 bits.
use Rattle.std.proofs.Common.{◌≡◌, ℕ, ℤ, pos, ◌*ℤ◌, List, [], ◌∷◌, Bool, true, false, ◌&&◌, Some, FitsSigned, refl, subst, arith}
use Rattle.std.specs.Int.{w64}
use Rattle.std.proofs.lemmas.Bool.{false≢true}
use Rattle.kj_value.specs.Json.{whole}
use Rattle.std.specs.Prelude.{◌+◌, leb}
use Rattle.std.proofs.lemmas.Int.{ints}
use Rattle.kj_value.specs.Json.{depth}
use Rattle.struct_schema.specs.Valid.{valid}
use Rattle.struct_schema.specs.Stays.{stays}
use Rattle.hub_cells.specs.declared.allowed.TheConstants.{STORED_LEVELS}
use Rattle.hub_cells.specs.Cross.{matched}
use Rattle.hub_cells.specs.Side.{Side, spoke, hub}
use Rattle.hub_cells.specs.Cell.{Kind, same, spoke_only, hub_only, split, table, scale, Tuple, one, IsRegular}
use Rattle.hub_cells.specs.Answer.{CanCross, ProductFits}
use Rattle.hub_cells.specs.Level.{Place, Cell, CellFits, MatchAllowed, is_word, allowed_at, all_allowed, allows}

and_left : (a b : Bool) → (a && b) ≡ true → a ≡ true
and_left true b h = refl
and_left false b h = absurd (false≢true h)

and_right : (a b : Bool) → (a && b) ≡ true → b ≡ true
and_right true b h = h
and_right false b h = absurd (false≢true h)

word_fits : (z : ℤ) → is_word (whole z) ≡ true → FitsSigned w64 z
word_fits z h = grind (arith, ints)

-- a number that stands alone in an allowed tuple
number_fits : (n : ℕ) (ps : List Place) (z : ℤ) → all_allowed n ps (one (whole z)) ≡ true → FitsSigned w64 z
number_fits n [] z h = absurd (false≢true h)
number_fits n (p ∷ ps) z h =
    let here : allowed_at n p (Some (whole z)) ≡ true = and_left (allowed_at n p (Some (whole z))) (all_allowed n ps []) h in
    word_fits z (and_right (valid p.shape (whole z) && stays p.shape (whole z) && leb (n + 1 + depth (whole z)) STORED_LEVELS) (is_word (whole z)) here)

product_fits : (c : Cell) (k : ℕ) (t : Tuple) → c.kind ≡ scale k → CellFits c → allows spoke c t ≡ true → ProductFits k t
product_fits c k (Some (whole z) ∷ []) e f h =
    let answer = f.answer spoke (one (whole z)) h in
    let over = subst (λ (x : Kind). MatchAllowed c spoke (matched spoke x (one (whole z))) (one (whole z))) e answer in
    number_fits c.depth c.hub (pos k *ℤ z) over
product_fits c k _ e f h = tt

pub can_cross : (c : Cell) (d : Side) (t : Tuple) → CellFits c → allows d c t ≡ true → CanCross d c.kind t
can_cross c d t f h = by_kind d c.kind refl f.regular h
  where
    by_kind : (d : Side) (k : Kind) → c.kind ≡ k → IsRegular k → allows d c t ≡ true → CanCross d k t
    by_kind d same e r h = tt
    by_kind d spoke_only e r h = tt
    by_kind d hub_only e r h = tt
    by_kind d split e r h = tt
    by_kind d (table ps x y) e r h = tt
    by_kind spoke (scale k) e r h = (r, product_fits c k t e f h)
    by_kind hub (scale k) e r h = r
