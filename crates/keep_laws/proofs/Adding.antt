-- The spoke at a place of a definition.
use Rattle.std.proofs.Common.{◌≡◌, ◌<◌, ℕ, zero, suc, List, [], ◌∷◌, length, get_or, Some, ap, sym, ◌∙◌, arith}
use Rattle.std.specs.Prelude.{slice_get}
use Rattle.keep_laws.specs.Spokes.{Spoke}

pub spoke_read : (ss : List Spoke) (v : ℕ) (s : Spoke) → v < length ss → s ≡ get_or ss v s → slice_get ss v ≡ Some s
spoke_read [] v s p e = absurd (omega (arith, p))
spoke_read (t ∷ ss) zero s p e = ap Some (sym e)
spoke_read (t ∷ ss) (suc v) s p e = spoke_read ss v s (omega (arith, p)) e

pub one_at : (ss : List Spoke) (v : ℕ) (s t : Spoke) → slice_get ss v ≡ Some s → slice_get ss v ≡ Some t → s ≡ t
one_at ss v s t e f = some_some s t (sym e ∙ f)
  where
    some_some : (x y : Spoke) → Some x ≡ Some y → x ≡ y
    some_some x y q = cc
