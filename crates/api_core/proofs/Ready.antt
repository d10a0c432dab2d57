-- What was handed in, where something was.
use Rattle.std.proofs.Common.{◌≡◌, Option, None, Some, subst}
use Rattle.std.specs.Prelude.{IfSome}
use Rattle.api_core.specs.declared.seen.Prepared.{Prepared}

pub one_some : (o : Option Prepared) (p q : Prepared) → o ≡ Some p → o ≡ Some q → p ≡ q
one_some o p q a b = cc

pub of_some : (o : Option Prepared) (P : Prepared → Type 0) (p : Prepared) → o ≡ Some p → IfSome o P → P p
of_some None P p is h = absurd (cc)
of_some (Some q) P p is h = let same : q ≡ p = cc in subst P same h
