-- A shape of an admitted value is one of what is made of the value, since it looks neither at stamps nor at the generation.
use Rattle.std.proofs.Common.{◌≡◌, ℕ, ℤ, pos, List, Option, None, Some, sym, subst}
use Rattle.std.specs.Prelude.{IfSome, if◌then◌else◌, ◌+ℤ◌}
use Rattle.kube_meta.specs.View.{ObjectView}
use Rattle.kube_meta.specs.Shapes.{shaped}
use Rattle.kube_meta.specs.declared.object.Shape.{Shape}
use Rattle.api_calls.specs.Meaning.{Meaning, stamped}
use Rattle.api_calls.specs.Values.{IsUpdate}
use Rattle.api_calls.specs.Versions.{IgnoresStamps}

module _ (m : Meaning) (ignores : IgnoresStamps m) (v : ℕ) where
  pub shape-stamped : (h : ObjectView) (created deleted : Option (List ℕ)) (generation : ℤ) (o : Option Shape) → IfSome o (λ p. m.pair v h (shaped p h))
      → IfSome o (λ p. m.pair v (stamped h created deleted generation) (shaped p (stamped h created deleted generation)))
  shape-stamped h created deleted generation None k = tt
  shape-stamped h created deleted generation (Some p) k = ignores.pair v h (shaped p h) created deleted generation k

  pub shape-updated : (old new h : ObjectView) (o : Option Shape) → IsUpdate old new h → IfSome o (λ p. m.pair v new (shaped p new))
      → IfSome o (λ p. m.pair v h (shaped p h))
  shape-updated old new h o update k =
      subst (λ (x : ObjectView). IfSome o (λ p. m.pair v x (shaped p x))) (sym update.2)
      (shape-stamped new old.meta.created old.meta.deleted (if update.0 then old.meta.generation else old.meta.generation +ℤ pos 1) o k)
