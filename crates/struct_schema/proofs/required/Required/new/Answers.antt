use Rattle.std.proofs.Common.{ℕ, List, map, subst}
use Rattle.std.specs.Prelude.{IfSome}
use Rattle.kj_value.specs.Json.{text}
use Rattle.struct_schema.specs.Places.{ArePlaces}
use Rattle.struct_schema.proofs.required.Required.new.Goals as goal

pub invariant_of-result : goal.invariant_of-result
invariant_of-result c =
    subst (λ (ns : List (List ℕ)). IfSome c.in_ok-places.places (λ p. ArePlaces p 0 (map text ns))) c.as_slice.ensures c.in_ok-places.ensures
