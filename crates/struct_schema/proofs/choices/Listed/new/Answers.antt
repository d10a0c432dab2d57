use Rattle.std.proofs.Common.{List, subst}
use Rattle.std.specs.Prelude.{IfSome}
use Rattle.kj_value.specs.Json.{Json}
use Rattle.struct_schema.specs.Places.{ArePlaces}
use Rattle.struct_schema.proofs.choices.Listed.new.Goals as goal

pub invariant_of-result : goal.invariant_of-result
invariant_of-result c =
    subst (λ (js : List Json). IfSome c.in_ok-places.places (λ p. ArePlaces p 0 js)) c.as_slice.ensures.value c.in_ok-places.ensures
