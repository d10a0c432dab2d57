use Rattle.std.proofs.Common.{Option, subst}
use Rattle.std.specs.Prelude.{IfSome}
use Rattle.struct_schema.specs.Places.{ArePlaces}
use Rattle.struct_schema.specs.declared.places.Places.{Places}
use Rattle.struct_schema.proofs.places.find_text_in.Goals as goal

pub returns-in-Some : goal.returns-in-Some
returns-in-Some c = λ js h.
    c.find_text.ensures 0 js (subst (λ (o : Option Places). IfSome o (λ p. ArePlaces p 0 js)) c.in-Some.is h)
