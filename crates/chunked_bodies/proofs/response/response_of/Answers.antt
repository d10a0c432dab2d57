use Rattle.std.proofs.Common.{◌∙◌, ◌++◌, ℕ, List, ap}
use Rattle.chunked_bodies.proofs.response.response_of.Goals as goal

pub returns : goal.returns
returns c = λ h at. c.in_ok-extend_from_slice.ensures.items ∙ ap (λ (xs : List ℕ). xs ++ c.args.content.now) (c.in_ok-out.ensures h at)
