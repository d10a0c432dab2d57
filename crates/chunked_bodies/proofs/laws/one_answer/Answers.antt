use Rattle.chunked_bodies.proofs.Unique.{answer_one}
use Rattle.chunked_bodies.proofs.laws.one_answer.Goals as goal

pub returns : goal.returns
returns c = λ bytes a b x y. answer_one bytes a b x y
