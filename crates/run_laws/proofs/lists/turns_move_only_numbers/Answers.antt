use Rattle.serve_input.specs.Conversed.{front_of}
use Rattle.kubeconv_cmd.specs.Sources.{meaning_in}
use Rattle.run_laws.proofs.Moving.{turn-moves}
use Rattle.run_laws.proofs.lists.turns_move_only_numbers.Goals as goal

pub returns : goal.returns
returns g = λ l start p q takes. turn-moves (front_of (meaning_in l) start).server p q takes
