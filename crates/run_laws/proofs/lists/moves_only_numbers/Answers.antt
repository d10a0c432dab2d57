use Rattle.std.proofs.Common.{Some}
use Rattle.kubeconv_cmd.specs.Sources.{meaning_in}
use Rattle.run_laws.proofs.Moving.{moves-in}
use Rattle.run_laws.proofs.lists.moves_only_numbers.Goals as goal

pub returns : goal.returns
returns g c = λ k l start asked count h0 handed g0 given s before after x is outside.
    moves-in (meaning_in l) s.log before after s.spans x is outside (Some 0) s.idle s.workers s.spared s.owned
