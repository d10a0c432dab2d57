use Rattle.kube_meta.specs.declared.limits.TheConstants.Limits.{STANDING}
use Rattle.api_calls.specs.Item.{items}
use Rattle.kubeconv_cmd.specs.Sources.{meaning_in}
use Rattle.run_laws.proofs.Moving.{stands-in}
use Rattle.run_laws.proofs.lists.stands_at_the_target.Goals as goal

pub returns : goal.returns
returns g c = λ k l start asked count h0 handed g0 given s before after later is.
    stands-in (meaning_in l) STANDING (items s.log) before after later s.legal.guards is
