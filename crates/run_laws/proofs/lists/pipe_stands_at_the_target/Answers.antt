use Rattle.kube_meta.specs.declared.limits.TheConstants.Limits.{STANDING}
use Rattle.kubeconv_cmd.specs.Sources.{meaning_in}
use Rattle.run_laws.proofs.Moving.{stands-in}
use Rattle.run_laws.proofs.lists.pipe_stands_at_the_target.Goals as goal

pub returns : goal.returns
returns g = λ l turns start input w0 written end c before after later is.
    stands-in (meaning_in l) STANDING c.0.log before after later c.1 is
