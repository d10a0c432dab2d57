use Rattle.run_laws.proofs.Anything.{talk_any, complete_any, refused_any}
use Rattle.run_laws.proofs.any_line.where_nothing_fails.Goals as goal

pub returns-clause-talk : goal.returns-clause-talk
returns-clause-talk g c = λ w line s b out near told nf nr nw. talk_any w line s out near b told nf nr nw

pub returns-clause-completes : goal.returns-clause-completes
returns-clause-completes g c = λ w line s out fit nf nr nw ne. complete_any w line s out fit nf nr nw ne

pub returns-clause-refused : goal.returns-clause-refused
returns-clause-refused g c = λ w line s name why out told nf bad. refused_any w line s out told nf name why bad
