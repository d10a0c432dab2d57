use Rattle.std.proofs.Common.{inr, arith}
use Rattle.kubeconv_cmd.specs.declared.status.TheConstants.{BAD_INPUT}
use Rattle.run_laws.proofs.PipeLaws.{pipe_held, pipe_handed_on, pipe_unread, pipe_unwritten, pipe_unserved, pipe_words, pipe_never}
use Rattle.run_laws.proofs.pipe.whatever_fails.Goals as goal

pub returns-clause-held : goal.returns-clause-held
returns-clause-held g c = λ w source turns s out. pipe_held w source turns s out.0

pub returns-clause-unread : goal.returns-clause-unread
returns-clause-unread g c = λ w source turns s out e. pipe_unread w source turns s out.0 e

pub returns-clause-unwritten : goal.returns-clause-unwritten
returns-clause-unwritten g c = λ w source turns s out e. pipe_unwritten w source turns s out.0 e

pub returns-clause-handed_on : goal.returns-clause-handed_on
returns-clause-handed_on g c = λ w source turns s out other. pipe_handed_on w source turns s out.0 other

pub returns-clause-unread_memory : goal.returns-clause-unread_memory
returns-clause-unread_memory g c = λ w source turns s out e. (pipe_unserved w source turns s out.0 (inr e)).0

pub returns-clause-no_task : goal.returns-clause-no_task
returns-clause-no_task g c = λ w source turns s out e. pipe_never BAD_INPUT (λ e. omega (arith, e)) (λ e. omega (arith, e)) (λ e. omega (arith, e)) (λ e. omega (arith, e)) (λ e. omega (arith, e)) (λ e. omega (arith, e)) (λ e. omega (arith, e)) (λ e. omega (arith, e)) w source turns s out.0 e

pub returns-clause-addressless : goal.returns-clause-addressless
returns-clause-addressless g c = λ w source turns s out e. pipe_words w source turns s out.0 e
