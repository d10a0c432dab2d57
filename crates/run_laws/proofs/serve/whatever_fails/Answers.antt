use Rattle.std.proofs.Common.{arith}
use Rattle.kubeconv_cmd.specs.declared.status.TheConstants.{BAD_INPUT}
use Rattle.run_laws.proofs.ServeLaws.{serve_runs, serve_says, serve_words, serve_never}
use Rattle.run_laws.proofs.serve.whatever_fails.Goals as goal

pub returns-clause-serves : goal.returns-clause-serves
returns-clause-serves g c = λ w source v s out. serve_runs w source v s out.0

pub returns-clause-says : goal.returns-clause-says
returns-clause-says g c = λ w source v s out. serve_says w source v s out.0

pub returns-clause-no_input : goal.returns-clause-no_input
returns-clause-no_input g c = λ w source v s out. (out.1, λ e. serve_never BAD_INPUT (λ e. omega (arith, e)) (λ e. omega (arith, e)) (λ e. omega (arith, e)) (λ e. omega (arith, e)) (λ e. omega (arith, e)) (λ e. omega (arith, e)) (λ e. omega (arith, e)) w source v s out.0 e)

pub returns-clause-addressless : goal.returns-clause-addressless
returns-clause-addressless g c = λ w source v s out e. serve_words w source v s out.0 e
