use Rattle.shared_api.specs.Base.{server_of}
use Rattle.http_front.proofs.Failures.{few_failures, step_502}
use Rattle.http_front.proofs.laws.few_failures.Goals as goal

pub returns-clause-one : goal.returns-clause-one
returns-clause-one g c = λ b told n s t r a step is. step_502 (record { server = server_of g.V.Versions.meaning b; told = told }) n s t r a step is

pub returns-clause-all : goal.returns-clause-all
returns-clause-all g c = λ b told n s t xs steps. few_failures (record { server = server_of g.V.Versions.meaning b; told = told }) n s t xs steps
