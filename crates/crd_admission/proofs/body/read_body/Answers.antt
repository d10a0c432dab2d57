use Rattle.kj_value.specs.Seen.{json}
use Rattle.api_calls.specs.Versions.{request_of}
use Rattle.crd_admission.specs.Steps.{is_early}
use Rattle.crd_admission.proofs.body.read_body.Goals as goal

pub returns-in-None-clause-refused : goal.returns-in-None-clause-refused
returns-in-None-clause-refused c =
    λ d. is_early (record { value = json c.in-Ok.v; reads = c.in-Ok.ensures.ok; told = c.in-None.ensures d (request_of c.args.input.now) })
