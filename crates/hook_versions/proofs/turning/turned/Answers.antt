use Rattle.kj_value.specs.Seen.{json}
use Rattle.kube_meta.specs.View.{object_of}
use Rattle.kube_meta.specs.declared.object.Object.{Object}
use Rattle.hook_versions.specs.inner.Steps.{IsTaken}
use Rattle.hook_versions.proofs.Results.{some_of}
use Rattle.hook_versions.proofs.Turned.{taken_turned}
use Rattle.hook_versions.proofs.turning.turned.Goals as goal

pub returns-in-Ok-Some-clause-turned : goal.returns-in-Ok-Some-clause-turned
returns-in-Ok-Some-clause-turned g c = λ honest.
    taken_turned c.args.set.now g.C.Converter.turned (g.met.C.Converter.stays honest) (object_of c.args.x.now) c.args.v (object_of c.in-Ok-Some.y) (json c.in-Ok.answer) c.requires.sent
    (c.in-Ok.ensures.turned honest) (some_of Object (λ (y : Object). IsTaken c.args.set.now (object_of c.args.x.now) c.args.v (json c.in-Ok.answer) (object_of y)) c.in-Ok-Some.field-0 c.in-Ok-Some.y c.in-Ok-Some.field-0-is c.in-Ok-Some.ensures.taken)
