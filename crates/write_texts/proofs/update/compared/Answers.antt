use Rattle.std.proofs.Common.{ap}
use Rattle.kj_value.specs.Fields.{Pairs}
use Rattle.kube_meta.specs.View.{object_of}
use Rattle.write_texts.proofs.update.compared.Goals as goal

pub returns-clause-first : goal.returns-clause-first
returns-clause-first c = ap (λ (f : Pairs). record (object_of c.args.a) { body = f }) c.same_bodies-one.ensures.first

pub returns-clause-second : goal.returns-clause-second
returns-clause-second c = ap (λ (f : Pairs). record (object_of c.args.b) { body = f }) c.same_bodies-one.ensures.second
