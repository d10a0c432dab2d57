use Rattle.std.proofs.Common.{ap, refl, sym}
use Rattle.kj_value.specs.Fields.{Pairs}
use Rattle.kj_value.specs.Json.{members_of, object}
use Rattle.api_calls.proofs.Names.{object_one}
use Rattle.write_texts.proofs.update.same_bodies.Goals as goal

pub fields_of-first-requires : goal.fields_of-first-requires
fields_of-first-requires c = (c.args.a, refl)

pub fields_of-second-requires : goal.fields_of-second-requires
fields_of-second-requires c = (c.args.b, refl)

pub returns-clause-same : goal.returns-clause-same
returns-clause-same c = (
  (λ one. object_one c.args.a c.args.b (c.same-one.ensures.0 one)),
  (λ is. c.same-one.ensures.1 (ap (λ (f : Pairs). object (members_of f)) is)),
)

pub returns-clause-first : goal.returns-clause-first
returns-clause-first c = sym (object_one c.args.a c.fields_of-first.result c.fields_of-first.ensures)

pub returns-clause-second : goal.returns-clause-second
returns-clause-second c = sym (object_one c.args.b c.fields_of-second.result c.fields_of-second.ensures)
