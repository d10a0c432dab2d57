use Rattle.std.proofs.Common.{◌≡◌, Option, None, MatchResult, subst, ap, ◌∙◌}
use Rattle.kj_value.specs.Json.{members_of}
use Rattle.struct_schema.specs.Names.{value_at}
use Rattle.schema_reading.specs.Words.{word}
use Rattle.schema_reading.specs.Allowed.{additional_allowed}
use Rattle.schema_reading.specs.Visit.{Refusal}
use Rattle.schema_reading.specs.Visits.{tries, part_visits}
use Rattle.schema_reading.specs.Told.{StopsSchemaReading}
use Rattle.schema_reading.specs.declared.words.Keyword.TheVariants.{Additional}
use Rattle.schema_reading.specs.declared.words.Scope.TheVariants.{Node}
use Rattle.schema_reading.specs.declared.words.Part.TheVariants.{BeforeAdditional}
use Rattle.schema_reading.proofs.Passing.{stops-first}
use Rattle.schema_reading.proofs.Parts.{keywords-part, part_passes, part_stops, tried_second}
use Rattle.schema_reading.proofs.tries.try_additional.Goals as goal

pub returns-in-Err : goal.returns-in-Err
returns-in-Err c =
    stops-first 0 (part_visits BeforeAdditional (Node c.args.kind) (members_of c.args.fields.now)) (tries Additional (additional_allowed c.args.kind (members_of c.args.fields.now) (value_at (word Additional) (members_of c.args.fields.now)))) c.in-Err.stop (part_stops BeforeAdditional (Node c.args.kind) (members_of c.args.fields.now) c.in-Err.stop c.in-Err.ensures)

pub returns-in-Ok : goal.returns-in-Ok
returns-in-Ok c =
    let allowed : c.additional_allowed.result ≡ (additional_allowed c.args.kind (members_of c.args.fields.now) (value_at (word Additional) (members_of c.args.fields.now))) = c.additional_allowed.ensures ∙ ap (additional_allowed c.args.kind (members_of c.args.fields.now)) c.value_at-v.ensures in
    subst (λ (o : Option Refusal). MatchResult c.try_keyword.result (λ _. o ≡ None) (λ e. StopsSchemaReading o e)) (tried_second (part_visits BeforeAdditional (Node c.args.kind) (members_of c.args.fields.now)) Additional c.additional_allowed.result (additional_allowed c.args.kind (members_of c.args.fields.now) (value_at (word Additional) (members_of c.args.fields.now))) (keywords-part BeforeAdditional (Node c.args.kind) (members_of c.args.fields.now)) (part_passes BeforeAdditional (Node c.args.kind) (members_of c.args.fields.now) c.in-Ok.ensures) allowed) c.try_keyword.ensures
