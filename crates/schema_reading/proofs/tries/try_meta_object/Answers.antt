use Rattle.std.proofs.Common.{◌≡◌, Option, None, MatchResult, subst}
use Rattle.kj_value.specs.Json.{members_of}
use Rattle.schema_reading.specs.Visit.{Refusal}
use Rattle.schema_reading.specs.Visits.{part_visits, meta_typed}
use Rattle.schema_reading.specs.Told.{StopsSchemaReading}
use Rattle.schema_reading.specs.declared.words.Scope.TheVariants.{Meta}
use Rattle.schema_reading.specs.declared.words.Part.TheVariants.{AnyBeforeType}
use Rattle.schema_reading.proofs.Passing.{stops-first}
use Rattle.schema_reading.proofs.Parts.{keywords-part, part_passes, part_stops, second}
use Rattle.schema_reading.proofs.tries.try_meta_object.Goals as goal

pub returns-in-Err : goal.returns-in-Err
returns-in-Err c =
    stops-first 0 (part_visits AnyBeforeType Meta (members_of c.args.fields.now)) (meta_typed c.args.text.now (members_of c.args.fields.now)) c.in-Err.stop (part_stops AnyBeforeType Meta (members_of c.args.fields.now) c.in-Err.stop c.in-Err.ensures)

pub returns-in-Ok : goal.returns-in-Ok
returns-in-Ok c =
    subst (λ (o : Option Refusal). MatchResult c.try_meta_type.result (λ _. o ≡ None) (λ e. StopsSchemaReading o e)) (second (part_visits AnyBeforeType Meta (members_of c.args.fields.now)) (meta_typed c.args.text.now (members_of c.args.fields.now)) (keywords-part AnyBeforeType Meta (members_of c.args.fields.now)) (part_passes AnyBeforeType Meta (members_of c.args.fields.now) c.in-Ok.ensures)) c.try_meta_type.ensures
