use Rattle.std.proofs.Common.{◌≡◌, Option, None, MatchResult, subst}
use Rattle.kj_value.specs.Json.{members_of}
use Rattle.schema_reading.specs.Visit.{Refusal}
use Rattle.schema_reading.specs.Visits.{part_visits, typed_visits}
use Rattle.schema_reading.specs.Told.{StopsSchemaReading}
use Rattle.schema_reading.specs.declared.words.Scope.TheVariants.{Node}
use Rattle.schema_reading.specs.declared.words.Part.TheVariants.{BeforeType}
use Rattle.schema_reading.proofs.Passing.{stops-first}
use Rattle.schema_reading.proofs.Parts.{keywords-part, part_passes, part_stops, second}
use Rattle.schema_reading.proofs.tries.try_type.Goals as goal

pub returns-in-Err : goal.returns-in-Err
returns-in-Err c =
    stops-first 0 (part_visits BeforeType (Node c.args.kind) (members_of c.args.fields.now)) (typed_visits c.args.root c.args.kind (members_of c.args.fields.now)) c.in-Err.stop (part_stops BeforeType (Node c.args.kind) (members_of c.args.fields.now) c.in-Err.stop c.in-Err.ensures)

pub returns-in-Ok : goal.returns-in-Ok
returns-in-Ok c =
    subst (λ (o : Option Refusal). MatchResult c.try_typed.result (λ _. o ≡ None) (λ e. StopsSchemaReading o e)) (second (part_visits BeforeType (Node c.args.kind) (members_of c.args.fields.now)) (typed_visits c.args.root c.args.kind (members_of c.args.fields.now)) (keywords-part BeforeType (Node c.args.kind) (members_of c.args.fields.now)) (part_passes BeforeType (Node c.args.kind) (members_of c.args.fields.now) c.in-Ok.ensures)) c.try_typed.ensures
