use Rattle.std.proofs.Common.{◌≡◌, Option, None, MatchResult, subst}
use Rattle.std.specs.Prelude.{is_none}
use Rattle.kj_value.specs.Json.{members_of}
use Rattle.struct_schema.specs.Names.{value_at}
use Rattle.schema_reading.specs.Words.{word}
use Rattle.schema_reading.specs.Visit.{Refusal}
use Rattle.schema_reading.specs.Visits.{tries, part_visits}
use Rattle.schema_reading.specs.Told.{StopsSchemaReading}
use Rattle.schema_reading.specs.declared.words.Keyword.TheVariants.{Default}
use Rattle.schema_reading.specs.declared.words.Scope.TheVariants.{Meta}
use Rattle.schema_reading.specs.declared.words.Part.TheVariants.{AfterType}
use Rattle.schema_reading.proofs.Passing.{stops-first}
use Rattle.schema_reading.proofs.Parts.{keywords-part, part_passes, part_stops, tried_second}
use Rattle.schema_reading.proofs.tries.try_meta_rest.Goals as goal

pub returns-in-Err : goal.returns-in-Err
returns-in-Err c =
    stops-first 0 (part_visits AfterType Meta (members_of c.args.fields.now)) (tries Default (is_none (value_at (word Default) (members_of c.args.fields.now)))) c.in-Err.stop (part_stops AfterType Meta (members_of c.args.fields.now) c.in-Err.stop c.in-Err.ensures)

pub returns-in-Ok : goal.returns-in-Ok
returns-in-Ok c =
    subst (λ (o : Option Refusal). MatchResult c.try_keyword.result (λ _. o ≡ None) (λ e. StopsSchemaReading o e)) (tried_second (part_visits AfterType Meta (members_of c.args.fields.now)) Default c.is_absent-absent.result (is_none (value_at (word Default) (members_of c.args.fields.now))) (keywords-part AfterType Meta (members_of c.args.fields.now)) (part_passes AfterType Meta (members_of c.args.fields.now) c.in-Ok.ensures) c.is_absent-absent.ensures) c.try_keyword.ensures
