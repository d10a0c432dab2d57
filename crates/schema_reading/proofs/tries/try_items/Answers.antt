use Rattle.std.proofs.Common.{◌≡◌, Option, None, MatchResult, subst, ap, ◌∙◌}
use Rattle.kj_value.specs.Json.{members_of}
use Rattle.struct_schema.specs.Names.{value_at}
use Rattle.schema_reading.specs.Words.{word}
use Rattle.schema_reading.specs.Allowed.{items_allowed}
use Rattle.schema_reading.specs.Visit.{Refusal}
use Rattle.schema_reading.specs.Visits.{tries, part_visits}
use Rattle.schema_reading.specs.Told.{StopsSchemaReading}
use Rattle.schema_reading.specs.declared.words.Keyword.TheVariants.{Items as ItemsWord}
use Rattle.schema_reading.specs.declared.words.Scope.TheVariants.{Node}
use Rattle.schema_reading.specs.declared.words.Part.TheVariants.{BeforeItems}
use Rattle.schema_reading.proofs.Passing.{stops-first}
use Rattle.schema_reading.proofs.Parts.{keywords-part, part_passes, part_stops, tried_second}
use Rattle.schema_reading.proofs.tries.try_items.Goals as goal

pub returns-in-Err : goal.returns-in-Err
returns-in-Err c =
    stops-first 0 (part_visits BeforeItems (Node c.args.kind) (members_of c.args.fields.now)) (tries ItemsWord (items_allowed c.args.kind (value_at (word ItemsWord) (members_of c.args.fields.now)))) c.in-Err.stop (part_stops BeforeItems (Node c.args.kind) (members_of c.args.fields.now) c.in-Err.stop c.in-Err.ensures)

pub returns-in-Ok : goal.returns-in-Ok
returns-in-Ok c =
    let allowed : c.items_allowed.result ≡ (items_allowed c.args.kind (value_at (word ItemsWord) (members_of c.args.fields.now))) = c.items_allowed.ensures ∙ ap (items_allowed c.args.kind) c.value_at-v.ensures in
    subst (λ (o : Option Refusal). MatchResult c.try_keyword.result (λ _. o ≡ None) (λ e. StopsSchemaReading o e)) (tried_second (part_visits BeforeItems (Node c.args.kind) (members_of c.args.fields.now)) ItemsWord c.items_allowed.result (items_allowed c.args.kind (value_at (word ItemsWord) (members_of c.args.fields.now))) (keywords-part BeforeItems (Node c.args.kind) (members_of c.args.fields.now)) (part_passes BeforeItems (Node c.args.kind) (members_of c.args.fields.now) c.in-Ok.ensures) allowed) c.try_keyword.ensures
