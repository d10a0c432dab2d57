use Rattle.std.proofs.Common.{◌≡◌, [], Bool, cond, Option, Some, None, MatchResult, subst, ap, sym, ◌∙◌}
use Rattle.kj_value.specs.Json.{members_of}
use Rattle.schema_reading.specs.Words.{word}
use Rattle.schema_reading.specs.Kind.{type_allowed}
use Rattle.schema_reading.specs.Visit.{Refusal, refused_at}
use Rattle.schema_reading.specs.Visits.{tries, part_visits}
use Rattle.schema_reading.specs.Told.{StopsSchemaReading}
use Rattle.schema_reading.specs.declared.words.Keyword.TheVariants.{Kind as TypeWord}
use Rattle.schema_reading.specs.declared.words.Scope.TheVariants.{Node}
use Rattle.schema_reading.specs.declared.words.Part.TheVariants.{AfterType}
use Rattle.schema_reading.proofs.Passing.{stops-first}
use Rattle.schema_reading.proofs.Parts.{tries_pass, tries_stop, part_second}
use Rattle.schema_reading.proofs.tries.try_typed.Goals as goal

pub returns-in-Err : goal.returns-in-Err
returns-in-Err c =
    stops-first 0 (tries TypeWord (type_allowed c.args.root c.args.kind)) (part_visits AfterType (Node c.args.kind) (members_of c.args.fields.now)) c.in-Err.stop (tries_stop TypeWord (type_allowed c.args.root c.args.kind) c.in-Err.stop (subst (λ (b : Bool). StopsSchemaReading (cond b None (Some (refused_at [] (word TypeWord)))) c.in-Err.stop) c.type_allowed.ensures c.in-Err.ensures))

pub returns-in-Ok : goal.returns-in-Ok
returns-in-Ok c =
    subst (λ (o : Option Refusal). MatchResult c.try_part.result (λ _. o ≡ None) (λ e. StopsSchemaReading o e)) (part_second (tries TypeWord (type_allowed c.args.root c.args.kind)) AfterType (Node c.args.kind) (members_of c.args.fields.now) (tt, tt) (tries_pass TypeWord (type_allowed c.args.root c.args.kind) (sym (ap (λ (b : Bool). cond b None (Some (refused_at [] (word TypeWord)))) c.type_allowed.ensures) ∙ c.in-Ok.ensures))) c.try_part.ensures
