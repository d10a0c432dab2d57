use Rattle.std.proofs.Common.{◌≡◌, [], Bool, cond, Option, Some, None, MatchResult, subst, ap, sym, ◌∙◌}
use Rattle.kj_value.specs.Json.{members_of}
use Rattle.struct_schema.specs.Names.{value_at}
use Rattle.schema_reading.specs.Words.{word}
use Rattle.schema_reading.specs.Visit.{Refusal, refused_at}
use Rattle.schema_reading.specs.Visits.{tries, is_meta_type, meta_rest}
use Rattle.schema_reading.specs.Told.{StopsSchemaReading}
use Rattle.schema_reading.specs.declared.words.Keyword.TheVariants.{Kind as TypeWord}
use Rattle.schema_reading.proofs.Passing.{stops-first}
use Rattle.schema_reading.proofs.Parts.{tries_pass, tries_stop, second}
use Rattle.schema_reading.proofs.tries.try_meta_type.Goals as goal

pub returns-in-Err : goal.returns-in-Err
returns-in-Err c =
    stops-first 0 (tries TypeWord (is_meta_type c.args.text.now (value_at (word TypeWord) (members_of c.args.fields.now)))) (meta_rest (members_of c.args.fields.now)) c.in-Err.stop (tries_stop TypeWord (is_meta_type c.args.text.now (value_at (word TypeWord) (members_of c.args.fields.now))) c.in-Err.stop (subst (λ (b : Bool). StopsSchemaReading (cond b None (Some (refused_at [] (word TypeWord)))) c.in-Err.stop) (c.is_meta_type-is_right.ensures ∙ ap (is_meta_type c.args.text.now) c.value_at.ensures) c.in-Err.ensures))

pub returns-in-Ok : goal.returns-in-Ok
returns-in-Ok c =
    subst (λ (o : Option Refusal). MatchResult c.try_meta_rest.result (λ _. o ≡ None) (λ e. StopsSchemaReading o e)) (second (tries TypeWord (is_meta_type c.args.text.now (value_at (word TypeWord) (members_of c.args.fields.now)))) (meta_rest (members_of c.args.fields.now)) (tt, tt) (tries_pass TypeWord (is_meta_type c.args.text.now (value_at (word TypeWord) (members_of c.args.fields.now))) (sym (ap (λ (b : Bool). cond b None (Some (refused_at [] (word TypeWord)))) (c.is_meta_type-is_right.ensures ∙ ap (is_meta_type c.args.text.now) c.value_at.ensures)) ∙ c.in-Ok.ensures))) c.try_meta_rest.ensures
