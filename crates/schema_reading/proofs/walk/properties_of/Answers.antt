use Rattle.std.proofs.Common.{◌≡◌, Some, ap, sym, ◌∙◌}
use Rattle.kj_value.specs.Json.{null, boolean, whole, text, list, items_of, members_of}
use Rattle.kj_value.specs.Seen.{json}
use Rattle.kj_value.specs.declared.value.JVal.{JVal}
use Rattle.struct_schema.specs.Names.{value_at}
use Rattle.schema_reading.specs.Words.{word}
use Rattle.schema_reading.specs.declared.words.Keyword.TheVariants.{Properties}
use Rattle.schema_reading.proofs.Found.{map_visits-some, map_visits-none, map_read-some, map_read-none}
use Rattle.schema_reading.proofs.walk.properties_of.Goals as goal

pub returns-in-None : goal.returns-in-None
returns-in-None c =
    λ root d. (map_visits-none root d (members_of c.args.fields.now) (sym c.in-None.ensures), map_read-none root (members_of c.args.fields.now) (sym c.in-None.ensures))

pub returns-in-Some-Null : goal.returns-in-Some-Null
returns-in-Some-Null c =
    let found : value_at (word Properties) (members_of c.args.fields.now) ≡ Some null = sym c.in-Some-Null.ensures ∙ ap (λ (v : JVal). Some (json v)) c.in-Some-Null.field-0-is in
    λ root d. (map_visits-some root d (members_of c.args.fields.now) null found, map_read-some root (members_of c.args.fields.now) null found)

pub returns-in-Some-Bool : goal.returns-in-Some-Bool
returns-in-Some-Bool c =
    let found : value_at (word Properties) (members_of c.args.fields.now) ≡ Some (boolean c.in-Some-Bool.field-0-0) = sym c.in-Some-Bool.ensures ∙ ap (λ (v : JVal). Some (json v)) c.in-Some-Bool.field-0-is in
    λ root d. (map_visits-some root d (members_of c.args.fields.now) (boolean c.in-Some-Bool.field-0-0) found, map_read-some root (members_of c.args.fields.now) (boolean c.in-Some-Bool.field-0-0) found)

pub returns-in-Some-Int : goal.returns-in-Some-Int
returns-in-Some-Int c =
    let found : value_at (word Properties) (members_of c.args.fields.now) ≡ Some (whole c.in-Some-Int.field-0-0) = sym c.in-Some-Int.ensures ∙ ap (λ (v : JVal). Some (json v)) c.in-Some-Int.field-0-is in
    λ root d. (map_visits-some root d (members_of c.args.fields.now) (whole c.in-Some-Int.field-0-0) found, map_read-some root (members_of c.args.fields.now) (whole c.in-Some-Int.field-0-0) found)

pub returns-in-Some-Text : goal.returns-in-Some-Text
returns-in-Some-Text c =
    let found : value_at (word Properties) (members_of c.args.fields.now) ≡ Some (text c.in-Some-Text.field-0-0.bytes) = sym c.in-Some-Text.ensures ∙ ap (λ (v : JVal). Some (json v)) c.in-Some-Text.field-0-is in
    λ root d. (map_visits-some root d (members_of c.args.fields.now) (text c.in-Some-Text.field-0-0.bytes) found, map_read-some root (members_of c.args.fields.now) (text c.in-Some-Text.field-0-0.bytes) found)

pub returns-in-Some-List : goal.returns-in-Some-List
returns-in-Some-List c =
    let found : value_at (word Properties) (members_of c.args.fields.now) ≡ Some (list (items_of c.in-Some-List.field-0-0)) = sym c.in-Some-List.ensures ∙ ap (λ (v : JVal). Some (json v)) c.in-Some-List.field-0-is in
    λ root d. (map_visits-some root d (members_of c.args.fields.now) (list (items_of c.in-Some-List.field-0-0)) found, map_read-some root (members_of c.args.fields.now) (list (items_of c.in-Some-List.field-0-0)) found)
