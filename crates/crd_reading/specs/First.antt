-- The first thing that is refused of a document: in the walk over it by names, then by the comparisons, then in the
-- schemas of the versions, in their order.
use Rattle.std.specs.Prelude.{ℕ, suc, List, Option, None, Some, length, nat_lt}
use Rattle.std.specs.Str.{bytes_eq}
use Rattle.kj_value.specs.Json.{Json, Items, no_items, item}
use Rattle.struct_schema.specs.Fault.{or_else, unless}
use Rattle.struct_schema.specs.Path.{path_text}
use Rattle.struct_schema.specs.PathText.{Path}
use Rattle.schema_reading.specs.Visit as schema
use Rattle.schema_reading.specs.Visits as schemas
use Rattle.crd_reading.specs.Words.{spelled, shape_word}
use Rattle.crd_reading.specs.Refusal.{Refusal, refused_here, out_of_name, under_name, under_item}
use Rattle.crd_reading.specs.Walk.{refusal}
use Rattle.crd_reading.specs.Spelled.{schema_in, version_items, definition_read, own_name, full_name}
use Rattle.crd_reading.specs.Offered.{are_offered}
use Rattle.crd_reading.specs.declared.words.Word.TheVariants.{Metadata, Name, OpenApi, Schema, Spec, Versions}
use Rattle.crd_reading.specs.declared.places.Place.TheVariants.{Document}

-- ---- the comparisons

abbrev pub at_own_name : Refusal
at_own_name = out_of_name (spelled Metadata) (out_of_name (spelled Name) (refused_here shape_word))

abbrev pub at_versions : Refusal
at_versions = out_of_name (spelled Spec) (out_of_name (spelled Versions) (refused_here shape_word))

abbrev pub compared_refusal : Json → Option Refusal
compared_refusal j =
    unless (bytes_eq (own_name j) (full_name (definition_read j))) at_own_name (unless (are_offered (definition_read j).versions) at_versions None)

-- ---- the schemas

-- a path in a schema; no point is written before an empty one
abbrev pub path_of_text : List ℕ → Path
path_of_text t = record { text = t; is_named = nat_lt 0 (length t) }

abbrev pub of_schema : Option schema.Refusal → Option Refusal
of_schema None = None
of_schema (Some r) = Some (record { path = path_of_text (path_text r.path); why = r.keyword })

-- inside the schema of the version with a number
abbrev pub under_schema : ℕ → Option Refusal → Option Refusal
under_schema i o =
    under_name (spelled Spec) (under_name (spelled Versions) (under_item i (under_name (spelled Schema) (under_name (spelled OpenApi) o))))

abbrev pub schema_refusal : ℕ → Json → Option Refusal
schema_refusal i j = under_schema i (of_schema (schemas.first_refusal (schema_in j)))

-- from a number on
abbrev pub schemas_refusal : ℕ → Items → Option Refusal
schemas_refusal i no_items = None
schemas_refusal i (item j js) = or_else (schema_refusal i j) (schemas_refusal (suc i) js)

-- ---- the whole

unfoldable pub first_refusal : Json → Option Refusal
first_refusal j =
    or_else (refusal Document j) (or_else (compared_refusal j) (schemas_refusal 0 (version_items j)))
