-- How a refusal is told by an answer: by its path as text and its keyword; want of memory may come anywhere.
use Rattle.std.specs.Prelude.{◌≡◌, ℕ, List, Option, Some, None}
use Rattle.struct_schema.specs.Path.{path_text, starts_named}
use Rattle.schema_reading.specs.Visit.{Visit, Refusal, first, after}
use Rattle.schema_reading.specs.declared.trouble.SchemaFault.{SchemaFault}
use Rattle.schema_reading.specs.declared.trouble.SchemaFault.TheVariants.{Refused, NoMemory}
use Rattle.schema_reading.specs.declared.trouble.Stop.{Stop}
use Rattle.schema_reading.specs.declared.trouble.Stop.TheVariants.{Found, Starved}

abbrev pub NamesSchemaFault : Option Refusal → SchemaFault → Type 0
NamesSchemaFault o NoMemory = Unit {0}
NamesSchemaFault None (Refused path keyword) = ⊥
NamesSchemaFault (Some r) (Refused path keyword) = (path.bytes ≡ path_text r.path) × (keyword.bytes ≡ r.keyword)

-- for private clauses: the same on the way out of the walk
abbrev pub StopsSchemaReading : Option Refusal → Stop → Type 0
StopsSchemaReading o Starved = Unit {0}
StopsSchemaReading None (Found s) = ⊥
StopsSchemaReading (Some r) (Found s) = (s.path.bytes ≡ path_text r.path) × (s.named ≡ starts_named r.path) × (s.keyword.bytes ≡ r.keyword)

-- for private clauses: nothing of some tries is refused, and the count of nodes goes on
abbrev pub Passes : ℕ → ℕ → List Visit → Type 0
Passes n m vs = (first n vs ≡ None) × (m ≡ after n vs)
