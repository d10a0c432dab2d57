-- The names of a document of rules, and the words of what is refused.
use Rattle.std.specs.Prelude.{ℕ, List, codes, Option, None, Some}
use Rattle.kj_value.specs.declared.reading.JsonFault.{JsonFault}
use Rattle.kj_value.specs.declared.reading.JsonFault.TheVariants.{NotJson, TooDeep, NotWhole, NoMemory}
use Rattle.hub_rules.specs.Refusal.{Why, name_twice, name_missing, schema_differs, unpaired_default, required_lost, range_lost}

unfoldable pub hub_name : List ℕ
hub_name = codes "hub"

unfoldable pub spokes_name : List ℕ
spokes_name = codes "spokes"

-- bytes that aren't read
unfoldable pub read_word : JsonFault → Option (List ℕ)
read_word NotJson = Some (codes "NotJson")
read_word TooDeep = Some (codes "TooDeep")
read_word NotWhole = Some (codes "NotWhole")
read_word NoMemory = None

-- rules that don't fit
unfoldable pub fit_word : Why → List ℕ
fit_word name_twice = codes "NameTwice"
fit_word name_missing = codes "NameMissing"
fit_word schema_differs = codes "SchemaDiffers"
fit_word unpaired_default = codes "UnpairedDefault"
fit_word required_lost = codes "RequiredLost"
fit_word range_lost = codes "RangeLost"
