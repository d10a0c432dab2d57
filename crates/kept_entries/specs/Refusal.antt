-- Why a text is refused.
use Rattle.std.specs.Prelude.{◌≡◌, ℕ, List}
use Rattle.kj_value.specs.Json.{Json, text}
use Rattle.kj_value.specs.Fields.{Pairs}
use Rattle.kj_value.specs.declared.reading.JsonFault.{JsonFault}
use Rattle.kj_value.specs.declared.reading.JsonFault.TheVariants as json_fault
use Rattle.kept_entries.specs.declared.entry.Entry.{Entry}
use Rattle.kept_entries.specs.declared.fault.KeptFault.{KeptFault}
use Rattle.kept_entries.specs.declared.fault.KeptFault.TheVariants.{BadKept, NoMemory}
use Rattle.kept_entries.specs.Entry.{Name}
use Rattle.kept_entries.specs.Text.{IsCanonical, IsKept, path_json, part_json, entry_fields, entry_json, kept_json}

abbrev pub IsRefusedKeptText : List ℕ → KeptFault → Type 0
IsRefusedKeptText t BadKept = (es : List Entry) → IsKept t es → ⊥
IsRefusedKeptText t NoMemory = Unit {0}

-- ---- for private clauses

abbrev pub IsNotCanonical : List ℕ → KeptFault → Type 0
IsNotCanonical t BadKept = (j : Json) → IsCanonical t j → ⊥
IsNotCanonical t NoMemory = Unit {0}

abbrev pub kept_fault : JsonFault → KeptFault
kept_fault json_fault.NotJson = BadKept
kept_fault json_fault.TooDeep = BadKept
kept_fault json_fault.NotWhole = BadKept
kept_fault json_fault.NoMemory = NoMemory

abbrev pub IsNoList : Json → KeptFault → Type 0
IsNoList j BadKept = (es : List Entry) → kept_json es ≡ j → ⊥
IsNoList j NoMemory = Unit {0}

abbrev pub IsNoEntry : Json → KeptFault → Type 0
IsNoEntry j BadKept = (e : Entry) → entry_json e ≡ j → ⊥
IsNoEntry j NoMemory = Unit {0}

abbrev pub AreNoFields : Pairs → KeptFault → Type 0
AreNoFields ps BadKept = (e : Entry) → entry_fields e ≡ ps → ⊥
AreNoFields ps NoMemory = Unit {0}

abbrev pub IsNoPath : Json → KeptFault → Type 0
IsNoPath j BadKept = (ns : List Name) → path_json ns ≡ j → ⊥
IsNoPath j NoMemory = Unit {0}

abbrev pub IsNoPart : Json → KeptFault → Type 0
IsNoPart j BadKept = (ps : Pairs) → part_json ps ≡ j → ⊥
IsNoPart j NoMemory = Unit {0}

abbrev pub IsNoName : Json → KeptFault → Type 0
IsNoName j BadKept = (n : Name) → text n ≡ j → ⊥
IsNoName j NoMemory = Unit {0}
