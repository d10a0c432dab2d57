-- A drill of the shared example, whatever its texts.
use Rattle.std.proofs.Common.{◌≡◌, ℕ, List, Result, Ok, Err, subst}
use Rattle.std.specs.Prelude.{IfOk}
use Rattle.kj_value.specs.Json.{Json}
use Rattle.kj_value.specs.Reading.{Reads}
use Rattle.kj_value.specs.declared.reading.TheConstants.{MAX_JSON_LEVELS}
use Rattle.kj_value.specs.declared.error.NoMemory.{NoMemory}
use Rattle.kj_value.specs.declared.txt.Txt.{Txt}
use Rattle.crd_loading.specs.Load.{Loads}
use Rattle.crd_loading.specs.View.{LoadedView}
use Rattle.crd_meaning.specs.Definition.{Definition}
use Rattle.drill_steps.specs.Drilling.{Tells, drilled}
use Rattle.kubeconv_cmd.specs.Sources.{DrillsExample, IsExample, LoadsSet, meaning_of}

abbrev pub OneReading : Type 0
OneReading = (bytes : List ℕ) (m n : ℕ) (j k : Json) → Reads bytes m j → Reads bytes n k → j ≡ k

-- texts that read as the same documents load the same
reloaded : OneReading → (a b crd rules : List ℕ) (d r : Json) (l : LoadedView) → Reads a MAX_JSON_LEVELS d → Reads b MAX_JSON_LEVELS r → Reads crd MAX_JSON_LEVELS d
    → Reads rules MAX_JSON_LEVELS r → Loads a b l → Loads crd rules l
reloaded one a b crd rules d r l ra rb rc rr loads = record {
  definition = loads.definition;
  defines = record {
    document = loads.defines.document;
    reads = subst (λ (j : Json). Reads crd MAX_JSON_LEVELS j) (one a MAX_JSON_LEVELS MAX_JSON_LEVELS d loads.defines.document ra loads.defines.reads) rc;
    allowed = loads.defines.allowed;
    spelled = loads.defines.spelled;
  };
  loads = record {
    document = loads.loads.document;
    reads = subst (λ (j : Json). Reads rules MAX_JSON_LEVELS j) (one b MAX_JSON_LEVELS MAX_JSON_LEVELS r loads.loads.document rb loads.loads.reads) rr;
    allowed = loads.loads.allowed;
    loaded = loads.loads.loaded;
  };
}

pub loads_again : OneReading → (a b crd rules : List ℕ) (d r : Json) (e : Definition) → Reads a MAX_JSON_LEVELS d → Reads b MAX_JSON_LEVELS r → Reads crd MAX_JSON_LEVELS d
    → Reads rules MAX_JSON_LEVELS r → LoadsSet a b e → LoadsSet crd rules e
loads_again one a b crd rules d r e ra rb rc rr found = record { view = found.view; loads = reloaded one a b crd rules d r found.view ra rb rc rr found.loads; is = found.is }

-- what is told of a drill of the definition that was loaded is told of the example
pub drills_example : (result : Result Txt NoMemory) (start count : ℕ) (d : Definition) → IsExample d → IfOk result (λ t. Tells (drilled (meaning_of d)) start count t.bytes)
    → IfOk result (λ t. DrillsExample start count t.bytes)
drills_example (Ok t) start count d is tells = record { definition = d; is = is; tells = tells }
drills_example (Err e) start count d is tells = tt
