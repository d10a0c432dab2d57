-- The `spec` of a definition that was loaded is within the levels at which its text was read.
use Rattle.std.proofs.Common.{◌≡◌, ◌∙◌, ℕ, ◌≤◌, List, ap, sym, subst, arith}
use Rattle.kj_value.specs.Json.{Json, depth}
use Rattle.kj_value.specs.Reading.{Reads}
use Rattle.kj_value.specs.declared.reading.TheConstants.{MAX_JSON_LEVELS}
use Rattle.crd_reading.specs.View.{DefinitionView}
use Rattle.crd_reading.specs.Spelled.{definition_read}
use Rattle.crd_loading.specs.Load.{Defines}
use Rattle.crd_settings.specs.laws.Depth.{spec_depth}

within : (a b : ℕ) → a ≤ b → b ≤ MAX_JSON_LEVELS → a ≤ MAX_JSON_LEVELS
within a b h l = omega (arith, h, l)

pub spec_within : ((bytes : List ℕ) (m : ℕ) (j : Json) → Reads bytes m j → depth j ≤ m) → (crd : List ℕ) (d : DefinitionView) → Defines crd d
    → depth d.spec ≤ MAX_JSON_LEVELS
spec_within read crd d defines =
    subst (λ (v : DefinitionView). depth v.spec ≤ MAX_JSON_LEVELS) (sym defines.spelled)
    (within (depth (definition_read defines.document).spec) (depth defines.document) (spec_depth defines.document) (read crd MAX_JSON_LEVELS defines.document defines.reads))
