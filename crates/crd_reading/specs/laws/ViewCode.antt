-- How the logic stores a definition: as a tree of numbers, one for each.
use Rattle.std.specs.Prelude.{ℕ, List, Bool, refl}
use Rattle.std.specs.Coded.{Coded, code_by, coded_ℕ, coded_bool, coded_list, coded×}
use Rattle.kj_value.specs.Json.{Json}
use Rattle.kj_value.specs.laws.JsonCode.{json_code}
use Rattle.struct_schema.specs.Shape.{Shape}
use Rattle.struct_schema.specs.laws.ShapeCode.{shape_code}
use Rattle.crd_reading.specs.View.{VersionView, DefinitionView}

abbrev pub version_code : Coded VersionView
version_code =
    code_by (List ℕ × (Bool × (Bool × Shape))) (coded× (coded_list coded_ℕ) (coded× coded_bool (coded× coded_bool shape_code))) (λ v. (v.name, (v.served, (v.storage, v.schema)))) (λ t. record { name = t.0; served = t.1.0; storage = t.1.1.0; schema = t.1.1.1 }) (λ _. refl)

abbrev pub definition_code : Coded DefinitionView
definition_code =
    code_by (List ℕ × (List ℕ × (List ℕ × (List ℕ × (List VersionView × Json))))) (coded× (coded_list coded_ℕ) (coded× (coded_list coded_ℕ) (coded× (coded_list coded_ℕ) (coded× (coded_list coded_ℕ) (coded× (coded_list version_code) json_code))))) (λ d. (d.group, (d.plural, (d.kind, (d.list_kind, (d.versions, d.spec)))))) (λ t. record { group = t.0; plural = t.1.0; kind = t.1.1.0; list_kind = t.1.1.1.0; versions = t.1.1.1.1.0; spec = t.1.1.1.1.1 }) (λ _. refl)
