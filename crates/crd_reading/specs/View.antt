-- A definition: its names, its versions in order, and its `spec` as it was loaded.
use Rattle.std.specs.Prelude.{ℕ, List, Bool}
use Rattle.kj_value.specs.Json.{Json}
use Rattle.struct_schema.specs.Shape.{Shape}

pub record VersionView : Type 0 where
  pub name : List ℕ
  pub served : Bool
  pub storage : Bool
  pub schema : Shape

pub record DefinitionView : Type 0 where
  pub group : List ℕ
  pub plural : List ℕ
  pub kind : List ℕ
  pub list_kind : List ℕ
  pub versions : List VersionView
  pub spec : Json
