-- The options of a delete, and its Status.
use Rattle.std.specs.Prelude.{◌≡◌, ℕ, List, [], ◌∷◌, codes}
use Rattle.kj_value.specs.Fields.{Pairs}
use Rattle.kj_value.specs.Json.{Json, members_of, object, text}
use Rattle.api_calls.specs.Bodies.{IsUnset}
use Rattle.api_calls.specs.Meaning.{Meaning}

-- an object that asks for no precondition and no dry run
pub record HasUnset (j : Json) : Type 0 where
  pub fields : Pairs
  pub is : j ≡ object (members_of fields)
  pub preconditions : IsUnset (codes "preconditions") fields
  pub dry_run : IsUnset (codes "dryRun") fields

-- which object was deleted
unfoldable pub deleted_details : Meaning → List ℕ → List ℕ → Json
deleted_details m name id = object (members_of (
    (codes "group", text m.group)
    ∷ (codes "kind", text m.plural)
    ∷ (codes "name", text name)
    ∷ (codes "uid", text id)
    ∷ []))
