-- What is taken from the laws of other crates, whose functions' clauses give it.
use Rattle.std.specs.Prelude.{◌≡◌, ℕ, Some, slice_get}
use Rattle.kj_value.specs.Json.{Json}
use Rattle.kj_value.specs.Sound.{IsSoundJson}
use Rattle.kube_meta.specs.View.{ObjectView}
use Rattle.struct_schema.specs.Shape.{Shape}
use Rattle.struct_schema.specs.Filled.{Filled}
use Rattle.prune_default.specs.SoundDefaults.{HasSoundDefaults}
use Rattle.keep_laws.specs.Spokes.{Spoke, Spokes, IsDefinition}
use Rattle.keep_laws.specs.Notes.{IsObject}
use Rattle.keep_laws.specs.Pair.{IsPairOf}
use Rattle.keep_laws.specs.WholeHub.{IsWholeHub, IsSettledAt}
use Rattle.keep_laws.specs.Settling.{SettlesAtHub, SettlesAtSpoke}

pub record Given : Type 0 where
  -- what is paired with a whole object is settled, and is the only one; and back
  pub settled : (all : Spokes) (v : ℕ) (s : Spoke) → IsDefinition all → slice_get all.items v ≡ Some s
      → (x h : ObjectView) → IsObject x → IsWholeHub all h → IsPairOf all s x h → IsSettledAt all s x
  pub spoke : (all : Spokes) (v : ℕ) (s : Spoke) → IsDefinition all → slice_get all.items v ≡ Some s
      → (x y h : ObjectView) → IsObject x → IsObject y → IsWholeHub all h → IsPairOf all s x h → IsPairOf all s y h → x ≡ y
  pub hub : (all : Spokes) (v : ℕ) (s : Spoke) → IsDefinition all → slice_get all.items v ≡ Some s
      → (x g h : ObjectView) → IsObject g → IsObject h → IsSettledAt all s x → IsPairOf all s x g → IsPairOf all s x h → g ≡ h
  -- an object settles to one object
  pub left : (all : Spokes) (v : ℕ) (s : Spoke) → IsDefinition all → slice_get all.items v ≡ Some s
      → (x y z : ObjectView) → SettlesAtSpoke all s x y → SettlesAtSpoke all s x z → y ≡ z
  pub left_at_hub : (all : Spokes) (x y z : ObjectView) → SettlesAtHub all x y → SettlesAtHub all x z → y ≡ z
  -- a value has one filling, and has one where each default of the schema is a JSON value
  pub filling : (s : Shape) (j k l : Json) → IsSoundJson k → IsSoundJson l → Filled s j k → Filled s j l → k ≡ l
  pub fills : (s : Shape) (j : Json) → HasSoundDefaults s → IsSoundJson j → (k : Json) × Filled s j k × IsSoundJson k
