-- That each default of a schema is a JSON value: its numbers have 64 bits, and the names of its objects rise.
use Rattle.std.specs.Prelude.{Option, Some, None}
use Rattle.kj_value.specs.Json.{Json}
use Rattle.kj_value.specs.Sound.{IsSoundJson}
use Rattle.struct_schema.specs.Shape.{Shape, shape, Shapes, no_shapes, shape_at, MaybeShapes, no_map, some_map, MaybeShape, no_shape, some_shape}

abbrev pub SoundAt : Option Json → Type 0
SoundAt None = Unit {0}
SoundAt (Some j) = IsSoundJson j

abbrev mutual
  pub HasSoundDefaults : Shape → Type 0
  HasSoundDefaults (shape o ps a i) = SoundAt o.default_value × SoundInMap ps × SoundInMaybe a × SoundInMaybe i

  pub SoundInMap : MaybeShapes → Type 0
  SoundInMap no_map = Unit {0}
  SoundInMap (some_map ss) = SoundInShapes ss

  pub SoundInShapes : Shapes → Type 0
  SoundInShapes no_shapes = Unit {0}
  SoundInShapes (shape_at l s ss) = HasSoundDefaults s × SoundInShapes ss

  pub SoundInMaybe : MaybeShape → Type 0
  SoundInMaybe no_shape = Unit {0}
  SoundInMaybe (some_shape s) = HasSoundDefaults s
