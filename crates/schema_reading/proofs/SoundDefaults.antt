-- Each default of the schema that a document spells is a JSON value, where the document is one.
use Rattle.std.proofs.Common.{List, Bool, true, false, cond, Option, Some, None}
use Rattle.std.specs.Prelude.{ℕ}
use Rattle.kj_value.specs.Json.{Json, null, boolean, whole, text, list, object, Members, no_members, member}
use Rattle.kj_value.specs.Sound.{IsSoundJson, AreRising}
use Rattle.struct_schema.specs.Names.{is_name, value_at}
use Rattle.struct_schema.specs.Shape.{Shape, Shapes, MaybeShapes, MaybeShape, some_shape}
use Rattle.prune_default.specs.SoundDefaults.{SoundAt, HasSoundDefaults, SoundInMap, SoundInShapes, SoundInMaybe}
use Rattle.schema_reading.specs.Words.{word, passed_type}
use Rattle.schema_reading.specs.ShapeRead.{property_read, shape_read, inner_read, map_read, named_read, shapes_read}
use Rattle.schema_reading.specs.declared.words.Keyword.{Keyword}
use Rattle.schema_reading.specs.declared.words.Keyword.TheVariants.{Additional, Default, Items as ItemsWord, Properties}

one_value : (b : Bool) (j : Json) (o : Option Json) → IsSoundJson j → SoundAt o → SoundAt (cond b (Some j) o)
one_value true j o h k = h
one_value false j o h k = k

value_sound : (n : List ℕ) (ms : Members) → AreRising ms → SoundAt (value_at n ms)
value_sound n no_members h = tt
value_sound n (member k j ms) h = one_value (is_name n k) j (value_at n ms) h.1 (value_sound n ms h.2)

one_inside : (b : Bool) (s : Shape) (m : MaybeShape) → HasSoundDefaults s → SoundInMaybe m → SoundInMaybe (cond b (some_shape s) m)
one_inside true s m h k = h
one_inside false s m h k = k

map_inside : (b : Bool) (p q : MaybeShapes) → SoundInMap p → SoundInMap q → SoundInMap (cond b p q)
map_inside true p q h k = h
map_inside false p q h k = k

-- what the root passes over has no schema
property_inside : (o : Option (List ℕ)) (n : List ℕ) (s : Shape) (ss : Shapes) → HasSoundDefaults s → SoundInShapes ss → SoundInShapes (property_read o n s ss)
property_inside None n s ss h k = (h, k)
property_inside (Some w) n s ss h k = k

mutual
  pub in_node : (root : Bool) (j : Json) → IsSoundJson j → HasSoundDefaults (shape_read root j)
  in_node root null h = (tt, tt, tt, tt)
  in_node root (boolean b) h = (tt, tt, tt, tt)
  in_node root (whole z) h = (tt, tt, tt, tt)
  in_node root (text t) h = (tt, tt, tt, tt)
  in_node root (list js) h = (tt, tt, tt, tt)
  in_node root (object ms) h =
      (value_sound (word Default) ms h, in_map root ms h, in_inner Additional ms h, in_inner ItemsWord ms h)

  in_inner : (w : Keyword) (ms : Members) → AreRising ms → SoundInMaybe (inner_read w ms)
  in_inner w no_members h = tt
  in_inner w (member k j ms) h =
      one_inside (is_name (word w) k) (shape_read false j) (inner_read w ms) (in_node false j h.1) (in_inner w ms h.2)

  in_map : (root : Bool) (ms : Members) → AreRising ms → SoundInMap (map_read root ms)
  in_map root no_members h = tt
  in_map root (member k j ms) h =
      map_inside (is_name (word Properties) k) (named_read root j) (map_read root ms) (in_named root j h.1) (in_map root ms h.2)

  in_named : (root : Bool) (j : Json) → IsSoundJson j → SoundInMap (named_read root j)
  in_named root null h = tt
  in_named root (boolean b) h = tt
  in_named root (whole z) h = tt
  in_named root (text t) h = tt
  in_named root (list js) h = tt
  in_named root (object ps) h = in_each root ps h

  in_each : (root : Bool) (ps : Members) → AreRising ps → SoundInShapes (shapes_read root ps)
  in_each root no_members h = tt
  in_each root (member n j ps) h =
      property_inside (passed_type root n) n (shape_read false j) (shapes_read root ps) (in_node false j h.1) (in_each root ps h.2)

-- ---- a whole document

pub sound_defaults : (j : Json) → IsSoundJson j → HasSoundDefaults (shape_read true j)
sound_defaults j h = in_node true j h
