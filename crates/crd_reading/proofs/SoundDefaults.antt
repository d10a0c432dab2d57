-- Each default of the schemas of a document's versions is a JSON value, where the document is one.
use Rattle.std.proofs.Common.{List, Bool, true, false, cond, Option, Some, None}
use Rattle.std.specs.Prelude.{ℕ}
use Rattle.kj_value.specs.Json.{Json, null, boolean, whole, text, list, object, Items, no_items, item, Members, no_members, member}
use Rattle.kj_value.specs.Sound.{IsSoundJson, AreSoundItems, AreRising}
use Rattle.struct_schema.specs.Names.{is_name, value_at}
use Rattle.prune_default.specs.SoundDefaults.{SoundAt, HasSoundDefaults}
use Rattle.schema_reading.specs.ShapeRead.{shape_read}
use Rattle.crd_reading.specs.Words.{spelled}
use Rattle.crd_reading.specs.Spelled.{inside, items_in, or_null, schema_in, versions_read, version_items, spec_in, definition_read}
use Rattle.crd_reading.specs.Whole.{HaveSoundDefaults}
use Rattle.crd_reading.specs.declared.words.Word.{Word}
use Rattle.crd_reading.specs.declared.words.Word.TheVariants.{OpenApi, Schema, Spec, Versions}

one_value : (b : Bool) (j : Json) (o : Option Json) → IsSoundJson j → SoundAt o → SoundAt (cond b (Some j) o)
one_value true j o h k = h
one_value false j o h k = k

value_sound : (n : List ℕ) (ms : Members) → AreRising ms → SoundAt (value_at n ms)
value_sound n no_members h = tt
value_sound n (member k j ms) h = one_value (is_name n k) j (value_at n ms) h.1 (value_sound n ms h.2)

inside_sound : (w : Word) (o : Option Json) → SoundAt o → SoundAt (inside w o)
inside_sound w None h = tt
inside_sound w (Some null) h = tt
inside_sound w (Some (boolean b)) h = tt
inside_sound w (Some (whole z)) h = tt
inside_sound w (Some (text t)) h = tt
inside_sound w (Some (list js)) h = tt
inside_sound w (Some (object ms)) h = value_sound (spelled w) ms h

or_null_sound : (o : Option Json) → SoundAt o → IsSoundJson (or_null o)
or_null_sound None h = tt
or_null_sound (Some j) h = h

items_sound : (o : Option Json) → SoundAt o → AreSoundItems (items_in o)
items_sound None h = tt
items_sound (Some null) h = tt
items_sound (Some (boolean b)) h = tt
items_sound (Some (whole z)) h = tt
items_sound (Some (text t)) h = tt
items_sound (Some (list js)) h = h
items_sound (Some (object ms)) h = tt

module _ (read : (j : Json) → IsSoundJson j → HasSoundDefaults (shape_read true j)) where
  each_sound : (js : Items) → AreSoundItems js → HaveSoundDefaults (versions_read js)
  each_sound no_items h = tt
  each_sound (item j js) h =
      (read (schema_in j) (or_null_sound (inside OpenApi (inside Schema (Some j))) (inside_sound OpenApi (inside Schema (Some j)) (inside_sound Schema (Some j) h.0))), each_sound js h.1)

  pub versions_sound : (j : Json) → IsSoundJson j → HaveSoundDefaults (definition_read j).versions
  versions_sound j h =
      each_sound (version_items j) (items_sound (inside Versions (spec_in j)) (inside_sound Versions (spec_in j) (inside_sound Spec (Some j) h)))
