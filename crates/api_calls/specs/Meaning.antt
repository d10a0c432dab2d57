-- What a definition means: the relations that the code of a definition promises.
use Rattle.std.specs.Prelude.{◌≡◌, ℕ, ℤ, pos, ◌+◌, ◌-◌, ◌/◌, ◌^◌, ◌<◌, ◌≤◌, Bool, List, length, Option, None, Some, replicate}
use Rattle.kube_meta.specs.View.{ObjectView}
use Rattle.kube_meta.specs.Document.{document}
use Rattle.kj_value.specs.Text.{text_of}
use Rattle.api_calls.specs.declared.flags.Flags.{Flags}
use Rattle.api_calls.specs.Cause.{CauseView, WhyView}

-- a request to store an object: the version, the path's namespace, its name where the request replaces, and the body
pub record Request : Type 0 where
  pub version : ℕ
  pub ns : List ℕ
  pub name : Option (List ℕ)
  pub bytes : List ℕ

-- why a request has no hub value; an invalid one has the name that the body gives
pub data Fault : Type 0 where
  bad_request : WhyView → Fault
  invalid : List ℕ → CauseView → Fault

pub record Meaning : Type 1 where
  -- what values mean is known
  pub honest : Bool
  -- how many versions there are, which of them is the hub, and the flags at first
  pub count : ℕ
  pub hub : ℕ
  pub opening : Flags
  -- the names of the versions, of the resource, its group and its kinds
  pub name : ℕ → List ℕ
  pub plural : List ℕ
  pub group : List ℕ
  pub kind : List ℕ
  pub list_kind : List ℕ
  -- a whole hub value
  pub whole : ObjectView → Type 0
  -- the object at a version that pairs with a hub value
  pub pair : ℕ → ObjectView → ObjectView → Type 0
  -- the hub value of a request, with the number that the request gives; or why there is none
  pub admits : Request → ObjectView → Option ℕ → Type 0
  pub refuses : Request → Fault → Type 0
  -- the flags of a body that sets them, or why there are none
  pub sets : List ℕ → Flags → Type 0
  pub refuses_flags : List ℕ → Fault → Type 0
  -- the versions that a body keeps in the stored list, or why there are none
  pub keeps : List ℕ → List ℕ → Type 0
  pub refuses_keep : List ℕ → Fault → Type 0
  -- the text of the CustomResourceDefinition with these flags and stored versions, and the most bytes that it has
  pub shown : Flags → List ℕ → List ℕ
  pub show_room : ℕ

-- ---- stored text and weight

-- an object without its number and its uid
abbrev pub unnumbered : ObjectView → ObjectView
unnumbered x = record x { meta = record x.meta { resource_version = None; uid = None } }

-- the text in which an object is stored
abbrev pub stored_text : ObjectView → List ℕ
stored_text x = text_of (document (unnumbered x))

-- an object with other stamps and another generation
abbrev pub stamped : ObjectView → Option (List ℕ) → Option (List ℕ) → ℤ → ObjectView
stamped x created deleted generation =
    record x { meta = record x.meta { created = created; deleted = deleted; generation = generation } }

-- 20 digits, which are as many bytes as a stamp has
abbrev pub longest_stamp : List ℕ
longest_stamp = replicate 20 48

-- an object with the stamps and the generation of most bytes
abbrev pub widest : ObjectView → ObjectView
widest x = stamped x (Some longest_stamp) (Some longest_stamp) (pos (2 ^ 63 - 1))

-- chunks of 256 bytes
abbrev pub chunks : ℕ → ℕ
chunks bytes = (bytes + 255) / 256

-- what an object takes at most, whatever its stamps and its generation will be
abbrev pub measure : ObjectView → ℕ
measure x = length (stored_text (widest x))

-- the greatest number of chunks that the measure takes at any version
pub record Weighs (m : Meaning) (h : ObjectView) (w : ℕ) : Type 0 where
  pub within : (v : ℕ) (x : ObjectView) → v < m.count → m.pair v h x → chunks (measure x) ≤ w
  pub met : (v : ℕ) × (x : ObjectView) × (v < m.count) × m.pair v h x × (chunks (measure x) ≡ w)
