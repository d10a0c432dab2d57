-- A hub or a spoke that is no version stands for nothing. So it is refused in its place, before what stands inside it, as a
-- null there is: no reading of rules takes a null for a hub or for a spoke.
use Rattle.std.specs.Prelude.{ℕ, List, cond, map}
use Rattle.std.specs.Str.{bytes_eq}
use Rattle.kj_value.specs.Json.{Json, null, boolean, whole, text, list, object, Members, no_members, member}
use Rattle.crd_reading.specs.View.{VersionView}
use Rattle.crd_reading.specs.Offered.{has_version}
use Rattle.crd_loading.specs.Words.{hub_name, spokes_name}

-- each value of an object, by its name
abbrev pub each_field : (List ℕ → Json → Json) → Members → Members
each_field g no_members = no_members
each_field g (member k j ms) = member k (g k j) (each_field g ms)

abbrev pub known_spoke : List VersionView → List ℕ → Json → Json
known_spoke vs k j = cond (has_version k vs) j null

abbrev pub known_spokes : List VersionView → Json → Json
known_spokes vs null = null
known_spokes vs (boolean b) = boolean b
known_spokes vs (whole z) = whole z
known_spokes vs (text t) = text t
known_spokes vs (list js) = list js
known_spokes vs (object ms) = object (each_field (known_spoke vs) ms)

abbrev pub known_hub : List VersionView → Json → Json
known_hub vs null = null
known_hub vs (boolean b) = boolean b
known_hub vs (whole z) = whole z
known_hub vs (text t) = cond (has_version t vs) (text t) null
known_hub vs (list js) = list js
known_hub vs (object ms) = object ms

abbrev pub known_field : List VersionView → List ℕ → Json → Json
known_field vs k j =
    cond (bytes_eq k hub_name) (known_hub vs j) (cond (bytes_eq k spokes_name) (known_spokes vs j) j)

-- the document with a null for each hub and spoke that is no version
abbrev pub known_rules : List VersionView → Json → Json
known_rules vs null = null
known_rules vs (boolean b) = boolean b
known_rules vs (whole z) = whole z
known_rules vs (text t) = text t
known_rules vs (list js) = list js
known_rules vs (object ms) = object (each_field (known_field vs) ms)

-- ---- for private clauses: the same of fields as a list

abbrev pub mapped : (List ℕ → Json → Json) → List (List ℕ × Json) → List (List ℕ × Json)
mapped g es = map (λ e. (e.0, g e.0 e.1)) es
