-- Where the objects of a resource are (URL Standard; Kubernetes API Concepts, "Resource URIs").
use Rattle.std.specs.Prelude.{◌≡◌, ◌==◌, ⊤, ℕ, List, [], ◌∷◌, codes, IsTrue}
use Rattle.std.specs.List.{slice_split}
use Rattle.http_address.specs.Address.{IsAddress}
use Rattle.kube_meta.specs.Names.{is_name, is_namespace}
use Rattle.place.specs.declared.Place.{Place}
use Rattle.place.specs.declared.PlaceFault.{PlaceFault}
use Rattle.place.specs.declared.PlaceFault.TheVariants as fault

-- `/`
abbrev pub slash : ℕ
slash = 47

-- the parts of a path between its slashes
abbrev pub pieces : List ℕ → List (List ℕ)
pieces path = slice_split (λ b. b == slash) path

unfoldable pub apis_word : List ℕ
apis_word = codes "apis"

-- the names of a resource
pub record Names : Type 0 where
  pub group : List ℕ
  pub version : List ℕ
  pub plural : List ℕ

-- the path is `/apis/GROUP/VERSION/PLURAL`, whose group is a subdomain name, and whose version and plural are labels
pub record IsPathOf (path : List ℕ) (names : Names) : Type 0 where
  pub pieces : pieces path ≡ [] ∷ apis_word ∷ names.group ∷ names.version ∷ names.plural ∷ []
  pub group : IsTrue (is_name names.group)
  pub version : IsTrue (is_namespace names.version)
  pub plural : IsTrue (is_namespace names.plural)

-- the host as a URL writes it, an IPv6 address in its brackets
pub record PlaceView : Type 0 where
  pub host : List ℕ
  pub port : ℕ
  pub names : Names

-- the text is the address of a place: that of a server that speaks HTTP, with a path that has the names
pub record IsPlace (text : List ℕ) (p : PlaceView) : Type 0 where
  pub path : List ℕ
  pub address : IsAddress text (record { host = p.host; port = p.port; path = path })
  pub names : IsPathOf path p.names

abbrev pub place_of : Place → PlaceView
place_of p = record { host = p.host.bytes; port = p.port; names = record { group = p.group.bytes; version = p.version.bytes; plural = p.plural.bytes } }

-- where the fault is that the text is no place's address, P holds
abbrev pub OnBadPlace : Type 0 → PlaceFault → Type 0
OnBadPlace P fault.BadPlace = P
OnBadPlace P fault.NoMemory = ⊤
