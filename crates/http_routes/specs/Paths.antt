-- Which paths there are (Kubernetes API Concepts, "Resource URIs"). A path is cut at its slashes, and its segments are decoded then,
-- so that an encoded slash stays inside its segment.
use Rattle.std.specs.Prelude.{◌≡◌, ◌≢◌, ◌==◌, ℕ, List, [], ◌∷◌, ◌++◌, map, codes, IsTrue}
use Rattle.std.specs.List.{slice_split}
use Rattle.percent_encoding.specs.Percent.{percent_decode}
use Rattle.kube_meta.specs.Key.{KeyView}
use Rattle.kube_meta.specs.Names.{is_name, is_namespace, dot}
use Rattle.api_calls.specs.Meaning.{Meaning}

-- what a path names; a version is told by its segment, whether or not the definition has one of that name
pub data Resource : Type 0 where
  group : Resource
  -- the objects of all namespaces at a version, those of one, and one of them
  everywhere : List ℕ → Resource
  collection : List ℕ → List ℕ → Resource
  object : List ℕ → KeyView → Resource
  -- the definition, and its status
  crd : Resource
  crd_status : Resource
  migrations : Resource
  migration : List ℕ → Resource
  -- the stored text of an object
  raw : KeyView → Resource

-- ---- the words of paths

unfoldable pub apis_word : List ℕ
apis_word = codes "apis"

unfoldable pub namespaces_word : List ℕ
namespaces_word = codes "namespaces"

unfoldable pub crd_group : List ℕ
crd_group = codes "apiextensions.k8s.io"

unfoldable pub crd_version : List ℕ
crd_version = codes "v1"

unfoldable pub crds_word : List ℕ
crds_word = codes "customresourcedefinitions"

unfoldable pub status_word : List ℕ
status_word = codes "status"

unfoldable pub migration_group : List ℕ
migration_group = codes "storagemigration.k8s.io"

unfoldable pub migration_version : List ℕ
migration_version = codes "v1alpha1"

unfoldable pub migrations_word : List ℕ
migrations_word = codes "storageversionmigrations"

unfoldable pub raw_word : List ℕ
raw_word = codes "raw"

-- PLURAL.GROUP
abbrev pub crd_name : Meaning → List ℕ
crd_name m = m.plural ++ (dot ∷ m.group)

-- ---- the table

abbrev pub path_of : Meaning → Resource → List (List ℕ)
path_of m group = [] ∷ apis_word ∷ m.group ∷ []
path_of m (everywhere v) = [] ∷ apis_word ∷ m.group ∷ v ∷ m.plural ∷ []
path_of m (collection v ns) = [] ∷ apis_word ∷ m.group ∷ v ∷ namespaces_word ∷ ns ∷ m.plural ∷ []
path_of m (object v key) = [] ∷ apis_word ∷ m.group ∷ v ∷ namespaces_word ∷ key.ns ∷ m.plural ∷ key.name ∷ []
path_of m crd = [] ∷ apis_word ∷ crd_group ∷ crd_version ∷ crds_word ∷ crd_name m ∷ []
path_of m crd_status = [] ∷ apis_word ∷ crd_group ∷ crd_version ∷ crds_word ∷ crd_name m ∷ status_word ∷ []
path_of m migrations = [] ∷ apis_word ∷ migration_group ∷ migration_version ∷ migrations_word ∷ []
path_of m (migration name) = [] ∷ apis_word ∷ migration_group ∷ migration_version ∷ migrations_word ∷ name ∷ []
path_of m (raw key) = [] ∷ raw_word ∷ key.ns ∷ key.name ∷ []

-- the key of an object keeps the rules of namespaces and names
pub record IsKey (key : KeyView) : Type 0 where
  pub ns : IsTrue (is_namespace key.ns)
  pub name : IsTrue (is_name key.name)

-- Namespaces and names keep their rules. One path may stand in two lines of the table, that of all namespaces' objects and
-- that of the migrations: the lower line alone counts.
abbrev pub IsResource : Meaning → Resource → Type 0
IsResource m group = Unit {0}
IsResource m (everywhere v) = path_of m (everywhere v) ≢ path_of m migrations
IsResource m (collection v ns) = IsTrue (is_namespace ns)
IsResource m (object v key) = IsKey key
IsResource m crd = Unit {0}
IsResource m crd_status = Unit {0}
IsResource m migrations = Unit {0}
IsResource m (migration name) = IsTrue (is_name name)
IsResource m (raw key) = IsKey key

-- `/`
abbrev pub slash : ℕ
slash = 47

-- the parts of a path between its slashes
abbrev pub pieces : List ℕ → List (List ℕ)
pieces path = slice_split (λ b. b == slash) path

-- each decoded
abbrev pub segments : List ℕ → List (List ℕ)
segments path = map percent_decode (pieces path)

-- these segments name a resource; they name none
abbrev pub Names : Meaning → List (List ℕ) → Resource → Type 0
Names m ss r = IsResource m r × (ss ≡ path_of m r)

abbrev pub NamesNothing : Meaning → List (List ℕ) → Type 0
NamesNothing m ss = (r : Resource) → IsResource m r → ss ≡ path_of m r → ⊥

-- ---- for private clauses

-- the first segments of the definition's path
abbrev pub IsCrd : List ℕ → List ℕ → List ℕ → List ℕ → Type 0
IsCrd first second third fourth = (first ≡ apis_word) × (second ≡ crd_group) × (third ≡ crd_version) × (fourth ≡ crds_word)

-- the segments of the migrations' path
abbrev pub IsMigrations : List ℕ → List ℕ → List ℕ → List ℕ → Type 0
IsMigrations first second third fourth =
    (first ≡ apis_word) × (second ≡ migration_group) × (third ≡ migration_version) × (fourth ≡ migrations_word)

-- the segments of a path of namespaced objects that are neither names nor a version
abbrev pub IsNamespaced : Meaning → List ℕ → List ℕ → List ℕ → List ℕ → Type 0
IsNamespaced m first second fourth last = (first ≡ apis_word) × (second ≡ m.group) × (fourth ≡ namespaces_word) × (last ≡ m.plural)
