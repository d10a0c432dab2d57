-- What each method asks of a resource, and the call of the server that it is.
use Rattle.std.specs.Prelude.{◌≡◌, ◌<◌, ℕ, List, Option, None, Some, MatchOption, IfSome, codes, if◌then◌else◌}
use Rattle.std.specs.Str.{bytes_eq}
use Rattle.kube_meta.specs.Key.{KeyView}
use Rattle.api_calls.specs.Calls as calls
use Rattle.api_calls.specs.Calls.{Call}
use Rattle.api_calls.specs.Meaning.{Meaning}
use Rattle.api_calls.specs.Pages.{Place}
use Rattle.http_routes.specs.Paths as path
use Rattle.http_routes.specs.Paths.{Resource}

-- a version is told by its name
pub data Action : Type 0 where
  get : List ℕ → KeyView → Action
  -- the objects at a version, of a namespace or of all
  list : List ℕ → Option (List ℕ) → Action
  create : List ℕ → List ℕ → Action
  replace : List ℕ → KeyView → Action
  delete : List ℕ → KeyView → Action
  group : Action
  crd : Action
  set_versions : Action
  trim : Action
  start : Action
  migration : List ℕ → Action
  migrations : Action
  raw : KeyView → Action

-- ---- the table

-- what the four methods ask; none is a method that the path doesn't have
pub record Row : Type 0 where
  pub get : Option Action
  pub post : Option Action
  pub put : Option Action
  pub delete : Option Action

-- by GET, POST, PUT and DELETE
abbrev pub row : Option Action → Option Action → Option Action → Option Action → Row
row g po pu d = record { get = g; post = po; put = pu; delete = d }

abbrev pub row_of : Resource → Row
row_of path.group = row (Some group) None None None
row_of (path.everywhere v) = row (Some (list v None)) None None None
row_of (path.collection v ns) = row (Some (list v (Some ns))) (Some (create v ns)) None None
row_of (path.object v key) = row (Some (get v key)) None (Some (replace v key)) (Some (delete v key))
row_of path.crd = row (Some crd) None (Some set_versions) None
row_of path.crd_status = row None None (Some trim) None
row_of path.migrations = row (Some migrations) (Some start) None None
row_of (path.migration name) = row (Some (migration name)) None None None
row_of (path.raw key) = row (Some (raw key)) None None None

-- methods compare in their own case of letters (RFC 9110, section 9.1)
unfoldable pub cell : Row → List ℕ → Option Action
cell r method =
    if bytes_eq method (codes "GET") then r.get
    else if bytes_eq method (codes "POST") then r.post
    else if bytes_eq method (codes "PUT") then r.put
    else if bytes_eq method (codes "DELETE") then r.delete
    else None

-- ---- versions

-- the name of the version at which something is asked
abbrev pub version_in : Action → Option (List ℕ)
version_in (get v key) = Some v
version_in (list v ns) = Some v
version_in (create v ns) = Some v
version_in (replace v key) = Some v
version_in (delete v key) = Some v
version_in group = None
version_in crd = None
version_in set_versions = None
version_in trim = None
version_in start = None
version_in (migration name) = None
version_in migrations = None
version_in (raw key) = None

-- the definition has the version of the name at this place
abbrev pub IsVersion : Meaning → List ℕ → ℕ → Type 0
IsVersion m name v = (v < m.count) × (m.name v ≡ name)

-- it has none of the name
abbrev pub IsUnknown : Meaning → List ℕ → Type 0
IsUnknown m name = (v : ℕ) → v < m.count → m.name v ≡ name → ⊥

-- what is asked is asked at the version of this place, or at none
abbrev pub AsksAt : Meaning → Action → ℕ → Type 0
AsksAt m a v = IfSome (version_in a) (λ name. IsVersion m name v)

-- it is asked at a version that the definition doesn't have
abbrev pub AsksNowhere : Meaning → Action → Type 0
AsksNowhere m a = MatchOption (version_in a) ⊥ (λ name. IsUnknown m name)

-- ---- the call

-- what the query says of a list: how many objects at most, where 0 is no limit, and where the list goes on
pub record Paging : Type 0 where
  pub limit : ℕ
  pub from : Option Place

-- the whole of it
abbrev pub unpaged : Paging
unpaged = record { limit = 0; from = None }

-- at the version of a place, where one is asked for, with the request's body
abbrev pub call_of : Action → ℕ → List ℕ → Paging → Call
call_of (get name key) v body p = calls.get v key
call_of (list name ns) v body p = calls.list v ns p.limit p.from
call_of (create name ns) v body p = calls.create (record { version = v; ns = ns; name = None; bytes = body })
call_of (replace name key) v body p = calls.replace (record { version = v; ns = key.ns; name = Some key.name; bytes = body }) key
call_of (delete name key) v body p = calls.delete v key body
call_of group v body p = calls.group
call_of crd v body p = calls.crd
call_of set_versions v body p = calls.set_versions body
call_of trim v body p = calls.trim body
call_of start v body p = calls.start body
call_of (migration name) v body p = calls.migration name
call_of migrations v body p = calls.migrations
call_of (raw key) v body p = calls.raw key
