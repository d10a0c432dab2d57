-- What the crate's values are seen as.
use Rattle.std.specs.Prelude.{◌≡◌, ◌≤◌, ℕ, List, Option, None, Some, length}
use Rattle.std.specs.Borrow.{Bor}
use Rattle.std.specs.Cow.{cow_str_bytes}
use Rattle.std.specs.declared.borrow.CowStr.{CowStr}
use Rattle.kj_value.specs.Txt.{Bytes}
use Rattle.kube_meta.specs.Key.{KeyView}
use Rattle.kube_meta.specs.declared.key.TheConstants.{NAMESPACE_BYTES, NAME_BYTES}
use Rattle.api_calls.specs.Calls as calls
use Rattle.api_calls.specs.Cause.{why_of}
use Rattle.api_calls.specs.Meaning.{Meaning}
use Rattle.api_calls.specs.Pages.{Place}
use Rattle.api_calls.specs.declared.token.Token.{Token}
use Rattle.http_routes.specs.Paths as path
use Rattle.http_routes.specs.Actions as action
use Rattle.http_routes.specs.Queries as query
use Rattle.http_routes.specs.Routes as route
use Rattle.http_routes.specs.declared.finding.Found.{Found}
use Rattle.http_routes.specs.declared.finding.Found.TheVariants as finds
use Rattle.http_routes.specs.declared.resource.Resource.{Resource}
use Rattle.http_routes.specs.declared.resource.Resource.TheVariants as resources
use Rattle.http_routes.specs.declared.action.Action.{Action}
use Rattle.http_routes.specs.declared.action.Action.TheVariants as actions
use Rattle.http_routes.specs.declared.action.Row.{Row}
use Rattle.http_routes.specs.declared.query.Paging.{Paging}
use Rattle.http_routes.specs.declared.query.Queried.{Queried}
use Rattle.http_routes.specs.declared.query.Queried.TheVariants as queries
use Rattle.http_routes.specs.declared.calls.Call.{Call}
use Rattle.http_routes.specs.declared.calls.Call.TheVariants as made
use Rattle.http_routes.specs.declared.calls.Route.{Route}
use Rattle.http_routes.specs.declared.calls.Route.TheVariants as routes

abbrev pub key_view : List ℕ → List ℕ → KeyView
key_view ns name = record { ns = ns; name = name }

abbrev pub resource_of : Resource → path.Resource
resource_of resources.Group = path.group
resource_of (resources.Everywhere v) = path.everywhere v.now
resource_of (resources.Collection v ns) = path.collection v.now ns.now
resource_of (resources.Object v ns name) = path.object v.now (key_view ns.now name.now)
resource_of resources.Crd = path.crd
resource_of resources.CrdStatus = path.crd_status
resource_of resources.Migrations = path.migrations
resource_of (resources.Migration name) = path.migration name.now
resource_of (resources.Raw ns name) = path.raw (key_view ns.now name.now)

-- a text lent, where there is one
abbrev pub lent : Option (Bor (List ℕ)) → Option (List ℕ)
lent None = None
lent (Some s) = Some s.now

abbrev pub action_of : Action → action.Action
action_of (actions.Get v ns name) = action.get v.now (key_view ns.now name.now)
action_of (actions.List v ns) = action.list v.now (lent ns)
action_of (actions.Create v ns) = action.create v.now ns.now
action_of (actions.Replace v ns name) = action.replace v.now (key_view ns.now name.now)
action_of (actions.Delete v ns name) = action.delete v.now (key_view ns.now name.now)
action_of actions.Group = action.group
action_of actions.Crd = action.crd
action_of actions.SetVersions = action.set_versions
action_of actions.Trim = action.trim
action_of actions.Start = action.start
action_of (actions.Migration name) = action.migration name.now
action_of actions.Migrations = action.migrations
action_of (actions.Raw ns name) = action.raw (key_view ns.now name.now)

abbrev pub action_in : Option Action → Option action.Action
action_in None = None
action_in (Some a) = Some (action_of a)

abbrev pub row_view : Row → action.Row
row_view r = record { get = action_in r.get; post = action_in r.post; put = action_in r.put; delete = action_in r.delete }

-- ---- names that are as short as those of keys

abbrev pub FitsKey : List ℕ → List ℕ → Type 0
FitsKey ns name = (length ns ≤ NAMESPACE_BYTES) × (length name ≤ NAME_BYTES)

abbrev pub FitsResource : Resource → Type 0
FitsResource resources.Group = Unit {0}
FitsResource (resources.Everywhere v) = Unit {0}
FitsResource (resources.Collection v ns) = Unit {0}
FitsResource (resources.Object v ns name) = FitsKey ns.now name.now
FitsResource resources.Crd = Unit {0}
FitsResource resources.CrdStatus = Unit {0}
FitsResource resources.Migrations = Unit {0}
FitsResource (resources.Migration name) = Unit {0}
FitsResource (resources.Raw ns name) = FitsKey ns.now name.now

abbrev pub FitsAction : Action → Type 0
FitsAction (actions.Get v ns name) = FitsKey ns.now name.now
FitsAction (actions.List v ns) = Unit {0}
FitsAction (actions.Create v ns) = Unit {0}
FitsAction (actions.Replace v ns name) = FitsKey ns.now name.now
FitsAction (actions.Delete v ns name) = FitsKey ns.now name.now
FitsAction actions.Group = Unit {0}
FitsAction actions.Crd = Unit {0}
FitsAction actions.SetVersions = Unit {0}
FitsAction actions.Trim = Unit {0}
FitsAction actions.Start = Unit {0}
FitsAction (actions.Migration name) = Unit {0}
FitsAction actions.Migrations = Unit {0}
FitsAction (actions.Raw ns name) = FitsKey ns.now name.now

abbrev pub FitsAny : Option Action → Type 0
FitsAny None = Unit {0}
FitsAny (Some a) = FitsAction a

pub record FitsRow (r : Row) : Type 0 where
  pub get : FitsAny r.get
  pub post : FitsAny r.post
  pub put : FitsAny r.put
  pub delete : FitsAny r.delete

-- ---- queries

abbrev pub place_of : Option Token → Option Place
place_of None = None
place_of (Some t) = Some (record { number = t.rv; key = t.key })

abbrev pub paging_of : Paging → action.Paging
paging_of p = record { limit = p.limit; from = place_of p.from }

abbrev pub verdict_of : Queried → query.Verdict
verdict_of (queries.Paged p) = query.paged (paging_of p)
verdict_of (queries.Bad why) = query.bad (why_of why)

-- ---- calls

abbrev pub bytes_in : Option Bytes → Option (List ℕ)
bytes_in None = None
bytes_in (Some t) = Some t.bytes

abbrev pub call_view : Call → calls.Call
call_view (made.Get v key) = calls.get v key
call_view (made.List v ns limit from) = calls.list v (bytes_in ns) limit (place_of from)
call_view (made.Create v ns body) = calls.create (record { version = v; ns = ns.bytes; name = None; bytes = body.now })
call_view (made.Replace v key body) = calls.replace (record { version = v; ns = key.ns; name = Some key.name; bytes = body.now }) key
call_view (made.Delete v key body) = calls.delete v key body.now
call_view made.Group = calls.group
call_view made.Crd = calls.crd
call_view (made.SetVersions body) = calls.set_versions body.now
call_view (made.Trim body) = calls.trim body.now
call_view (made.Start body) = calls.start body.now
call_view (made.Migration name) = calls.migration name.bytes
call_view made.Migrations = calls.migrations
call_view (made.Raw key) = calls.raw key

abbrev pub route_of : Route → route.Route
route_of (routes.Calls c) = route.calls (call_view c)
route_of routes.NoResource = route.no_resource
route_of routes.MethodNotAllowed = route.method_not_allowed
route_of (routes.BadRequest why) = route.bad_request (why_of why)

-- ---- for private clauses

-- bytes lent, where there are any
abbrev pub bytes_lent : Option (Bor (List ℕ)) → Option (List ℕ)
bytes_lent None = None
bytes_lent (Some b) = Some b.now

-- bytes lent
abbrev pub now_of : Bor (List ℕ) → List ℕ
now_of b = b.now

-- what was found for these segments before this query
abbrev pub Finds : Meaning → List (List ℕ) → List ℕ → Found → Type 0
Finds m ss query (finds.Named r q) = path.Names m ss (resource_of r) × FitsResource r × (query ≡ q.now)
Finds m ss query finds.Nothing = path.NamesNothing m ss
Finds m ss query finds.Escaped = Unit {0}

abbrev pub pair_texts : {Z : Type 0} → CowStr Z × CowStr Z → List ℕ × List ℕ
pair_texts p = (cow_str_bytes p.0, cow_str_bytes p.1)
