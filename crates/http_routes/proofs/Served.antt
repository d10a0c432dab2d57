-- What a request comes to whose path is right.
use Rattle.std.proofs.Common.{◌≡◌, ℕ, List, Some, Result, Ok, Err, inr}
use Rattle.std.specs.Prelude.{IfOk}
use Rattle.api_calls.specs.Meaning.{Meaning}
use Rattle.http_routes.specs.Paths.{Resource, Names, segments}
use Rattle.http_routes.specs.Actions.{Action, row_of, cell}
use Rattle.http_routes.specs.Queries.{Pairs, pairs_of}
use Rattle.http_routes.specs.Routes.{Route, calls, no_resource, method_not_allowed, bad_request, Routes, IsAsked, IsServed, path_in, query_in}

is_served : (m : Meaning) (r : Resource) (a : Action) (method : List ℕ) (ps : Pairs) (body : List ℕ) (v : Route)
    → cell (row_of r) method ≡ Some a → IsAsked m a ps body v → IsServed m r method ps body v
is_served m r a method ps body (calls c) is h = (a, is, h)
is_served m r a method ps body no_resource is h = (a, is, h)
is_served m r a method ps body method_not_allowed is h = absurd h
is_served m r a method ps body (bad_request why) is h = (a, is, h)

pub served_asked : {Q E : Type 0} (view : Q → Route) (m : Meaning) (r : Resource) (a : Action) (method : List ℕ) (ps : Pairs) (body : List ℕ) (x : Result Q E)
    → cell (row_of r) method ≡ Some a → IfOk x (λ q. IsAsked m a ps body (view q)) → IfOk x (λ q. IsServed m r method ps body (view q))
served_asked view m r a method ps body (Ok q) is h = is_served m r a method ps body (view q) is h
served_asked view m r a method ps body (Err e) is h = h

routed : (m : Meaning) (method target body : List ℕ) (r : Resource) (v : Route) → Names m (segments (path_in target)) r
    → IsServed m r method (pairs_of (query_in target)) body v → Routes m method target body v
routed m method target body r (calls c) named h =
    (r, h.0, h.2.0, h.2.1, record { asks = record { named = named; asked = h.1 }; query = h.2.2 }, h.2.3, h.2.4)
routed m method target body r no_resource named h =
    inr (r, h.0, h.2.0, record { asks = record { named = named; asked = h.1 }; query = h.2.1 }, h.2.2)
routed m method target body r method_not_allowed named h = (r, named, h)
routed m method target body r (bad_request why) named h = (r, h.0, record { named = named; asked = h.1 }, h.2)

pub routes_served : {Q E : Type 0} (view : Q → Route) (m : Meaning) (method target body : List ℕ) (r : Resource) (x : Result Q E)
    → Names m (segments (path_in target)) r → IfOk x (λ q. IsServed m r method (pairs_of (query_in target)) body (view q))
    → IfOk x (λ q. Routes m method target body (view q))
routes_served view m method target body r (Ok q) named h = routed m method target body r (view q) named h
routes_served view m method target body r (Err e) named h = h
