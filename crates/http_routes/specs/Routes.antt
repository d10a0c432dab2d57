-- What a request asks for: a call, or why there is none. First the path, then the method, then the query, then the version.
use Rattle.std.specs.Prelude.{◌≡◌, ◌⊎◌, ◌==◌, ℕ, Bool, false, ◌||◌, List, None, Some}
use Rattle.std.specs.List.{before_first, after_first}
use Rattle.percent_encoding.specs.Percent.{percent_sign}
use Rattle.api_calls.specs.Meaning.{Meaning}
use Rattle.api_calls.specs.Calls.{Call}
use Rattle.api_calls.specs.Cause.{WhyView}
use Rattle.http_routes.specs.Paths.{Resource, Names, NamesNothing, segments, slash}
use Rattle.http_routes.specs.Actions.{Action, Paging, AsksAt, AsksNowhere, row_of, cell, call_of}
use Rattle.http_routes.specs.Queries.{Pairs, ReadsQuery, pairs_of, paged, bad}

pub data Route : Type 0 where
  calls : Call → Route
  -- nothing has the path, or the definition doesn't have the version
  no_resource : Route
  -- what the path names doesn't have the method
  method_not_allowed : Route
  bad_request : WhyView → Route

-- a target is a path and, behind the first question mark, a query (RFC 9112, section 3.2.1)
abbrev pub question_mark : ℕ
question_mark = 63

abbrev pub path_in : List ℕ → List ℕ
path_in target = before_first (λ b. b == question_mark) target

abbrev pub query_in : List ℕ → List ℕ
query_in target = after_first (λ b. b == question_mark) target

-- the path names this resource, and the method asks this of it
pub record AsksOf (m : Meaning) (method target : List ℕ) (r : Resource) (a : Action) : Type 0 where
  pub named : Names m (segments (path_in target)) r
  pub asked : cell (row_of r) method ≡ Some a

-- it asks this with a query that is served
pub record AsksFor (m : Meaning) (method target : List ℕ) (r : Resource) (a : Action) (p : Paging) : Type 0 where
  pub asks : AsksOf m method target r a
  pub query : ReadsQuery a (pairs_of (query_in target)) (paged p)

abbrev pub Routes : Meaning → List ℕ → List ℕ → List ℕ → Route → Type 0
Routes m method target body (calls c) = (r : Resource) × (a : Action) × (p : Paging) × (v : ℕ) × AsksFor m method target r a p
    × AsksAt m a v × (c ≡ call_of a v body p)
Routes m method target body no_resource = NamesNothing m (segments (path_in target))
    ⊎ ((r : Resource) × (a : Action) × (p : Paging) × AsksFor m method target r a p × AsksNowhere m a)
Routes m method target body method_not_allowed = (r : Resource) × Names m (segments (path_in target)) r × (cell (row_of r) method ≡ None)
Routes m method target body (bad_request why) = (r : Resource) × (a : Action) × AsksOf m method target r a
    × ReadsQuery a (pairs_of (query_in target)) (bad why)

-- ---- for private clauses

-- a byte behind a segment, or one that may begin an escape
abbrev pub is_stop : ℕ → Bool
is_stop b = b == percent_sign || (b == slash || b == question_mark)

abbrev pub IsPlain : ℕ → Type 0
IsPlain b = is_stop b ≡ false

-- what a request comes to whose path and method are right
abbrev pub IsAsked : Meaning → Action → Pairs → List ℕ → Route → Type 0
IsAsked m a ps body (calls c) = (p : Paging) × (v : ℕ) × ReadsQuery a ps (paged p) × AsksAt m a v × (c ≡ call_of a v body p)
IsAsked m a ps body no_resource = (p : Paging) × ReadsQuery a ps (paged p) × AsksNowhere m a
IsAsked m a ps body method_not_allowed = ⊥
IsAsked m a ps body (bad_request why) = ReadsQuery a ps (bad why)

-- what a request comes to whose path is right
abbrev pub IsServed : Meaning → Resource → List ℕ → Pairs → List ℕ → Route → Type 0
IsServed m r method ps body (calls c) = (a : Action) × (cell (row_of r) method ≡ Some a) × IsAsked m a ps body (calls c)
IsServed m r method ps body no_resource = (a : Action) × (cell (row_of r) method ≡ Some a) × IsAsked m a ps body no_resource
IsServed m r method ps body method_not_allowed = cell (row_of r) method ≡ None
IsServed m r method ps body (bad_request why) = (a : Action) × (cell (row_of r) method ≡ Some a) × IsAsked m a ps body (bad_request why)
