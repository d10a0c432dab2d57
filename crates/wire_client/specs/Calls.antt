-- What a client asks for at a place, as the bytes of a request (Kubernetes API Concepts: "Resource URIs", "Retrieving large results sets in chunks").
use Rattle.std.specs.Prelude.{ℕ, List, [], ◌∷◌, ◌++◌, codes, decimal}
use Rattle.percent_encoding.specs.Percent.{percent_encode}
use Rattle.percent_encoding.specs.declared.ascii_set.TheConstants.{NON_ALPHANUMERIC}
use Rattle.kj_value.specs.Json.{Json}
use Rattle.kj_value.specs.Text.{text_of}
use Rattle.kube_meta.specs.Key.{KeyView}
use Rattle.http_wire.specs.Requesting.{asks_for}
use Rattle.place.specs.Place.{Names}

pub data Call : Type 0 where
  -- a page of at most so many objects of all namespaces, behind a token; the empty token is that of the first page
  lists : ℕ → List ℕ → Call
  gets : KeyView → Call
  -- in place of the object of that key
  puts : KeyView → Json → Call
  -- as a new object of that namespace
  posts : List ℕ → Json → Call

-- ---- targets

-- where the resources of a version begin
unfoldable pub version_path : Names → List ℕ
version_path n = (codes "/apis/" ++ n.group) ++ (codes "/" ++ n.version)

-- the objects of all namespaces
abbrev pub everywhere : Names → List ℕ
everywhere n = version_path n ++ (codes "/" ++ n.plural)

-- those of one namespace
abbrev pub in_namespace : Names → List ℕ → List ℕ
in_namespace n ns = (version_path n ++ (codes "/namespaces/" ++ ns)) ++ (codes "/" ++ n.plural)

-- one of them
abbrev pub at_key : Names → KeyView → List ℕ
at_key n key = in_namespace n key.ns ++ (codes "/" ++ key.name)

unfoldable pub limit_query : ℕ → List ℕ
limit_query limit = codes "?limit=" ++ decimal limit

-- every byte of the token but letters and digits is escaped, so that nothing of it ends the value of the query
unfoldable pub token_query : List ℕ → List ℕ
token_query [] = []
token_query (b ∷ bs) = codes "&continue=" ++ percent_encode NON_ALPHANUMERIC (b ∷ bs)

abbrev pub target_of : Names → Call → List ℕ
target_of n (lists limit token) = (everywhere n ++ limit_query limit) ++ token_query token
target_of n (gets key) = at_key n key
target_of n (puts key body) = at_key n key
target_of n (posts ns body) = in_namespace n ns

-- ---- requests

abbrev pub method_of : Call → List ℕ
method_of (lists limit token) = codes "GET"
method_of (gets key) = codes "GET"
method_of (puts key body) = codes "PUT"
method_of (posts ns body) = codes "POST"

-- the compact text
abbrev pub body_of : Call → List ℕ
body_of (lists limit token) = []
body_of (gets key) = []
body_of (puts key body) = text_of body
body_of (posts ns body) = text_of body

abbrev pub request_of : Names → Call → List ℕ
request_of n call = asks_for (method_of call) (target_of n call) (body_of call)
