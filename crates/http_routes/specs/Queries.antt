-- What a query says (Kubernetes API Concepts; the query is a form, URL Standard, section 5). Of a key that is repeated the first counts.
use Rattle.std.specs.Prelude.{◌≡◌, ◌≢◌, ◌⊎◌, ℕ, Bool, ◌||◌, ◌&&◌, List, [], ◌∷◌, ◌++◌, map, length, nat_le, Option, None, Some, codes, IsTrue, if◌then◌else◌}
use Rattle.std.specs.List.{list_all}
use Rattle.std.specs.Str.{bytes_eq}
use Rattle.std.specs.Str.Lossy.{utf8_lossy}
use Rattle.std.specs.Str.Parse.{digits_value}
use Rattle.std.specs.Char.{is_ascii_digit}
use Rattle.form_urlencoded.specs.Form.{raw_pairs, decode}
use Rattle.kube_meta.specs.Key.{KeyView}
use Rattle.kube_meta.specs.Page.{in_namespace}
use Rattle.api_calls.specs.Cause.{WhyView, bad_query, bad_token}
use Rattle.api_calls.specs.Pages.{Place}
use Rattle.api_calls.specs.Token.{IsToken, token_text}
use Rattle.http_routes.specs.declared.query.TheConstants.{MOST_LIMIT_DIGITS}
use Rattle.http_routes.specs.Actions as action
use Rattle.http_routes.specs.Actions.{Action, Paging, unpaged}

-- keys with their values, as texts
abbrev pub Pairs : Type 0
Pairs = List (List ℕ × List ℕ)

abbrev pub texts_of : List ℕ × List ℕ → List ℕ × List ℕ
texts_of p = (utf8_lossy (decode p.0), utf8_lossy (decode p.1))

unfoldable pub pairs_of : List ℕ → Pairs
pairs_of query = map texts_of (raw_pairs query)

-- the first value of a key; a key that isn't there is as one that is empty
unfoldable pub value_of : List ℕ → Pairs → List ℕ
value_of key [] = []
value_of key (p ∷ ps) = if bytes_eq p.0 key then p.1 else value_of key ps

-- ---- the table of keys

-- what isn't served is asked for by a value that isn't empty, `false` or `0`
abbrev pub is_off : List ℕ → Bool
is_off v = bytes_eq v [] || (bytes_eq v (codes "false") || bytes_eq v (codes "0"))

-- any resource version
abbrev pub is_any_version : List ℕ → Bool
is_any_version v = bytes_eq v [] || bytes_eq v (codes "0")

-- empty, or not too many digits
abbrev pub is_limit : List ℕ → Bool
is_limit v = nat_le (length v) MOST_LIMIT_DIGITS && list_all is_ascii_digit v

-- a key, and the values of it that are served
pub record Rule : Type 0 where
  pub key : List ℕ
  pub serves : List ℕ → Bool

-- in the order in which they are tried
abbrev pub common_rules : List Rule
common_rules =
    record { key = codes "watch"; serves = is_off }
    ∷ record { key = codes "labelSelector"; serves = is_off }
    ∷ record { key = codes "fieldSelector"; serves = is_off }
    ∷ record { key = codes "dryRun"; serves = is_off }
    ∷ record { key = codes "resourceVersionMatch"; serves = is_off }
    ∷ record { key = codes "resourceVersion"; serves = is_any_version }
    ∷ []

abbrev pub limit_rule : Rule
limit_rule = record { key = codes "limit"; serves = is_limit }

abbrev pub limit_rules : List Rule
limit_rules = limit_rule ∷ []

-- of a list of objects
abbrev pub list_rules : List Rule
list_rules = common_rules ++ limit_rules

-- the first key whose value isn't served
unfoldable pub first_refused : List Rule → Pairs → Option (List ℕ)
first_refused [] ps = None
first_refused (r ∷ rs) ps = if r.serves (value_of r.key ps) then first_refused rs ps else Some r.key

-- ---- where a list goes on

-- a token has the text, and its key is in the list's namespace
pub record IsTokenOf (ns : Option (List ℕ)) (text : List ℕ) (number : ℕ) (key : KeyView) : Type 0 where
  pub token : IsToken number key
  pub spelled : token_text number key ≡ text
  pub within : IsTrue (in_namespace ns key)

-- of no text at the first object
abbrev pub GoesOn : Option (List ℕ) → List ℕ → Option Place → Type 0
GoesOn ns text None = text ≡ []
GoesOn ns text (Some place) = (text ≢ []) × IsTokenOf ns text place.number place.key

abbrev pub HasNoToken : Option (List ℕ) → List ℕ → Type 0
HasNoToken ns text = (text ≢ []) × ((number : ℕ) (key : KeyView) → IsTokenOf ns text number key → ⊥)

-- ---- what a query comes to

-- how a list is paged, or why the request is a bad one
pub data Verdict : Type 0 where
  paged : Paging → Verdict
  bad : WhyView → Verdict

abbrev pub ListReads : Option (List ℕ) → Pairs → Verdict → Type 0
ListReads ns ps (paged p) = (first_refused list_rules ps ≡ None) × (p.limit ≡ digits_value 10 (value_of (codes "limit") ps))
    × GoesOn ns (value_of (codes "continue") ps) p.from
ListReads ns ps (bad why) = ((key : List ℕ) × (first_refused list_rules ps ≡ Some key) × (why ≡ bad_query key))
    ⊎ ((first_refused list_rules ps ≡ None) × HasNoToken ns (value_of (codes "continue") ps) × (why ≡ bad_token))

abbrev pub OtherReads : Pairs → Verdict → Type 0
OtherReads ps (paged p) = (first_refused common_rules ps ≡ None) × (p ≡ unpaged)
OtherReads ps (bad why) = (key : List ℕ) × (first_refused common_rules ps ≡ Some key) × (why ≡ bad_query key)

-- any other key is passed over
abbrev pub ReadsQuery : Action → Pairs → Verdict → Type 0
ReadsQuery (action.list v ns) = ListReads ns
ReadsQuery (action.get v key) = OtherReads
ReadsQuery (action.create v ns) = OtherReads
ReadsQuery (action.replace v key) = OtherReads
ReadsQuery (action.delete v key) = OtherReads
ReadsQuery action.group = OtherReads
ReadsQuery action.crd = OtherReads
ReadsQuery action.set_versions = OtherReads
ReadsQuery action.trim = OtherReads
ReadsQuery action.start = OtherReads
ReadsQuery (action.migration name) = OtherReads
ReadsQuery action.migrations = OtherReads
ReadsQuery (action.raw key) = OtherReads
