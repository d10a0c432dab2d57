-- Addresses of servers that speak HTTP, as a user gives them (URL Standard).
use Rattle.std.specs.Prelude.{◌≡◌, ⊤, ℕ, List, [], Option, None, Some, Ok, codes, option_map}
use Rattle.url.specs.Parser.{parse_url}
use Rattle.url.specs.Parts.{Parts, nonempty_host}
use Rattle.url.specs.Host.{host_text}
use Rattle.http_address.specs.declared.Address.{Address}
use Rattle.http_address.specs.declared.finding.Found.{Found}
use Rattle.http_address.specs.declared.AddressFault.{AddressFault}
use Rattle.http_address.specs.declared.AddressFault.TheVariants as fault

-- a URL of the scheme `http`, without a user, a query or a fragment; an empty query or fragment is one
pub record IsPlain (url : Parts) : Type 0 where
  pub scheme : url.scheme ≡ codes "http"
  pub username : url.username ≡ []
  pub password : url.password ≡ []
  pub query : url.query ≡ None
  pub fragment : url.fragment ≡ None

-- the port of HTTP
abbrev pub http_port : ℕ
http_port = 80

-- the port that a URL of HTTP names
abbrev pub port_of : Option ℕ → ℕ
port_of None = http_port
port_of (Some port) = port

-- the host as a URL writes it, an IPv6 address in its brackets; and the path, which begins with a slash
pub record AddressView : Type 0 where
  pub host : List ℕ
  pub port : ℕ
  pub path : List ℕ

-- the URL tells this host, port and path
pub record Tells (url : Parts) (a : AddressView) : Type 0 where
  pub host : option_map host_text (nonempty_host url) ≡ Some a.host
  pub port : a.port ≡ port_of url.port
  pub path : a.path ≡ url.path

-- the text is that address
pub record IsAddress (text : List ℕ) (a : AddressView) : Type 0 where
  pub url : Parts
  pub parses : parse_url None text ≡ Ok url
  pub plain : IsPlain url
  pub tells : Tells url a

abbrev pub address_of : Address → AddressView
address_of a = record { host = a.host.bytes; port = a.port; path = a.path.bytes }

-- where the fault is that the text is no address, P holds
abbrev pub OnBadAddress : Type 0 → AddressFault → Type 0
OnBadAddress P fault.BadAddress = P
OnBadAddress P fault.NoMemory = ⊤

-- for private clauses: the address whose parts are lent
abbrev pub found_view : Found → AddressView
found_view f = record { host = f.host.now; port = f.port; path = f.path.now }
