-- Places by the addresses of their servers.
use Rattle.std.proofs.Common.{◌≡◌, ℕ, List, Option, None, Result, Ok, sym, ◌∙◌, subst}
use Rattle.url.specs.Parser.{parse_url}
use Rattle.url.specs.Parts.{Parts}
use Rattle.url.specs.declared.error.ParseError.{ParseError}
use Rattle.http_address.specs.Address.{IsAddress, AddressView}
use Rattle.place.specs.Place.{Names, IsPathOf, PlaceView, IsPlace}

-- a text is one URL at most
one_url : (r : Result Parts ParseError) (u v : Parts) → r ≡ Ok u → r ≡ Ok v → u.path ≡ v.path
one_url r u v e f = cc

one_path : (text : List ℕ) (a b : AddressView) → IsAddress text a → IsAddress text b → a.path ≡ b.path
one_path text a b p q = p.tells.path ∙ one_url (parse_url None text) p.url q.url p.parses q.parses ∙ sym q.tells.path

-- what is no address is no place
pub no_place : (text : List ℕ) (p : PlaceView) → ((a : AddressView) → IsAddress text a → ⊥) → IsPlace text p → ⊥
no_place text p none is = none _ is.address

-- nor is an address whose path has no names
pub no_names : (text : List ℕ) (a : AddressView) (p : PlaceView) → IsAddress text a → ((n : Names) → IsPathOf a.path n → ⊥) → IsPlace text p → ⊥
no_names text a p at none is =
    none p.names (subst (λ (path : List ℕ). IsPathOf path p.names) (one_path text _ a is.address at) is.names)

-- an address whose path has them is
pub is_place : (text : List ℕ) (a : AddressView) (n : Names) → IsAddress text a → IsPathOf a.path n
    → IsPlace text (record { host = a.host; port = a.port; names = n })
is_place text a n at has = record { path = a.path; address = at; names = has }
