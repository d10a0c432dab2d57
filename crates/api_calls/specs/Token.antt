-- A continue token: the text that says where a list goes on (Kubernetes API Concepts, "Retrieving large results sets in chunks").
use Rattle.std.specs.Prelude.{◌≡◌, ℕ, ◌<◌, ◌^◌, List, ◌++◌, IsTrue, codes, decimal}
use Rattle.base64.specs.Engines.{url_safe_no_pad}
use Rattle.base64.specs.GeneralPurpose.{encode_of}
use Rattle.kube_meta.specs.Key.{KeyView}
use Rattle.kube_meta.specs.Names.{is_namespace, is_name}
use Rattle.api_calls.specs.declared.token.TokenFault.{TokenFault}
use Rattle.api_calls.specs.declared.token.TokenFault.TheVariants.{BadToken, NoMemory}

-- what a token tells: the revision of the list's first page, a number of 64 bits, and the key of the last object shown
pub record IsToken (r : ℕ) (k : KeyView) : Type 0 where
  pub number : r < 2 ^ 64
  pub ns : IsTrue (is_namespace k.ns)
  pub name : IsTrue (is_name k.name)

-- `1 R NS NAME`, where 1 stands for this format, and R is decimal
unfoldable pub token_line : ℕ → KeyView → List ℕ
token_line r k = codes "1 " ++ (decimal r ++ (codes " " ++ (k.ns ++ (codes " " ++ k.name))))

-- the line in base64 with the URL alphabet, without padding (RFC 4648, section 5)
unfoldable pub token_text : ℕ → KeyView → List ℕ
token_text r k = encode_of url_safe_no_pad (token_line r k)

-- a bad token is a text that no token has; want of memory tells nothing
abbrev pub RefusesToken : TokenFault → List ℕ → Type 0
RefusesToken BadToken s = (r : ℕ) (k : KeyView) → IsToken r k → ¬ (token_text r k ≡ s)
RefusesToken NoMemory s = Unit {0}

-- ---- for private clauses

-- the byte between the parts of a line
abbrev pub space : ℕ
space = 32

-- the same of a line
abbrev pub RefusesLine : TokenFault → List ℕ → Type 0
RefusesLine BadToken s = (r : ℕ) (k : KeyView) → IsToken r k → ¬ (token_line r k ≡ s)
RefusesLine NoMemory s = Unit {0}
