-- Objects that stand under keys that a client takes.
use Rattle.std.specs.Prelude.{◌≡◌, ◌<◌, ◌^◌}
use Rattle.api_calls.specs.Legal.{key_of}
use Rattle.api_calls.specs.Meaning.{Meaning}
use Rattle.api_calls.specs.Objects.{Stored}
use Rattle.http_routes.specs.Paths.{IsKey}

-- the object stands under the key of its whole value, which is a namespace and a name, at a number of 64 bits
pub record IsNamed (m : Meaning) (e : Stored) : Type 0 where
  pub whole : m.whole e.h
  pub key : key_of e.h ≡ e.key
  pub valid : IsKey e.key
  pub number : e.number < 2 ^ 64
