-- Which forms are taken back by the server that showed them.
use Rattle.std.specs.Prelude.{◌≡◌, ◌<◌, ◌≤◌, ◌^◌, ℕ, Some, IsUtf8, decimal}
use Rattle.kj_value.specs.Json.{depth}
use Rattle.kj_value.specs.Text.{text_of}
use Rattle.kube_meta.specs.Document.{document}
use Rattle.kube_meta.specs.View.{ObjectView}
use Rattle.api_calls.specs.Meaning.{Meaning, Request, measure}
use Rattle.far_laws.specs.GivenBack.{IsLike, unstamped}

-- the value measures at most 262,144 bytes at every version
abbrev pub IsLight : Meaning → ObjectView → Type 0
IsLight m h = (v : ℕ) (x : ObjectView) → v < m.count → m.pair v h x → measure x ≤ 262_144

-- A request that replaces the object of a whole value, and whose body is a form of that value with its number, is
-- admitted with the value and the number, where the value isn't too large.
pub record TakesBack (m : Meaning) : Type 0 where
  pub takes : (v number : ℕ) (h x y : ObjectView) (r : Request) → v < m.count → m.whole h → IsLight m h → m.pair v h x → IsLike y x
      → y.meta.resource_version ≡ Some (decimal number) → number < 2 ^ 64 → r.version ≡ v → r.ns ≡ x.meta.namespace → r.name ≡ Some x.meta.name → r.bytes ≡ text_of (document y) → IsUtf8 r.bytes → depth (document y) ≤ 64
      → m.admits r (unstamped h) (Some number)
