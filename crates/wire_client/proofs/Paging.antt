-- What a list comes to.
use Rattle.std.proofs.Common.{◌≡◌, ◌≤◌, ℕ, List, Option, None, Some, Result, Ok, Err, IfOk, IfErr, ap, sym, ◌∙◌, subst}
use Rattle.kj_value.specs.Json.{Json}
use Rattle.place.specs.Place.{Names}
use Rattle.wire_client.specs.Far.{Server, Told}
use Rattle.wire_client.specs.Calls.{lists, request_of}
use Rattle.wire_client.specs.Forms.{Path, api_version, page_fault}
use Rattle.wire_client.specs.Answers.{given}
use Rattle.wire_client.specs.Ends.{Came, Ended, IsPage}
use Rattle.wire_client.specs.inner.Seen.{Asked, OnShape}
use Rattle.wire_client.specs.declared.end.ListPage.{ListPage}
use Rattle.wire_client.specs.declared.end.WireEnd.{WireEnd}
use Rattle.wire_client.specs.declared.end.WireEnd.TheVariants as wire
use Rattle.wire_client.proofs.Coming.{came_given, came_shape}

pub page_given : (s : Server) (before now : Told) (n : Names) (limit : ℕ) (token request version : List ℕ) (j : Json) (r : Result ListPage WireEnd)
    → request ≡ request_of n (lists limit token) → version ≡ api_version n → Asked s before now request 200 (given j)
    → IfOk r (λ _. page_fault version j ≡ None) → IfOk r (IsPage j) → IfOk r (λ p. (k : Json) × Came s before now n (lists limit token) (given k) × IsPage k p)
page_given s before now n limit token request version j (Ok p) is vis asked form page =
    (j, came_given s before now n (lists limit token) request j is asked (ap (λ (v : List ℕ). page_fault v j) (sym vis) ∙ form), page)
page_given s before now n limit token request version j (Err e) is vis asked form page = form

pub page_ended : (s : Server) (before now : Told) (n : Names) (limit : ℕ) (token request version : List ℕ) (j : Json) (r : Result ListPage WireEnd)
    → request ≡ request_of n (lists limit token) → version ≡ api_version n → Asked s before now request 200 (given j)
    → IfErr r (OnShape (λ p. page_fault version j ≡ Some p)) → IfErr r (Ended s before now n (lists limit token))
page_ended s before now n limit token request version j (Ok p) is vis asked form = form
page_ended s before now n limit token request version j (Err e) is vis asked form = came_shape s before now n (lists limit token) request j e is asked (turned e form)
  where
    turned : (e : WireEnd) → OnShape (λ p. page_fault version j ≡ Some p) e → OnShape (λ p. page_fault (api_version n) j ≡ Some p) e
    turned wire.LinkFault h = h
    turned wire.TooLong h = h
    turned wire.Gone h = h
    turned (wire.Code c) h = h
    turned (wire.Shape path) h = ap (λ (v : List ℕ). page_fault v j) (sym vis) ∙ h
    turned wire.NoMemory h = h
