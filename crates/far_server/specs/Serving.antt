-- What a far end in memory is seen as: what its server is of, and the history that its pass has seen.
use Rattle.std.specs.Prelude.{◌≡◌, ℕ, List, None, Some, refl}
use Rattle.std.specs.Coded.{Coded, code_by, coded_list, coded×}
use Rattle.api_calls.specs.Item.{Logged}
use Rattle.api_calls.specs.Meaning.{Meaning}
use Rattle.api_calls.specs.laws.ItemCode.{logged_code}
use Rattle.shared_api.specs.Passes.{ApiOf, IsOf, Known}
use Rattle.shared_api.specs.declared.cell.CoreBase.{CoreBase}
use Rattle.wire_client.specs.Far.{Server}
use Rattle.far_laws.specs.Speaking.{front, speaker}

pub record FarView (B : Type 0) : Type 0 where
  pub base : B
  pub seen : List Logged

-- the server of bytes, of whose clock nothing is told
abbrev pub speaker_of : {V : Type 0} → (V → Meaning) → CoreBase V → Server
speaker_of meaning b = speaker (front (meaning b.versions) b.limits b.boot None)

-- both passes are the server's, and the first has a number
pub record IsServing {V A : Type 0} (meaning : V → Meaning) (a : ApiOf (CoreBase V)) (p q : Known (CoreBase V) A) : Type 0 where
  pub of : IsOf meaning a p
  pub other : IsOf meaning a q
  pub number : ℕ
  pub named : p.view.number ≡ Some number

-- ---- how the logic stores it

abbrev pub far_code : {B : Type 0} → Coded B → Coded (FarView B)
far_code {B} b = code_by (B × List Logged) (coded× b (coded_list logged_code)) (λ v. (v.base, v.seen)) (λ p. record { base = p.0; seen = p.1 }) (λ _. refl)
