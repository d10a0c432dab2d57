-- When what a server stores is upgraded.
use Rattle.std.specs.Prelude.{◌≡◌, ◌++◌, ◌<◌, ◌^◌, List, IsTrue}
use Rattle.kube_meta.specs.declared.limits.Limits.{Limits}
use Rattle.api_calls.specs.Item.{Item}
use Rattle.api_calls.specs.Legal.{Each, legal}
use Rattle.api_calls.specs.LegalLists.{KeepsStorage}
use Rattle.api_calls.specs.Meaning.{Meaning}
use Rattle.api_calls.specs.State.{State, revision, state}

-- each object stands at the storage version
abbrev pub AreAtStorage : State → Type 0
AreAtStorage s = Each (λ e. e.at ≡ s.flags.storage) s.objects

-- Two histories of a server of which the second goes on from the first, while the storage version stays. Its resource versions and
-- its limit of objects are numbers of 63 bits, and it is known what its values mean.
pub record Meanwhile (m : Meaning) (limits : Limits) (first last : List Item) : Type 0 where
  pub honest : IsTrue m.honest
  pub legal : legal m limits last
  pub more : List Item
  pub goes_on : last ≡ first ++ more
  pub stays : Each (KeepsStorage (state m first).flags.storage) more
  pub few : limits.objects < 2 ^ 63
  pub counted : revision last < 2 ^ 63
