-- What is decided of a list of calls: each at the list that those before it left.
use Rattle.std.specs.Prelude.{◌≡◌, ℕ, List, [], ◌∷◌, ◌++◌, map}
use Rattle.kube_meta.specs.View.{ObjectView}
use Rattle.kube_meta.specs.declared.limits.Limits.{Limits}
use Rattle.api_calls.specs.Meaning.{Meaning}
use Rattle.api_calls.specs.Item.{Item}
use Rattle.api_calls.specs.Ends.{Decision, grown}
use Rattle.core_laws.specs.declared.calls.Call.{Call}
use Rattle.core_laws.specs.declared.calls.Answer.{Answer}
use Rattle.core_laws.specs.Asked.{Told, told, decided}
use Rattle.core_laws.specs.Known.{IsKnown}

-- a call, with the hub value that its prepared text means, and the deletion stamp of a mark
pub record Asked : Type 0 where
  pub call : Call
  pub h : ObjectView
  pub stamp : List ℕ

abbrev pub calls_of : List Asked → List Call
calls_of asked = map (λ a. a.call) asked

abbrev pub decision : Meaning → Limits → List Item → Asked → Decision Told
decision m limits log a = decided m limits log a.h a.stamp a.call

-- the list after one call
abbrev pub after : Meaning → Limits → List Item → Asked → List Item
after m limits log a = grown log (decision m limits log a).item

-- the list after all of them
abbrev pub after_all : Meaning → Limits → List Item → List Asked → List Item
after_all m limits log [] = log
after_all m limits log (a ∷ rest) = after_all m limits (after m limits log a) rest

-- the answers, each decided at the list before it
abbrev pub answers : Meaning → Limits → List Item → List Asked → List Told
answers m limits log [] = []
answers m limits log (a ∷ rest) = (decision m limits log a).answer ∷ answers m limits (after m limits log a) rest

-- each call is known at the list before it
abbrev pub AreKnown : Meaning → Limits → List Item → List Asked → Type 0
AreKnown m limits log [] = Unit {0}
AreKnown m limits log (a ∷ rest) = IsKnown m log a.h a.stamp a.call × AreKnown m limits (after m limits log a) rest

-- the calls were answered as they are decided, and something stands for the list that they leave, which goes on from the first
pub record Ran (m : Meaning) (limits : Limits) (present : List Item → Type 0) (log : List Item) (asked : List Asked) (given : List Answer) : Type 0 where
  pub stands : present (after_all m limits log asked)
  pub answered : map told given ≡ answers m limits log asked
  pub goes_on : (more : List Item) × (after_all m limits log asked ≡ log ++ more)
