-- Numbers and claims of a list are few where its items are.
use Rattle.std.specs.Prelude.{◌≤◌, ◌<◌, ◌^◌, List, [], ◌∷◌, length}
use Rattle.std.proofs.Common.{arith, ap}
use Rattle.api_calls.specs.Meaning.{Meaning}
use Rattle.api_calls.specs.Item.{Item, entry, note}
use Rattle.api_calls.specs.State.{entries}
use Rattle.api_core.specs.View.{CoreView}
use Rattle.api_core.specs.Stands.{Stands}
use Rattle.api_core.specs.laws.ClaimLaws.{last-few}

entries-few : (log : List Item) → entries log ≤ length log
entries-few [] = omega arith
entries-few (entry e ∷ log) = let more = entries-few log in omega (arith, more)
entries-few (note x ∷ log) = let more = entries-few log in omega (arith, more)

pub few-numbers : (m : Meaning) (c : CoreView) (log : List Item) → Stands m c log → length log < 2 ^ 61 → c.revision ≤ 2 ^ 61
few-numbers m c log st few = let is = st.revision in let entered = entries-few log in omega (arith, is, entered, few)

pub few-claims : (m : Meaning) (c : CoreView) (log : List Item) → Stands m c log → length log < 2 ^ 61 → c.migrations.plan.last < 2 ^ 61
few-claims m c log st few =
    let last = last-few m c.limits log st.legal in
    let is = ap (λ p. p.last) st.present.plan in
    omega (arith, last, is, few)
