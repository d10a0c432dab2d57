-- The last claim number of a state is at most the number of the items before it.
use Rattle.std.specs.Prelude.{◌≡◌, ℕ, ◌+◌, ◌≤◌, Bool, true, false, List, [], ◌∷◌, length, Option, None, Some, nat_eq, if◌then◌else◌}
use Rattle.std.proofs.Common.{refl, arith}
use Rattle.kube_meta.specs.Plan.{Plan, Migration, running, stopped}
use Rattle.kube_meta.specs.declared.limits.Limits.{Limits}
use Rattle.api_calls.specs.Meaning.{Meaning}
use Rattle.api_calls.specs.Item.{Create, Replace, Mark, Release, Touch, Delete, SetVersions, Trim, StartMigration, MarkSucceeded, Claim, RangeDone, GiveBack, Item, entry, note}
use Rattle.api_calls.specs.Objects.{keys}
use Rattle.api_calls.specs.State.{State, moved_storage, effect, number_after, opening, state_from, state}
use Rattle.api_calls.specs.Legal.{guard, legal_from, legal}
use Rattle.api_core.specs.inner.SlotLaws.{last-claimed}

last-stopped : (o : Option Migration) (p : Plan) → (stopped o p).last ≡ p.last
last-stopped None p = refl
last-stopped (Some q) p = refl

last-effect : (m : Meaning) (limits : Limits) (n : ℕ) (i : Item) (s : State) → guard m limits s i → (effect n i s).plan.last ≤ s.plan.last + 1
last-effect m limits n (entry (Create k h w)) s g = omega arith
last-effect m limits n (entry (Replace k over h w)) s g = omega arith
last-effect m limits n (entry (Mark k over stamp)) s g = omega arith
last-effect m limits n (entry (Release k over)) s g = omega arith
last-effect m limits n (entry (Touch k c)) s g = omega arith
last-effect m limits n (entry (Delete k)) s g = omega arith
last-effect m limits n (entry (SetVersions f)) s g = by (nat_eq f.storage s.flags.storage)
  where
    by : (b : Bool) → (if b then record s { flags = f } else moved_storage f s).plan.last ≤ s.plan.last + 1
    by true = omega arith
    by false = let same = last-stopped (running s.migrations) s.plan in omega (arith, same)
last-effect m limits n (entry (Trim keep)) s g = omega arith
last-effect m limits n (entry (StartMigration name)) s g = omega arith
last-effect m limits n (entry MarkSucceeded) s g = omega arith
last-effect m limits n (note (Claim c)) s g = let is = last-claimed c (keys s.objects) s.plan in let next = g.next in omega (arith, is, next)
last-effect m limits n (note (RangeDone c)) s g = omega arith
last-effect m limits n (note (GiveBack c)) s g = omega arith

last-from : (m : Meaning) (limits : Limits) (n : ℕ) (s : State) (log : List Item) → legal_from m limits n s log → (state_from n s log).plan.last ≤ s.plan.last + length log
last-from m limits n s [] l = omega arith
last-from m limits n s (i ∷ log) l =
    let one = last-effect m limits n i s l.0 in
    let more = last-from m limits (number_after n i) (effect n i s) log l.1 in
    omega (arith, one, more)

pub last-few : (m : Meaning) (limits : Limits) (log : List Item) → legal m limits log → (state m log).plan.last ≤ length log
last-few m limits log l = let few = last-from m limits 2 (opening m) log l in omega (arith, few)
