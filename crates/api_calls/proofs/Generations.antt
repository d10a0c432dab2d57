-- An object's generation counts from 1, and is at most the revision.
use Rattle.std.proofs.Common.{◌≡◌, ◌∙◌, ℕ, ◌+◌, ◌-◌, ◌≤◌, List, [], ◌∷◌, Bool, true, false, inl, inr, ap, subst, arith}
use Rattle.std.specs.Prelude.{ℤ, pos, ◌+ℤ◌, ◌≢◌, ◌⊎◌, if◌then◌else◌, nat_eq, IsTrue}
use Rattle.kube_meta.specs.View.{ObjectView}
use Rattle.kube_meta.specs.declared.limits.Limits.{Limits}
use Rattle.api_calls.specs.Meaning.{Meaning}
use Rattle.api_calls.specs.Item.{Create, Replace, Mark, Release, Touch, Delete, SetVersions, Trim, StartMigration, MarkSucceeded, Claim, RangeDone, GiveBack, Item, entry, note}
use Rattle.api_calls.specs.Objects.{Stored, find, moved, marked, marked_at, born_or}
use Rattle.api_calls.specs.State.{State, target_of, moved_storage, effect, number_after, number_from, next_number, opening, state_from, state, revision}
use Rattle.api_calls.specs.Legal.{Each, IsNew, Follows, guard, legal_from, legal}
use Rattle.api_calls.specs.LegalLists.{IsCounted, AreCounted}
use Rattle.api_calls.specs.laws.GrowthLaws.{next_number-revision}
use Rattle.api_calls.specs.laws.ObjectLaws.{each-find}
use Rattle.api_calls.proofs.Lists.{each, each-put, each-without, each-updated}

-- what is counted up to the revision before an entry of number n, is up to the one after it
later : (n : ℕ) (es : List Stored) → Each (λ e. IsCounted (n - 1) e.h) es → Each (λ e. IsCounted (n + 1 - 1) e.h) es
later n es h =
    each (λ e. IsCounted (n - 1) e.h) (λ e. IsCounted (n + 1 - 1) e.h) es h
    (λ e c. record { number = c.number; is = c.is; least = c.least; most = omega (arith, c.most) })

new-counted : (n : ℕ) (h : ObjectView) → 1 ≤ n → IsNew h → IsCounted (n + 1 - 1) h
new-counted n h some new = record { number = 1; is = new.generation; least = omega arith; most = omega (arith, some) }

followed-counted : (n : ℕ) (old h : ObjectView) → Follows old h → IsCounted (n - 1) old → IsCounted (n + 1 - 1) h
followed-counted n old h follows c = by follows.generation
  where
    by : ((h.body ≢ old.body) × (h.meta.generation ≡ old.meta.generation +ℤ pos 1)) ⊎ ((h.body ≡ old.body) × (h.meta.generation ≡ old.meta.generation))
        → IsCounted (n + 1 - 1) h
    by (inl more) = record {
      number = c.number + 1;
      is = more.1 ∙ ap (λ (z : ℤ). z +ℤ pos 1) c.is;
      least = omega arith;
      most = omega (arith, c.most, c.least);
    }
    by (inr same) = record { number = c.number; is = same.1 ∙ c.is; least = c.least; most = omega (arith, c.most) }

marked-counted : (r : ℕ) (stamp : List ℕ) (h : ObjectView) → IsCounted r h → IsCounted r (marked stamp h)
marked-counted r stamp h c = record { number = c.number; is = c.is; least = c.least; most = c.most }

counted-step : (m : Meaning) (limits : Limits) (n : ℕ) (i : Item) (s : State) → IsTrue m.honest → 1 ≤ n → guard m limits s i → AreCounted (n - 1) s
    → AreCounted (number_after n i - 1) (effect n i s)
counted-step m limits n (entry (Create k h w)) s honest some g all =
    each-put (λ e. IsCounted (n + 1 - 1) e.h) (record { key = k; h = h; number = n; at = s.flags.storage; born = n; weight = w }) s.objects
    (new-counted n h some (g.fresh honest)) (later n s.objects all)
counted-step m limits n (entry (Replace k over h w)) s honest some g all =
    each-put (λ e. IsCounted (n + 1 - 1) e.h) (record { key = k; h = h; number = n; at = s.flags.storage; born = born_or (find k s.objects) n; weight = w }) s.objects
    (followed-counted n g.stands.old.h h (g.follows honest) (each-find (λ e. IsCounted (n - 1) e.h) k s.objects g.stands.old all g.stands.there)) (later n s.objects all)
counted-step m limits n (entry (Mark k over stamp)) s honest some g all =
    each-updated (λ e. IsCounted (n + 1 - 1) e.h) (marked_at n s.flags.storage stamp) k s.objects (λ e c. marked-counted (n + 1 - 1) stamp e.h c) (later n s.objects all)
counted-step m limits n (entry (Release k over)) s honest some g all = each-without (λ e. IsCounted (n + 1 - 1) e.h) k s.objects (later n s.objects all)
counted-step m limits n (entry (Touch k c)) s honest some g all =
    each-updated (λ e. IsCounted (n + 1 - 1) e.h) (moved n (target_of s)) k s.objects (λ e p. p) (later n s.objects all)
counted-step m limits n (entry (Delete k)) s honest some g all = each-without (λ e. IsCounted (n + 1 - 1) e.h) k s.objects (later n s.objects all)
counted-step m limits n (entry (SetVersions f)) s honest some g all = by (nat_eq f.storage s.flags.storage)
  where
    by : (b : Bool) → AreCounted (n + 1 - 1) (if b then record s { flags = f } else moved_storage f s)
    by true = later n s.objects all
    by false = later n s.objects all
counted-step m limits n (entry (Trim keep)) s honest some g all = later n s.objects all
counted-step m limits n (entry (StartMigration name)) s honest some g all = later n s.objects all
counted-step m limits n (entry MarkSucceeded) s honest some g all = later n s.objects all
counted-step m limits n (note (Claim c)) s honest some g all = all
counted-step m limits n (note (RangeDone c)) s honest some g all = all
counted-step m limits n (note (GiveBack c)) s honest some g all = all

after_some : (n : ℕ) (i : Item) → 1 ≤ n → 1 ≤ number_after n i
after_some n (entry e) h = omega arith
after_some n (note x) h = h

counted-from : (m : Meaning) (limits : Limits) (n : ℕ) (s : State) (log : List Item) → IsTrue m.honest → 1 ≤ n → legal_from m limits n s log → AreCounted (n - 1) s
    → AreCounted (number_from n log - 1) (state_from n s log)
counted-from m limits n s [] honest some l all = all
counted-from m limits n s (i ∷ log) honest some l all =
    counted-from m limits (number_after n i) (effect n i s) log honest (after_some n i some) l.1 (counted-step m limits n i s honest some l.0 all)

pub counted-all : (m : Meaning) (limits : Limits) (log : List Item) → IsTrue m.honest → legal m limits log → AreCounted (revision log) (state m log)
counted-all m limits log honest l =
    let is : next_number log - 1 ≡ revision log = omega (arith, next_number-revision log) in
    subst (λ (r : ℕ). AreCounted r (state m log)) is (counted-from m limits 2 (opening m) log honest (omega arith) l tt)
