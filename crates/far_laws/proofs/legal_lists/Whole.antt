-- The values of a legal list are whole.
use Rattle.std.proofs.Common.{◌≡◌, sym, subst, ℕ, Bool, true, false, nat_eq, List, [], ◌∷◌, Option, None, Some}
use Rattle.std.specs.Prelude.{IsTrue, if◌then◌else◌}
use Rattle.std.specs.Ordering.{match_ordering}
use Rattle.std.specs.declared.cmp.Ordering.{Ordering}
use Rattle.std.specs.declared.cmp.Ordering.TheVariants.{Less, Equal, Greater}
use Rattle.kube_meta.specs.Key.{KeyView, key_cmp}
use Rattle.kube_meta.specs.declared.limits.Limits.{Limits}
use Rattle.api_calls.specs.Item.{Create, Replace, Mark, Release, Touch, Delete, SetVersions, Trim, StartMigration, MarkSucceeded, Claim, RangeDone, GiveBack, Item, entry, note}
use Rattle.api_calls.specs.Legal.{Each, guard, legal, legal_from}
use Rattle.api_calls.specs.Meaning.{Meaning}
use Rattle.api_calls.specs.Objects.{Stored, born_or, find, marked_at, moved, updated}
use Rattle.api_calls.specs.Snap.{snap, upto}
use Rattle.api_calls.specs.State.{State, effect, moved_storage, number_after, opening, state, state_from, target_of}
use Rattle.api_calls.proofs.Lists.{each-put, each-updated, each-without}
use Rattle.far_laws.proofs.legal_lists.Pages.{front_of}

-- what holds of the one object that changes, and of all before
each-changed : (P : Stored → Type 0) (f : Stored → Stored) (k : KeyView) (es : List Stored) (old : Stored) → find k es ≡ Some old → P (f old) → Each P es → Each P (updated f k es)
each-changed P f k [] old found new all = tt
each-changed P f k (e ∷ es) old found new all = by (key_cmp k e.key) found (λ there. each-changed P f k es old there new all.1)
  where
    by : (o : Ordering) → match_ordering o None (Some e) (find k es) ≡ Some old → (find k es ≡ Some old → Each P (updated f k es))
        → Each P (match_ordering o (e ∷ es) (f e ∷ es) (e ∷ updated f k es))
    by Less found more = all
    by Equal found more = let same : e ≡ old = cc in (subst (λ (q : Stored). P (f q)) (sym same) new, all.1)
    by Greater found more = (all.0, more found)

module _ (m : Meaning) (honest : IsTrue m.honest) where
  AreWhole : State → Type 0
  AreWhole s = Each (λ e. m.whole e.h) s.objects

  whole-step : (limits : Limits) (n : ℕ) (i : Item) (s : State) → guard m limits s i → AreWhole s → AreWhole (effect n i s)
  unfolding AreWhole
  whole-step limits n (entry (Create k h w)) s g all =
      each-put (λ e. m.whole e.h) (record { key = k; h = h; number = n; at = s.flags.storage; born = n; weight = w }) s.objects (g.value honest).whole all
  whole-step limits n (entry (Replace k over h w)) s g all =
      each-put (λ e. m.whole e.h) (record { key = k; h = h; number = n; at = s.flags.storage; born = born_or (find k s.objects) n; weight = w }) s.objects (g.value honest).whole all
  whole-step limits n (entry (Mark k over stamp)) s g all =
      each-changed (λ e. m.whole e.h) (marked_at n s.flags.storage stamp) k s.objects g.stands.old g.stands.there (g.value honest).whole all
  whole-step limits n (entry (Release k over)) s g all = each-without (λ e. m.whole e.h) k s.objects all
  whole-step limits n (entry (Touch k c)) s g all = each-updated (λ e. m.whole e.h) (moved n (target_of s)) k s.objects (λ e p. p) all
  whole-step limits n (entry (Delete k)) s g all = each-without (λ e. m.whole e.h) k s.objects all
  whole-step limits n (entry (SetVersions f)) s g all = by (nat_eq f.storage s.flags.storage)
    where
      by : (b : Bool) → Each (λ e. m.whole e.h) (if b then record s { flags = f } else moved_storage f s).objects
      by true = all
      by false = all
  whole-step limits n (entry (Trim keep)) s g all = all
  whole-step limits n (entry (StartMigration name)) s g all = all
  whole-step limits n (entry MarkSucceeded) s g all = all
  whole-step limits n (note (Claim c)) s g all = all
  whole-step limits n (note (RangeDone c)) s g all = all
  whole-step limits n (note (GiveBack c)) s g all = all

  whole-from : (limits : Limits) (n : ℕ) (s : State) (log : List Item) → legal_from m limits n s log → AreWhole s → AreWhole (state_from n s log)
  whole-from limits n s [] l all = all
  whole-from limits n s (i ∷ log) l all =
      whole-from limits (number_after n i) (effect n i s) log l.1 (whole-step limits n i s l.0 all)

  pub whole-all : (limits : Limits) (log : List Item) → legal m limits log → Each (λ e. m.whole e.h) (state m log).objects
  unfolding AreWhole
  whole-all limits log l = whole-from limits 2 (opening m) log l tt

  pub whole-at : (limits : Limits) (log : List Item) (r : ℕ) → legal m limits log → Each (λ e. m.whole e.h) (snap m log r)
  whole-at limits log r l = whole-all limits (upto 2 r log) (front_of m limits log r l).2
