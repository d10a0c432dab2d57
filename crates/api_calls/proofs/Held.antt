-- A value that is being deleted has a finalizer.
use Rattle.std.proofs.Common.{◌≡◌, ℕ, List, [], ◌∷◌, Option, None, Some, Bool, true, false, sym, subst}
use Rattle.std.specs.Prelude.{if◌then◌else◌, nat_eq, IsTrue, IsSome}
use Rattle.std.specs.Ordering.{match_ordering}
use Rattle.std.specs.declared.cmp.Ordering.{Ordering}
use Rattle.std.specs.declared.cmp.Ordering.TheVariants.{Less, Equal, Greater}
use Rattle.kube_meta.specs.Key.{KeyView, key_cmp}
use Rattle.kube_meta.specs.View.{ObjectView}
use Rattle.kube_meta.specs.declared.limits.Limits.{Limits}
use Rattle.api_calls.specs.Meaning.{Meaning}
use Rattle.api_calls.specs.Item.{Create, Replace, Mark, Release, Touch, Delete, SetVersions, Trim, StartMigration, MarkSucceeded, Claim, RangeDone, GiveBack, Item, entry, note}
use Rattle.api_calls.specs.Objects.{Stored, find, updated, moved, marked_at, born_or}
use Rattle.api_calls.specs.State.{State, target_of, moved_storage, effect, number_after, opening, state_from, state}
use Rattle.api_calls.specs.Legal.{Each, IsMarked, HasFinalizer, guard, legal_from, legal}
use Rattle.api_calls.specs.LegalLists.{MarkedAreHeld}
use Rattle.api_calls.proofs.Lists.{each-put, each-without, each-updated}

abbrev IsHeldThen : Stored → Type 0
IsHeldThen e = IsMarked e.h → HasFinalizer e.h

not_some : (o : Option (List ℕ)) → o ≡ None → IsSome o → ⊥
not_some None is some = cc
not_some (Some x) is some = cc

unmarked : (h : ObjectView) → h.meta.deleted ≡ None → IsMarked h → HasFinalizer h
unmarked h is some = absurd (not_some h.meta.deleted is some)

-- a mark at the one key whose object has a finalizer
held-mark : (f : Stored → Stored) (k : KeyView) (es : List Stored) (old : Stored) → find k es ≡ Some old → ((e : Stored) → HasFinalizer e.h → IsHeldThen (f e)) → HasFinalizer old.h
    → Each IsHeldThen es → Each IsHeldThen (updated f k es)
held-mark f k [] old is new has h = tt
held-mark f k (e ∷ es) old is new has h = by (key_cmp k e.key) is (λ found. held-mark f k es old found new has h.1)
  where
    by : (o : Ordering) → match_ordering o None (Some e) (find k es) ≡ Some old → (find k es ≡ Some old → Each IsHeldThen (updated f k es))
        → Each IsHeldThen (match_ordering o (e ∷ es) (f e ∷ es) (e ∷ updated f k es))
    by Less found more = h
    by Equal found more = let same : e ≡ old = cc in (new e (subst (λ (q : Stored). HasFinalizer q.h) (sym same) has), h.1)
    by Greater found more = (h.0, more found)

held-step : (m : Meaning) (limits : Limits) (n : ℕ) (i : Item) (s : State) → IsTrue m.honest → guard m limits s i → MarkedAreHeld s → MarkedAreHeld (effect n i s)
held-step m limits n (entry (Create k h w)) s honest g all =
    each-put IsHeldThen (record { key = k; h = h; number = n; at = s.flags.storage; born = n; weight = w }) s.objects (unmarked h (g.fresh honest).unmarked) all
held-step m limits n (entry (Replace k over h w)) s honest g all =
    each-put IsHeldThen (record { key = k; h = h; number = n; at = s.flags.storage; born = born_or (find k s.objects) n; weight = w }) s.objects (g.follows honest).held all
held-step m limits n (entry (Mark k over stamp)) s honest g all =
    held-mark (marked_at n s.flags.storage stamp) k s.objects g.stands.old g.stands.there (λ e has some. has) (g.held honest) all
held-step m limits n (entry (Release k over)) s honest g all = each-without IsHeldThen k s.objects all
held-step m limits n (entry (Touch k c)) s honest g all = each-updated IsHeldThen (moved n (target_of s)) k s.objects (λ e p. p) all
held-step m limits n (entry (Delete k)) s honest g all = each-without IsHeldThen k s.objects all
held-step m limits n (entry (SetVersions f)) s honest g all = by (nat_eq f.storage s.flags.storage)
  where
    by : (b : Bool) → MarkedAreHeld (if b then record s { flags = f } else moved_storage f s)
    by true = all
    by false = all
held-step m limits n (entry (Trim keep)) s honest g all = all
held-step m limits n (entry (StartMigration name)) s honest g all = all
held-step m limits n (entry MarkSucceeded) s honest g all = all
held-step m limits n (note (Claim c)) s honest g all = all
held-step m limits n (note (RangeDone c)) s honest g all = all
held-step m limits n (note (GiveBack c)) s honest g all = all

held-from : (m : Meaning) (limits : Limits) (n : ℕ) (s : State) (log : List Item) → IsTrue m.honest → legal_from m limits n s log → MarkedAreHeld s → MarkedAreHeld (state_from n s log)
held-from m limits n s [] honest l all = all
held-from m limits n s (i ∷ log) honest l all = held-from m limits (number_after n i) (effect n i s) log honest l.1 (held-step m limits n i s honest l.0 all)

pub held-all : (m : Meaning) (limits : Limits) (log : List Item) → IsTrue m.honest → legal m limits log → MarkedAreHeld (state m log)
held-all m limits log honest l = held-from m limits 2 (opening m) log honest l tt
