-- The values of a legal list are whole, and have the keys under which they stand.
use Rattle.std.proofs.Common.{◌≡◌, ◌∙◌, refl, sym, subst, ap, ℕ, Bool, true, false, nat_eq, List, [], ◌∷◌, ◌++◌, None, Some}
use Rattle.std.specs.Prelude.{IsTrue, if◌then◌else◌}
use Rattle.std.specs.Ordering.{match_ordering}
use Rattle.std.specs.declared.cmp.Ordering.{Ordering}
use Rattle.std.specs.declared.cmp.Ordering.TheVariants.{Less, Equal, Greater}
use Rattle.kube_meta.specs.Key.{KeyView, key_cmp}
use Rattle.kube_meta.specs.declared.limits.Limits.{Limits}
use Rattle.api_calls.specs.Item.{Create, Replace, Mark, Release, Touch, Delete, SetVersions, Trim, StartMigration, MarkSucceeded, Claim, RangeDone, GiveBack, Item, entry, note}
use Rattle.api_calls.specs.Legal.{Each, guard, key_of, legal, legal_from}
use Rattle.api_calls.specs.Meaning.{Meaning}
use Rattle.api_calls.specs.Objects.{Stored, born_or, find, marked_at, moved, updated}
use Rattle.api_calls.specs.State.{State, effect, moved_storage, number_after, opening, state, state_from, target_of}
use Rattle.api_calls.proofs.Lists.{each-put, each-updated, each-without}
use Rattle.api_calls.proofs.Order.{exact}

pub find_key : (k : KeyView) (es : List Stored) (e : Stored) → find k es ≡ Some e → e.key ≡ k
find_key k [] e found = cc
find_key k (f ∷ es) e found = by (key_cmp k f.key) refl found (find_key k es e)
  where
    by : (o : Ordering) → key_cmp k f.key ≡ o → match_ordering o None (Some f) (find k es) ≡ Some e → (find k es ≡ Some e → e.key ≡ k) → e.key ≡ k
    by Less is found more = cc
    by Equal is found more = let same : f ≡ e = cc in ap (λ (q : Stored). q.key) (sym same) ∙ sym (exact k f.key is)
    by Greater is found more = more found

-- what holds of the one object that changes, and of all before
each-changed : (P : Stored → Type 0) (f : Stored → Stored) (k : KeyView) (es : List Stored) (old : Stored) → find k es ≡ Some old → P (f old) → Each P es → Each P (updated f k es)
each-changed P f k [] old found new all = tt
each-changed P f k (e ∷ es) old found new all = by (key_cmp k e.key) found (λ there. each-changed P f k es old there new all.1)
  where
    by : (o : Ordering) → match_ordering o None (Some e) (find k es) ≡ Some old → (find k es ≡ Some old → Each P (updated f k es))
        → Each P (match_ordering o (e ∷ es) (f e ∷ es) (e ∷ updated f k es))
    by Less found more = all
    by Equal found more = let same : e ≡ old = cc in (subst (λ (q : Stored). P (f q)) (sym same) new, all.1)
    by Greater found more = (all.0, more found)

pub each_front : (P : Stored → Type 0) (xs ys : List Stored) → Each P (xs ++ ys) → Each P xs
each_front P [] ys all = tt
each_front P (x ∷ xs) ys all = (all.0, each_front P xs ys all.1)

pub each_back : (P : Stored → Type 0) (xs ys : List Stored) → Each P (xs ++ ys) → Each P ys
each_back P [] ys all = all
each_back P (x ∷ xs) ys all = each_back P xs ys all.1

-- a whole value under its key
pub record IsKept (m : Meaning) (e : Stored) : Type 0 where
  pub whole : m.whole e.h
  pub key : key_of e.h ≡ e.key

module _ (m : Meaning) (honest : IsTrue m.honest) where
  abbrev AreKept : State → Type 0
  AreKept s = Each (IsKept m) s.objects

  kept-step : (limits : Limits) (n : ℕ) (i : Item) (s : State) → guard m limits s i → AreKept s → AreKept (effect n i s)
  kept-step limits n (entry (Create k h w)) s g all =
      let v = g.value honest in
      each-put (IsKept m) (record { key = k; h = h; number = n; at = s.flags.storage; born = n; weight = w }) s.objects (record { whole = v.whole; key = v.key }) all
  kept-step limits n (entry (Replace k over h w)) s g all =
      let v = g.value honest in
      each-put (IsKept m) (record { key = k; h = h; number = n; at = s.flags.storage; born = born_or (find k s.objects) n; weight = w }) s.objects
      (record { whole = v.whole; key = v.key }) all
  kept-step limits n (entry (Mark k over stamp)) s g all =
      let v = g.value honest in
      each-changed (IsKept m) (marked_at n s.flags.storage stamp) k s.objects g.stands.old g.stands.there
      (record { whole = v.whole; key = v.key ∙ sym (find_key k s.objects g.stands.old g.stands.there) }) all
  kept-step limits n (entry (Release k over)) s g all = each-without (IsKept m) k s.objects all
  kept-step limits n (entry (Touch k c)) s g all = each-updated (IsKept m) (moved n (target_of s)) k s.objects (λ e p. record { whole = p.whole; key = p.key }) all
  kept-step limits n (entry (Delete k)) s g all = each-without (IsKept m) k s.objects all
  kept-step limits n (entry (SetVersions f)) s g all = by (nat_eq f.storage s.flags.storage)
    where
      by : (b : Bool) → Each (IsKept m) (if b then record s { flags = f } else moved_storage f s).objects
      by true = all
      by false = all
  kept-step limits n (entry (Trim keep)) s g all = all
  kept-step limits n (entry (StartMigration name)) s g all = all
  kept-step limits n (entry MarkSucceeded) s g all = all
  kept-step limits n (note (Claim c)) s g all = all
  kept-step limits n (note (RangeDone c)) s g all = all
  kept-step limits n (note (GiveBack c)) s g all = all

  kept-from : (limits : Limits) (n : ℕ) (s : State) (log : List Item) → legal_from m limits n s log → AreKept s → AreKept (state_from n s log)
  kept-from limits n s [] l all = all
  kept-from limits n s (i ∷ log) l all = kept-from limits (number_after n i) (effect n i s) log l.1 (kept-step limits n i s l.0 all)

  pub kept-all : (limits : Limits) (log : List Item) → legal m limits log → Each (IsKept m) (state m log).objects
  kept-all limits log l = kept-from limits 2 (opening m) log l tt
