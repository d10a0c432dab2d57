-- A key that stands at the storage version, or isn't there, while that version stays.
use Rattle.std.proofs.Common.{◌≡◌, ◌∙◌, refl, sym, ap, subst, inl, inr, ℕ, Bool, true, false, nat_eq, List, [], ◌∷◌, ◌++◌, Option, None, Some}
use Rattle.std.specs.Prelude.{MatchOption, if◌then◌else◌}
use Rattle.std.specs.Ordering.{match_ordering}
use Rattle.std.specs.declared.cmp.Ordering.{Ordering}
use Rattle.std.specs.declared.cmp.Ordering.TheVariants.{Less, Equal, Greater}
use Rattle.kube_meta.specs.Key.{KeyView, key_cmp}
use Rattle.kube_meta.specs.declared.limits.Limits.{Limits}
use Rattle.api_calls.specs.Item.{Create, Replace, Mark, Release, Touch, Delete, SetVersions, Trim, StartMigration, MarkSucceeded, Claim, RangeDone, GiveBack, Item, entry, note}
use Rattle.api_calls.specs.LegalLists.{IsRising, IsSoundState, KeepsStorage}
use Rattle.api_calls.specs.Legal.{Each, In, legal, legal_from}
use Rattle.api_calls.specs.Meaning.{Meaning}
use Rattle.api_calls.specs.Objects.{Stored, born_or, find, marked_at, moved}
use Rattle.api_calls.specs.State.{State, effect, moved_storage, number_after, number_from, opening, state, state_from, target_of}
use Rattle.api_calls.proofs.Lists.{each, each-put, each-updated, each-without}
use Rattle.api_calls.proofs.Order.{exact}
use Rattle.api_calls.proofs.Parts.{legal_from-append, state_from-append}
use Rattle.api_calls.proofs.Snaps.{in-find}
use Rattle.api_calls.proofs.Sound.{sound-from, sound-opening, sound-step, touch_target}
use Rattle.far_laws.specs.Keys.{IsAbsentOrAt}

-- ---- the object under a key, and each object that has it

-- where an object has the key, it is stored at v
abbrev Keyed : ℕ → KeyView → Stored → Type 0
Keyed v k e = e.key ≡ k → e.at ≡ v

each_in : (xs ys : List Stored) → ((x : Stored) → In x xs → In x ys) → Each (λ x. In x ys) xs
each_in [] ys there = tt
each_in (x ∷ xs) ys there = (there x (inl refl), each_in xs ys (λ y i. there y (inr i)))

at-found : (v : ℕ) (o : Option Stored) (e : Stored) → MatchOption o (Unit {0}) (λ f. f.at ≡ v) → o ≡ Some e → e.at ≡ v
at-found v None e at is = cc
at-found v (Some f) e at is = let same : f ≡ e = cc in subst (λ (q : Stored). q.at ≡ v) same at

-- of objects by rising key only the one under a key has it
from-found : (v : ℕ) (k : KeyView) (es : List Stored) → IsRising es → MatchOption (find k es) (Unit {0}) (λ e. e.at ≡ v) → Each (Keyed v k) es
from-found v k es rising at =
    each (λ x. In x es) (Keyed v k) es (each_in es es (λ x i. i))
    (λ x i same. at-found v (find k es) x at (ap (λ (j : KeyView). find j es) (sym same) ∙ in-find es x rising i))

to-found : (v : ℕ) (k : KeyView) (es : List Stored) → Each (Keyed v k) es → MatchOption (find k es) (Unit {0}) (λ e. e.at ≡ v)
to-found v k [] all = tt
to-found v k (e ∷ es) all = by (key_cmp k e.key) refl (to-found v k es all.1)
  where
    by : (o : Ordering) → key_cmp k e.key ≡ o → MatchOption (find k es) (Unit {0}) (λ f. f.at ≡ v)
        → MatchOption (match_ordering o None (Some e) (find k es)) (Unit {0}) (λ f. f.at ≡ v)
    by Less is more = tt
    by Equal is more = all.0 (sym (exact k e.key is))
    by Greater is more = more

-- ---- histories

record IsKept (v : ℕ) (k : KeyView) (s : State) : Type 0 where
  storage : s.flags.storage ≡ v
  all : Each (Keyed v k) s.objects

kept-step : (n v : ℕ) (k : KeyView) (i : Item) (s : State) → IsSoundState s → KeepsStorage v i → IsKept v k s → IsKept v k (effect n i s)
kept-step n v k (entry (Create j h w)) s sound keeps a = record {
  storage = a.storage;
  all = each-put (Keyed v k) (record { key = j; h = h; number = n; at = s.flags.storage; born = n; weight = w }) s.objects (λ same. a.storage) a.all;
}
kept-step n v k (entry (Replace j over h w)) s sound keeps a = record {
  storage = a.storage;
  all = each-put (Keyed v k) (record { key = j; h = h; number = n; at = s.flags.storage; born = born_or (find j s.objects) n; weight = w }) s.objects (λ same. a.storage) a.all;
}
kept-step n v k (entry (Mark j over stamp)) s sound keeps a = record {
  storage = a.storage;
  all = each-updated (Keyed v k) (marked_at n s.flags.storage stamp) j s.objects (λ e p same. a.storage) a.all;
}
kept-step n v k (entry (Release j over)) s sound keeps a = record { storage = a.storage; all = each-without (Keyed v k) j s.objects a.all }
kept-step n v k (entry (Touch j c)) s sound keeps a = record {
  storage = a.storage;
  all = each-updated (Keyed v k) (moved n (target_of s)) j s.objects (λ e p same. touch_target s sound ∙ a.storage) a.all;
}
kept-step n v k (entry (Delete j)) s sound keeps a = record { storage = a.storage; all = each-without (Keyed v k) j s.objects a.all }
kept-step n v k (entry (SetVersions f)) s sound keeps a = by (nat_eq f.storage s.flags.storage)
  where
    by : (b : Bool) → IsKept v k (if b then record s { flags = f } else moved_storage f s)
    by true = record { storage = keeps; all = a.all }
    by false = record { storage = keeps; all = a.all }
kept-step n v k (entry (Trim keep)) s sound keeps a = record { storage = a.storage; all = a.all }
kept-step n v k (entry (StartMigration name)) s sound keeps a = record { storage = a.storage; all = a.all }
kept-step n v k (entry MarkSucceeded) s sound keeps a = record { storage = a.storage; all = a.all }
kept-step n v k (note (Claim c)) s sound keeps a = record { storage = a.storage; all = a.all }
kept-step n v k (note (RangeDone c)) s sound keeps a = record { storage = a.storage; all = a.all }
kept-step n v k (note (GiveBack c)) s sound keeps a = record { storage = a.storage; all = a.all }

kept-from : (m : Meaning) (limits : Limits) (n v : ℕ) (k : KeyView) (s : State) (log : List Item) → legal_from m limits n s log → IsSoundState s → Each (KeepsStorage v) log
    → IsKept v k s → IsKept v k (state_from n s log)
kept-from m limits n v k s [] l sound keeps a = a
kept-from m limits n v k s (i ∷ log) l sound keeps a =
    kept-from m limits (number_after n i) v k (effect n i s) log l.1 (sound-step m limits n i s l.0 sound) keeps.1 (kept-step n v k i s sound keeps.0 a)

pub kept-all : (m : Meaning) (limits : Limits) (before after : List Item) (k : KeyView) → legal m limits (before ++ after)
    → Each (KeepsStorage (state m before).flags.storage) after → IsAbsentOrAt (state m before).flags.storage k (state m before)
    → ((state m (before ++ after)).flags.storage ≡ (state m before).flags.storage) × IsAbsentOrAt (state m before).flags.storage k (state m (before ++ after))
kept-all m limits before after k l keeps at =
    let v = (state m before).flags.storage in
    let parts = legal_from-append m limits 2 (opening m) before after l in
    let sound = sound-from m limits 2 (opening m) before parts.0 (sound-opening m) in
    let whole = state_from-append 2 (opening m) before after in
    let kept = kept-from m limits (number_from 2 before) v k (state m before) after parts.1 sound keeps
    (record { storage = refl; all = from-found v k (state m before).objects sound.rising at }) in (
      ap (λ (s : State). s.flags.storage) whole ∙ kept.storage,
      subst (λ (s : State). IsAbsentOrAt v k s) (sym whole) (to-found v k (state_from (number_from 2 before) (state m before) after).objects kept.all),
    )
