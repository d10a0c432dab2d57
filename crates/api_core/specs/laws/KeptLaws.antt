-- Laws of every legal list: what stands under a key has that key and its weight, and it stays until an item names the key.
use Rattle.std.specs.Prelude.{◌≡◌, ◌≢◌, ◌⊎◌, ℕ, ◌+◌, Bool, true, false, List, [], ◌∷◌, ◌++◌, Option, None, Some, IsTrue, nat_eq, if◌then◌else◌}
use Rattle.std.proofs.Common.{refl, ap, ◌∙◌, sym, inl, inr}
use Rattle.std.specs.Ordering.{match_ordering}
use Rattle.std.specs.declared.cmp.Ordering.{Ordering}
use Rattle.std.specs.declared.cmp.Ordering.TheVariants.{Less, Equal, Greater}
use Rattle.kube_meta.specs.Key.{KeyView, key_cmp}
use Rattle.kube_meta.specs.View.{ObjectView}
use Rattle.kube_meta.specs.declared.limits.Limits.{Limits}
use Rattle.api_calls.specs.Meaning.{Meaning, Weighs}
use Rattle.api_calls.specs.Versions.{IgnoresStamps}
use Rattle.api_calls.specs.Item.{Create, Replace, Mark, Release, Touch, Delete, SetVersions, Trim, StartMigration, MarkSucceeded, Claim, RangeDone, GiveBack, Item, entry, note}
use Rattle.api_calls.specs.Named.{named_key, Spares, IsNamed}
use Rattle.api_calls.specs.Objects.{Stored, find, moved, marked, marked_at, born_or}
use Rattle.api_calls.specs.State.{State, target_of, moved_storage, effect, number_after, number_from, opening, state_from, state}
use Rattle.api_calls.specs.Legal.{Each, key_of, guard, legal_from, legal}
use Rattle.api_calls.specs.LegalLists.{IsSoundState}
use Rattle.api_calls.specs.laws.ObjectLaws.{each-find}
use Rattle.api_calls.proofs.Order.{itself, exact}
use Rattle.api_calls.proofs.Lists.{each-put, each-without, each-updated}
use Rattle.api_calls.proofs.Finds.{find-put_other, find-without_other, find-updated_other}
use Rattle.api_calls.proofs.Parts.{state_from-append, legal_from-append}
use Rattle.api_calls.proofs.Sound.{sound-step, sound-from, sound-opening}
use Rattle.api_calls.proofs.Stored.{weighs_unstamped}

-- ---- keys

pub same_or_not : (a b : KeyView) → (a ≡ b) ⊎ (a ≢ b)
same_or_not a b = by (key_cmp a b) refl
  where
    by : (o : Ordering) → key_cmp a b ≡ o → (a ≡ b) ⊎ (a ≢ b)
    by Less is = inr (λ same. let one : key_cmp a b ≡ Equal = ap (key_cmp a) (sym same) ∙ itself a in cc)
    by Equal is = inl (exact a b is)
    by Greater is = inr (λ same. let one : key_cmp a b ≡ Equal = ap (key_cmp a) (sym same) ∙ itself a in cc)

-- what is found under a key has it
pub find-key : (k : KeyView) (es : List Stored) (e : Stored) → find k es ≡ Some e → e.key ≡ k
find-key k [] e is = cc
find-key k (f ∷ es) e is = by (key_cmp k f.key) refl is (find-key k es e)
  where
    by : (o : Ordering) → key_cmp k f.key ≡ o → match_ordering o None (Some f) (find k es) ≡ Some e → (find k es ≡ Some e → e.key ≡ k) → e.key ≡ k
    by Less at is more = cc
    by Equal at is more = let same : f ≡ e = cc in ap (λ (g : Stored). g.key) (sym same) ∙ sym (exact k f.key at)
    by Greater at is more = more is

-- items name a key, or all of them spare it
pub named-or_spared : (k : KeyView) (log : List Item) → IsNamed k log ⊎ Each (Spares k) log
named-or_spared k [] = inr tt
named-or_spared k (i ∷ log) = by (named_key i) refl (named-or_spared k log)
  where
    later : IsNamed k log → IsNamed k (i ∷ log)
    later n = record { item = n.item; stands = inr n.stands; names = n.names }

    rest : Spares k i → IsNamed k log ⊎ Each (Spares k) log → IsNamed k (i ∷ log) ⊎ Each (Spares k) (i ∷ log)
    rest spares (inl n) = inl (later n)
    rest spares (inr all) = inr (spares, all)

    by : (o : Option KeyView) → named_key i ≡ o → IsNamed k log ⊎ Each (Spares k) log → IsNamed k (i ∷ log) ⊎ Each (Spares k) (i ∷ log)
    by None is more = rest (λ names. let both : None ≡ Some k = sym is ∙ names in cc) more
    by (Some j) is more =
        elim (same_or_not j k) [
          | inl same ↦ inl (record { item = i; stands = inl refl; names = is ∙ ap (λ (q : KeyView). Some q) same })
          | inr differ ↦ rest (λ names. let both : Some j ≡ Some k = sym is ∙ names in differ (let e : j ≡ k = cc in e)) more
        ]

-- ---- key and weight

-- a value has the key under which it stands, and weighs what is told
pub record IsKeyed (m : Meaning) (e : Stored) : Type 0 where
  pub key : key_of e.h ≡ e.key
  pub weighs : Weighs m e.h e.weight

marked_weighs : (m : Meaning) (stamp : List ℕ) (h : ObjectView) (w : ℕ) → IgnoresStamps m → Weighs m h w → Weighs m (marked stamp h) w
marked_weighs m stamp h w ignores weighs = weighs_unstamped m h w h.meta.created (Some stamp) h.meta.generation ignores weighs

keyed-step : (m : Meaning) (limits : Limits) (n : ℕ) (i : Item) (s : State) → IsTrue m.honest → IgnoresStamps m → guard m limits s i → Each (IsKeyed m) s.objects
    → Each (IsKeyed m) (effect n i s).objects
keyed-step m limits n (entry (Create k h w)) s honest ignores g all =
    each-put (IsKeyed m) (record { key = k; h = h; number = n; at = s.flags.storage; born = n; weight = w }) s.objects
    (record { key = (g.value honest).key; weighs = (g.value honest).weighs }) all
keyed-step m limits n (entry (Replace k over h w)) s honest ignores g all =
    each-put (IsKeyed m) (record { key = k; h = h; number = n; at = s.flags.storage; born = born_or (find k s.objects) n; weight = w }) s.objects
    (record { key = (g.value honest).key; weighs = (g.value honest).weighs }) all
keyed-step m limits n (entry (Mark k over stamp)) s honest ignores g all =
    each-updated (IsKeyed m) (marked_at n s.flags.storage stamp) k s.objects
    (λ e p. record { key = p.key; weighs = marked_weighs m stamp e.h e.weight ignores p.weighs }) all
keyed-step m limits n (entry (Release k over)) s honest ignores g all = each-without (IsKeyed m) k s.objects all
keyed-step m limits n (entry (Touch k c)) s honest ignores g all =
    each-updated (IsKeyed m) (moved n (target_of s)) k s.objects (λ e p. record { key = p.key; weighs = p.weighs }) all
keyed-step m limits n (entry (Delete k)) s honest ignores g all = each-without (IsKeyed m) k s.objects all
keyed-step m limits n (entry (SetVersions f)) s honest ignores g all = by (nat_eq f.storage s.flags.storage)
  where
    by : (b : Bool) → Each (IsKeyed m) (if b then record s { flags = f } else moved_storage f s).objects
    by true = all
    by false = all
keyed-step m limits n (entry (Trim keep)) s honest ignores g all = all
keyed-step m limits n (entry (StartMigration name)) s honest ignores g all = all
keyed-step m limits n (entry MarkSucceeded) s honest ignores g all = all
keyed-step m limits n (note (Claim c)) s honest ignores g all = all
keyed-step m limits n (note (RangeDone c)) s honest ignores g all = all
keyed-step m limits n (note (GiveBack c)) s honest ignores g all = all

keyed-from : (m : Meaning) (limits : Limits) (n : ℕ) (s : State) (log : List Item) → IsTrue m.honest → IgnoresStamps m → legal_from m limits n s log → Each (IsKeyed m) s.objects
    → Each (IsKeyed m) (state_from n s log).objects
keyed-from m limits n s [] honest ignores l all = all
keyed-from m limits n s (i ∷ log) honest ignores l all =
    keyed-from m limits (number_after n i) (effect n i s) log honest ignores l.1 (keyed-step m limits n i s honest ignores l.0 all)

pub all-keyed : (m : Meaning) (limits : Limits) (log : List Item) → IsTrue m.honest → IgnoresStamps m → legal m limits log → Each (IsKeyed m) (state m log).objects
all-keyed m limits log honest ignores l = keyed-from m limits 2 (opening m) log honest ignores l tt

-- what stands under a key has that key and its weight
pub found-keyed : (m : Meaning) (limits : Limits) (log : List Item) (k : KeyView) (e : Stored) → IsTrue m.honest → IgnoresStamps m → legal m limits log
    → find k (state m log).objects ≡ Some e → (key_of e.h ≡ k) × Weighs m e.h e.weight
found-keyed m limits log k e honest ignores l is =
    let keyed = each-find (IsKeyed m) k (state m log).objects e (all-keyed m limits log honest ignores l) is in
    (keyed.key ∙ find-key k (state m log).objects e is, keyed.weighs)

-- ---- what stays

stays-step : (m : Meaning) (limits : Limits) (n : ℕ) (k : KeyView) (i : Item) (s : State) → guard m limits s i → IsSoundState s → Spares k i
    → find k (effect n i s).objects ≡ find k s.objects
stays-step m limits n k (entry (Create j h w)) s g sound spares =
    find-put_other k (record { key = j; h = h; number = n; at = s.flags.storage; born = n; weight = w }) s.objects (λ same. spares (ap (λ (q : KeyView). Some q) (sym same)))
stays-step m limits n k (entry (Replace j over h w)) s g sound spares =
    find-put_other k (record { key = j; h = h; number = n; at = s.flags.storage; born = born_or (find j s.objects) n; weight = w }) s.objects
    (λ same. spares (ap (λ (q : KeyView). Some q) (sym same)))
stays-step m limits n k (entry (Mark j over stamp)) s g sound spares =
    find-updated_other (marked_at n s.flags.storage stamp) k j s.objects (λ e. refl) (λ same. spares (ap (λ (q : KeyView). Some q) (sym same)))
stays-step m limits n k (entry (Release j over)) s g sound spares = find-without_other k j s.objects sound.rising (λ same. spares (ap (λ (q : KeyView). Some q) (sym same)))
stays-step m limits n k (entry (Touch j c)) s g sound spares =
    find-updated_other (moved n (target_of s)) k j s.objects (λ e. refl) (λ same. spares (ap (λ (q : KeyView). Some q) (sym same)))
stays-step m limits n k (entry (Delete j)) s g sound spares = find-without_other k j s.objects sound.rising (λ same. spares (ap (λ (q : KeyView). Some q) (sym same)))
stays-step m limits n k (entry (SetVersions f)) s g sound spares = by (nat_eq f.storage s.flags.storage)
  where
    by : (b : Bool) → find k (if b then record s { flags = f } else moved_storage f s).objects ≡ find k s.objects
    by true = refl
    by false = refl
stays-step m limits n k (entry (Trim keep)) s g sound spares = refl
stays-step m limits n k (entry (StartMigration name)) s g sound spares = refl
stays-step m limits n k (entry MarkSucceeded) s g sound spares = refl
stays-step m limits n k (note (Claim c)) s g sound spares = refl
stays-step m limits n k (note (RangeDone c)) s g sound spares = refl
stays-step m limits n k (note (GiveBack c)) s g sound spares = refl

stays-from : (m : Meaning) (limits : Limits) (n : ℕ) (k : KeyView) (s : State) (log : List Item) → legal_from m limits n s log → IsSoundState s → Each (Spares k) log
    → find k (state_from n s log).objects ≡ find k s.objects
stays-from m limits n k s [] l sound spares = refl
stays-from m limits n k s (i ∷ log) l sound spares =
    stays-from m limits (number_after n i) k (effect n i s) log l.1 (sound-step m limits n i s l.0 sound) spares.1 ∙ stays-step m limits n k i s l.0 sound spares.0

-- an object stays what it is, its number and its version too, until an item names its key; and where none stands, none comes
pub object-stays : (m : Meaning) (limits : Limits) (log more : List Item) (k : KeyView) → legal m limits (log ++ more) → Each (Spares k) more
    → find k (state m (log ++ more)).objects ≡ find k (state m log).objects
object-stays m limits log more k l spares =
    let parts = legal_from-append m limits 2 (opening m) log more l in
    ap (λ (s : State). find k s.objects) (state_from-append 2 (opening m) log more)
    ∙ stays-from m limits (number_from 2 log) k (state m log) more parts.1 (sound-from m limits 2 (opening m) log parts.0 (sound-opening m)) spares

-- where it changed, an item named its key
pub changed-named : (m : Meaning) (limits : Limits) (log more : List Item) (k : KeyView) → legal m limits (log ++ more)
    → (find k (state m (log ++ more)).objects ≡ find k (state m log).objects → ⊥) → IsNamed k more
changed-named m limits log more k l differ =
    elim (named-or_spared k more) [ inl n ↦ n | inr spares ↦ absurd (differ (object-stays m limits log more k l spares)) ]
