-- The objects of a list were created by its entries.
use Rattle.std.proofs.Common.{◌≡◌, ℕ, ◌+◌, ◌<◌, ◌≤◌, List, [], ◌∷◌, Option, None, Some, Bool, true, false, arith, refl}
use Rattle.std.specs.Prelude.{nat_eq, if◌then◌else◌}
use Rattle.std.specs.Ordering.{match_ordering}
use Rattle.std.specs.declared.cmp.Ordering.{Ordering}
use Rattle.std.specs.declared.cmp.Ordering.TheVariants.{Less, Equal, Greater}
use Rattle.kube_meta.specs.Key.{KeyView, key_cmp}
use Rattle.api_calls.specs.Meaning.{Meaning}
use Rattle.api_calls.specs.Item.{Item, entry, note, Create, Replace, Mark, Release, Touch, Delete, SetVersions, Trim, StartMigration, MarkSucceeded, Claim, RangeDone, GiveBack}
use Rattle.api_calls.specs.Objects.{Stored, find, put, without, updated, moved, marked_at, born_or}
use Rattle.api_calls.specs.State.{State, effect, moved_storage, number_after, number_from, next_number, opening, revision, state_from, state, target_of}
use Rattle.api_calls.specs.Legal.{Each}
use Rattle.api_calls.specs.laws.ObjectLaws.{each-find}
use Rattle.api_calls.specs.laws.GrowthLaws.{next_number-revision}

-- an object that was created before a number
abbrev pub BornBelow : ℕ → Stored → Type 0
BornBelow n e = e.born < n

pub later : (n k : ℕ) → n ≤ k → (es : List Stored) → Each (BornBelow n) es → Each (BornBelow k) es
later n k le [] h = tt
later n k le (e ∷ es) h = let first = h.0 in (omega (arith, first, le), later n k le es h.1)

each-put : (P : Stored → Type 0) (x : Stored) (es : List Stored) → P x → Each P es → Each P (put x es)
each-put P x [] p h = (p, tt)
each-put P x (e ∷ es) p h = by (key_cmp x.key e.key) (each-put P x es p h.1)
  where
    by : (o : Ordering) → Each P (put x es) → Each P (match_ordering o (x ∷ e ∷ es) (x ∷ es) (e ∷ put x es))
    by Less more = (p, h)
    by Equal more = (p, h.1)
    by Greater more = (h.0, more)

each-without : (P : Stored → Type 0) (k : KeyView) (es : List Stored) → Each P es → Each P (without k es)
each-without P k [] h = tt
each-without P k (e ∷ es) h = by (key_cmp k e.key) (each-without P k es h.1)
  where
    by : (o : Ordering) → Each P (without k es) → Each P (match_ordering o (e ∷ es) es (e ∷ without k es))
    by Less more = h
    by Equal more = h.1
    by Greater more = (h.0, more)

each-updated : (P : Stored → Type 0) (f : Stored → Stored) (k : KeyView) (es : List Stored) → ((e : Stored) → P e → P (f e)) → Each P es → Each P (updated f k es)
each-updated P f k [] keeps h = tt
each-updated P f k (e ∷ es) keeps h = by (key_cmp k e.key) (each-updated P f k es keeps h.1)
  where
    by : (o : Ordering) → Each P (updated f k es) → Each P (match_ordering o (e ∷ es) (f e ∷ es) (e ∷ updated f k es))
    by Less more = h
    by Equal more = (keeps e h.0, h.1)
    by Greater more = (h.0, more)

born_or-below : (n : ℕ) (k : KeyView) (es : List Stored) → Each (BornBelow n) es → (o : Option Stored) → find k es ≡ o → born_or o n < n + 1
born_or-below n k es h None is = omega arith
born_or-below n k es h (Some e) is = let below = each-find (BornBelow n) k es e h is in omega (arith, below)

born-effect : (n : ℕ) (i : Item) (s : State) → Each (BornBelow n) s.objects → Each (BornBelow (number_after n i)) (effect n i s).objects
born-effect n (entry (Create k h w)) s b =
    each-put (BornBelow (n + 1)) (record { key = k; h = h; number = n; at = s.flags.storage; born = n; weight = w }) s.objects (omega arith)
    (later n (n + 1) (omega arith) s.objects b)
born-effect n (entry (Replace k over h w)) s b =
    each-put (BornBelow (n + 1)) (record { key = k; h = h; number = n; at = s.flags.storage; born = born_or (find k s.objects) n; weight = w }) s.objects
    (born_or-below n k s.objects b (find k s.objects) refl) (later n (n + 1) (omega arith) s.objects b)
born-effect n (entry (Mark k over stamp)) s b =
    each-updated (BornBelow (n + 1)) (marked_at n s.flags.storage stamp) k s.objects (λ e h. h) (later n (n + 1) (omega arith) s.objects b)
born-effect n (entry (Release k over)) s b = each-without (BornBelow (n + 1)) k s.objects (later n (n + 1) (omega arith) s.objects b)
born-effect n (entry (Touch k c)) s b =
    each-updated (BornBelow (n + 1)) (moved n (target_of s)) k s.objects (λ e h. h) (later n (n + 1) (omega arith) s.objects b)
born-effect n (entry (Delete k)) s b = each-without (BornBelow (n + 1)) k s.objects (later n (n + 1) (omega arith) s.objects b)
born-effect n (entry (SetVersions f)) s b = by (nat_eq f.storage s.flags.storage)
  where
    by : (x : Bool) → Each (BornBelow (n + 1)) (if x then record s { flags = f } else moved_storage f s).objects
    by true = later n (n + 1) (omega arith) s.objects b
    by false = later n (n + 1) (omega arith) s.objects b
born-effect n (entry (Trim keep)) s b = later n (n + 1) (omega arith) s.objects b
born-effect n (entry (StartMigration name)) s b = later n (n + 1) (omega arith) s.objects b
born-effect n (entry MarkSucceeded) s b = later n (n + 1) (omega arith) s.objects b
born-effect n (note (Claim c)) s b = b
born-effect n (note (RangeDone c)) s b = b
born-effect n (note (GiveBack c)) s b = b

pub born-from : (n : ℕ) (s : State) (log : List Item) → Each (BornBelow n) s.objects → Each (BornBelow (number_from n log)) (state_from n s log).objects
born-from n s [] b = b
born-from n s (i ∷ log) b = born-from (number_after n i) (effect n i s) log (born-effect n i s b)

-- an object was created by an entry that isn't numbered above the revision
pub born-within : (m : Meaning) (log : List Item) (k : KeyView) (e : Stored) → find k (state m log).objects ≡ Some e → e.born ≤ revision log
born-within m log k e is =
    let below = each-find (BornBelow (next_number log)) k (state m log).objects e (born-from 2 (opening m) log tt) is in
    let next = next_number-revision log in
    omega (arith, below, next)
