-- How many objects and migrations a legal list has.
use Rattle.std.proofs.Common.{◌≡◌, ◌∙◌, refl, sym, ap, ℕ, ◌+◌, ◌-◌, ◌<◌, ◌≤◌, Bool, true, false, nat_eq, nat_lt, List, [], ◌∷◌, ◌++◌, length, Option, None, Some, arith}
use Rattle.std.specs.Prelude.{if◌then◌else◌}
use Rattle.std.specs.Ordering.{match_ordering}
use Rattle.std.specs.declared.cmp.Ordering.{Ordering}
use Rattle.std.specs.declared.cmp.Ordering.TheVariants.{Less, Equal, Greater}
use Rattle.std.proofs.lemmas.Bool.Decides.{nat_tests}
use Rattle.kube_meta.specs.Key.{KeyView, key_cmp}
use Rattle.kube_meta.specs.Plan.{Migration, ended, runs}
use Rattle.kube_meta.specs.declared.limits.Condition.{Condition}
use Rattle.kube_meta.specs.declared.limits.Condition.TheVariants.{Running, Succeeded, Failed}
use Rattle.kube_meta.specs.declared.limits.Limits.{Limits}
use Rattle.kube_meta.specs.declared.limits.Room.{Room}
use Rattle.kube_meta.specs.Room as room
use Rattle.api_calls.specs.Item.{Create, Replace, Mark, Release, Touch, Delete, SetVersions, Trim, StartMigration, MarkSucceeded, Claim, RangeDone, GiveBack, Item, entry, note}
use Rattle.api_calls.specs.Legal.{guard, legal, legal_from}
use Rattle.api_calls.specs.Meaning.{Meaning}
use Rattle.api_calls.specs.Objects.{Stored, find, live, marked_at, moved, put, updated, without, born_or}
use Rattle.api_calls.specs.Room.{lacking, lacking_chunks, lacking_migrations}
use Rattle.api_calls.specs.State.{State, effect, moved_storage, number_after, opening, state, state_from, target_of}

pub record IsWithin (limits : Limits) (s : State) : Type 0 where
  pub objects : length s.objects ≤ limits.objects
  pub chunks : live s.objects ≤ limits.chunks
  pub migrations : length s.migrations ≤ limits.migrations

-- ---- objects that change

long-put : (x : Stored) (es : List Stored) → length (put x es) ≤ length es + 1
long-put x [] = omega arith
long-put x (e ∷ es) = by (key_cmp x.key e.key) (long-put x es)
  where
    by : (o : Ordering) → length (put x es) ≤ length es + 1 → length (match_ordering o (x ∷ e ∷ es) (x ∷ es) (e ∷ put x es)) ≤ length (e ∷ es) + 1
    by Less more = omega arith
    by Equal more = omega arith
    by Greater more = omega (arith, more)

-- no object more where one stands under the key
long-over : (x old : Stored) (es : List Stored) → find x.key es ≡ Some old → length (put x es) ≡ length es
long-over x old [] found = cc
long-over x old (e ∷ es) found = by (key_cmp x.key e.key) found (long-over x old es)
  where
    by : (o : Ordering) → match_ordering o None (Some e) (find x.key es) ≡ Some old → (find x.key es ≡ Some old → length (put x es) ≡ length es)
        → length (match_ordering o (x ∷ e ∷ es) (x ∷ es) (e ∷ put x es)) ≡ length (e ∷ es)
    by Less found more = cc
    by Equal found more = refl
    by Greater found more = omega (arith, more found)

long-without : (k : KeyView) (es : List Stored) → length (without k es) ≤ length es
long-without k [] = omega arith
long-without k (e ∷ es) = by (key_cmp k e.key) (long-without k es)
  where
    by : (o : Ordering) → length (without k es) ≤ length es → length (match_ordering o (e ∷ es) es (e ∷ without k es)) ≤ length (e ∷ es)
    by Less more = omega arith
    by Equal more = omega arith
    by Greater more = omega (arith, more)

long-updated : (f : Stored → Stored) (k : KeyView) (es : List Stored) → length (updated f k es) ≡ length es
long-updated f k [] = refl
long-updated f k (e ∷ es) = by (key_cmp k e.key) (long-updated f k es)
  where
    by : (o : Ordering) → length (updated f k es) ≡ length es → length (match_ordering o (e ∷ es) (f e ∷ es) (e ∷ updated f k es)) ≡ length (e ∷ es)
    by Less more = refl
    by Equal more = refl
    by Greater more = omega (arith, more)

live-put : (x : Stored) (es : List Stored) → live (put x es) ≤ live es + x.weight
live-put x [] = omega arith
live-put x (e ∷ es) = by (key_cmp x.key e.key) (live-put x es)
  where
    by : (o : Ordering) → live (put x es) ≤ live es + x.weight → live (match_ordering o (x ∷ e ∷ es) (x ∷ es) (e ∷ put x es)) ≤ live (e ∷ es) + x.weight
    by Less more = omega arith
    by Equal more = omega arith
    by Greater more = omega (arith, more)

live-over : (x old : Stored) (es : List Stored) → find x.key es ≡ Some old → live (put x es) + old.weight ≡ live es + x.weight
live-over x old [] found = cc
live-over x old (e ∷ es) found = by (key_cmp x.key e.key) found (live-over x old es)
  where
    by : (o : Ordering) → match_ordering o None (Some e) (find x.key es) ≡ Some old → (find x.key es ≡ Some old → live (put x es) + old.weight ≡ live es + x.weight)
        → live (match_ordering o (x ∷ e ∷ es) (x ∷ es) (e ∷ put x es)) + old.weight ≡ live (e ∷ es) + x.weight
    by Less found more = cc
    by Equal found more = let same : e ≡ old = cc in let w : e.weight ≡ old.weight = ap (λ (q : Stored). q.weight) same in omega (arith, w)
    by Greater found more = omega (arith, more found)

live-without : (k : KeyView) (es : List Stored) → live (without k es) ≤ live es
live-without k [] = omega arith
live-without k (e ∷ es) = by (key_cmp k e.key) (live-without k es)
  where
    by : (o : Ordering) → live (without k es) ≤ live es → live (match_ordering o (e ∷ es) es (e ∷ without k es)) ≤ live (e ∷ es)
    by Less more = omega arith
    by Equal more = omega arith
    by Greater more = omega (arith, more)

live-updated : (f : Stored → Stored) (k : KeyView) (es : List Stored) → ((e : Stored) → (f e).weight ≡ e.weight) → live (updated f k es) ≡ live es
live-updated f k [] same = refl
live-updated f k (e ∷ es) same = by (key_cmp k e.key) (live-updated f k es same)
  where
    by : (o : Ordering) → live (updated f k es) ≡ live es → live (match_ordering o (e ∷ es) (f e ∷ es) (e ∷ updated f k es)) ≡ live (e ∷ es)
    by Less more = refl
    by Equal more = ap (λ (w : ℕ). w + live es) (same e)
    by Greater more = ap (λ (w : ℕ). e.weight + w) more

-- ---- room

room_for : (limits : Limits) (used going w : ℕ) → room.lacking_chunks limits used going w ≡ None → w ≤ room.free_chunks limits used going
room_for limits used going w none = by (nat_lt (room.free_chunks limits used going) w) refl _ none
  where
    by : (b : Bool) → nat_lt (room.free_chunks limits used going) w ≡ b → (r : Room) → (if b then Some r else None) ≡ None → w ≤ room.free_chunks limits used going
    by true is r none = cc
    by false is r none = grind (arith, nat_tests)

-- for one more
room_for_one : (limits : Limits) (count used w : ℕ) → room.lacking limits count used w ≡ None → (count < limits.objects) × (w ≤ limits.chunks - used + 0)
room_for_one limits count used w none = by (nat_lt count limits.objects) refl _ none
  where
    by : (b : Bool) → nat_lt count limits.objects ≡ b → (r : Room) → (if b then room.lacking_chunks limits used 0 w else Some r) ≡ None
        → (count < limits.objects) × (w ≤ limits.chunks - used + 0)
    by true is r none = (grind (arith, nat_tests), room_for limits used 0 w none)
    by false is r none = cc

room_to_start : (limits : Limits) (ms : List Migration) → lacking_migrations limits ms ≡ None → length ms < limits.migrations
room_to_start limits ms none = by (nat_lt (length ms) limits.migrations) refl _ none
  where
    by : (b : Bool) → nat_lt (length ms) limits.migrations ≡ b → (r : Room) → (if b then None else Some r) ≡ None → length ms < limits.migrations
    by true is r none = grind (arith, nat_tests)
    by false is r none = cc

-- ---- migrations that change

long-ended : (c : Condition) (ms : List Migration) → length (ended c ms) ≡ length ms
long-ended c [] = refl
long-ended c (m ∷ ms) = omega (arith, long-ended c ms)

long-more : (ms : List Migration) (m : Migration) → length (ms ++ m ∷ []) ≡ length ms + 1
long-more [] m = refl
long-more (n ∷ ms) m = omega (arith, long-more ms m)

-- ---- histories

within-step : (m : Meaning) (limits : Limits) (n : ℕ) (i : Item) (s : State) → guard m limits s i → IsWithin limits s → IsWithin limits (effect n i s)
within-step m limits n (entry (Create k h w)) s g in' =
    let x : Stored = record { key = k; h = h; number = n; at = s.flags.storage; born = n; weight = w } in
    let fits = room_for_one limits (length s.objects) (live s.objects) w g.room in
    record {
      objects = omega (arith, long-put x s.objects, fits.0);
      chunks = omega (arith, live-put x s.objects, fits.1, in'.chunks);
      migrations = in'.migrations;
    }
within-step m limits n (entry (Replace k over h w)) s g in' =
    let old = g.stands.old in
    let x : Stored = record { key = k; h = h; number = n; at = s.flags.storage; born = born_or (find k s.objects) n; weight = w } in
    let fits = room_for limits (live s.objects) old.weight w g.room in
    record {
      objects = omega (arith, long-over x old s.objects g.stands.there, in'.objects);
      chunks = omega (arith, live-over x old s.objects g.stands.there, fits, in'.chunks);
      migrations = in'.migrations;
    }
within-step m limits n (entry (Mark k over stamp)) s g in' = record {
  objects = omega (arith, long-updated (marked_at n s.flags.storage stamp) k s.objects, in'.objects);
  chunks = omega (arith, live-updated (marked_at n s.flags.storage stamp) k s.objects (λ e. refl), in'.chunks);
  migrations = in'.migrations;
}
within-step m limits n (entry (Release k over)) s g in' = record {
  objects = omega (arith, long-without k s.objects, in'.objects);
  chunks = omega (arith, live-without k s.objects, in'.chunks);
  migrations = in'.migrations;
}
within-step m limits n (entry (Touch k c)) s g in' = record {
  objects = omega (arith, long-updated (moved n (target_of s)) k s.objects, in'.objects);
  chunks = omega (arith, live-updated (moved n (target_of s)) k s.objects (λ e. refl), in'.chunks);
  migrations = in'.migrations;
}
within-step m limits n (entry (Delete k)) s g in' = record {
  objects = omega (arith, long-without k s.objects, in'.objects);
  chunks = omega (arith, live-without k s.objects, in'.chunks);
  migrations = in'.migrations;
}
within-step m limits n (entry (SetVersions f)) s g in' = by (nat_eq f.storage s.flags.storage)
  where
    by : (b : Bool) → IsWithin limits (if b then record s { flags = f } else moved_storage f s)
    by true = record { objects = in'.objects; chunks = in'.chunks; migrations = in'.migrations }
    by false = record { objects = in'.objects; chunks = in'.chunks; migrations = omega (arith, long-ended Failed s.migrations, in'.migrations) }
within-step m limits n (entry (Trim keep)) s g in' = record { objects = in'.objects; chunks = in'.chunks; migrations = in'.migrations }
within-step m limits n (entry (StartMigration name)) s g in' =
    let one : Migration = record { name = name; target = s.flags.storage; condition = Running } in
    let fits = room_to_start limits s.migrations g.room in
    record { objects = in'.objects; chunks = in'.chunks; migrations = omega (arith, long-more s.migrations one, fits) }
within-step m limits n (entry MarkSucceeded) s g in' =
    record { objects = in'.objects; chunks = in'.chunks; migrations = omega (arith, long-ended Succeeded s.migrations, in'.migrations) }
within-step m limits n (note (Claim c)) s g in' = record { objects = in'.objects; chunks = in'.chunks; migrations = in'.migrations }
within-step m limits n (note (RangeDone c)) s g in' = record { objects = in'.objects; chunks = in'.chunks; migrations = in'.migrations }
within-step m limits n (note (GiveBack c)) s g in' = record { objects = in'.objects; chunks = in'.chunks; migrations = in'.migrations }

within-from : (m : Meaning) (limits : Limits) (n : ℕ) (s : State) (log : List Item) → legal_from m limits n s log → IsWithin limits s → IsWithin limits (state_from n s log)
within-from m limits n s [] l in' = in'
within-from m limits n s (i ∷ log) l in' = within-from m limits (number_after n i) (effect n i s) log l.1 (within-step m limits n i s l.0 in')

pub within-all : (m : Meaning) (limits : Limits) (log : List Item) → legal m limits log → IsWithin limits (state m log)
within-all m limits log l = within-from m limits 2 (opening m) log l (record { objects = omega arith; chunks = omega arith; migrations = omega arith })
