-- What stands at the storage version, while that stays.
use Rattle.std.proofs.Common.{◌≡◌, ◌≢◌, inl, inr, None, ℕ, ◌+◌, ◌≤◌, List, [], ◌∷◌, ◌++◌, Some, Bool, true, false, ap, refl, sym, ◌∙◌, subst, arith, eq-eqb}
use Rattle.std.specs.Prelude.{if◌then◌else◌, nat_eq, ◌&&◌, not, ◌⊎◌}
use Rattle.std.specs.Ordering.{match_ordering}
use Rattle.std.specs.declared.cmp.Ordering.{Ordering}
use Rattle.std.specs.declared.cmp.Ordering.TheVariants.{Less, Equal, Greater}
use Rattle.kube_meta.specs.Key.{KeyView, key_cmp}
use Rattle.kube_meta.specs.Plan.{Span, Migration, in_span, runs, running, ended}
use Rattle.kube_meta.specs.declared.limits.Limits.{Limits}
use Rattle.kube_meta.specs.declared.limits.Condition.{Condition}
use Rattle.kube_meta.specs.declared.limits.Condition.TheVariants.{Running, Succeeded, Failed}
use Rattle.api_calls.specs.Meaning.{Meaning}
use Rattle.api_calls.specs.Item.{Create, Replace, Mark, Release, Touch, Delete, SetVersions, Trim, StartMigration, MarkSucceeded, Claim, RangeDone, GiveBack, Item, entry, note}
use Rattle.api_calls.specs.Objects.{Stored, find, put, without, updated, moved, marked_at, elsewhere, born_or}
use Rattle.api_calls.specs.State.{State, has, target_of, moved_storage, effect, number_after, number_from, next_number, opening, state_from, state}
use Rattle.api_calls.specs.Legal.{Each, MayTouch, MaySucceed, MayStart, guard, legal_from, legal}
use Rattle.api_calls.specs.LegalLists.{IsRising, IsSoundState, KeepsStorage, away, is_touch, is_named, touches_of}
use Rattle.std.specs.Str.{bytes_eq}
use Rattle.std.proofs.lemmas.Slice.Eq.{bytes_eq-Decides}
use Rattle.api_calls.proofs.Order.{itself, chain, same_left}
use Rattle.api_calls.proofs.Lists.{each, each-put, each-without, each-updated}
use Rattle.api_calls.proofs.Parts.{state_from-append, legal_from-append}
use Rattle.api_calls.proofs.Sound.{sound-step, sound-from, sound-opening, number, touch_target, started, none-ended}

-- ---- after a success

pub record AllAt (v : ℕ) (s : State) : Type 0 where
  pub storage : s.flags.storage ≡ v
  pub all : Each (λ e. e.at ≡ v) s.objects

pub at-step : (n v : ℕ) (i : Item) (s : State) → IsSoundState s → KeepsStorage v i → AllAt v s → AllAt v (effect n i s)
at-step n v (entry (Create k h w)) s sound keeps a = record {
  storage = a.storage;
  all = each-put (λ e. e.at ≡ v) (record { key = k; h = h; number = n; at = s.flags.storage; born = n; weight = w }) s.objects a.storage a.all;
}
at-step n v (entry (Replace k over h w)) s sound keeps a = record {
  storage = a.storage;
  all = each-put (λ e. e.at ≡ v) (record { key = k; h = h; number = n; at = s.flags.storage; born = born_or (find k s.objects) n; weight = w }) s.objects a.storage a.all;
}
at-step n v (entry (Mark k over stamp)) s sound keeps a = record {
  storage = a.storage;
  all = each-updated (λ e. e.at ≡ v) (marked_at n s.flags.storage stamp) k s.objects (λ e p. a.storage) a.all;
}
at-step n v (entry (Release k over)) s sound keeps a = record { storage = a.storage; all = each-without (λ e. e.at ≡ v) k s.objects a.all }
at-step n v (entry (Touch k c)) s sound keeps a = record {
  storage = a.storage;
  all = each-updated (λ e. e.at ≡ v) (moved n (target_of s)) k s.objects (λ e p. touch_target s sound ∙ a.storage) a.all;
}
at-step n v (entry (Delete k)) s sound keeps a = record { storage = a.storage; all = each-without (λ e. e.at ≡ v) k s.objects a.all }
at-step n v (entry (SetVersions f)) s sound keeps a = by (nat_eq f.storage s.flags.storage)
  where
    by : (b : Bool) → AllAt v (if b then record s { flags = f } else moved_storage f s)
    by true = record { storage = keeps; all = a.all }
    by false = record { storage = keeps; all = a.all }
at-step n v (entry (Trim keep)) s sound keeps a = record { storage = a.storage; all = a.all }
at-step n v (entry (StartMigration name)) s sound keeps a = record { storage = a.storage; all = a.all }
at-step n v (entry MarkSucceeded) s sound keeps a = record { storage = a.storage; all = a.all }
at-step n v (note (Claim c)) s sound keeps a = record { storage = a.storage; all = a.all }
at-step n v (note (RangeDone c)) s sound keeps a = record { storage = a.storage; all = a.all }
at-step n v (note (GiveBack c)) s sound keeps a = record { storage = a.storage; all = a.all }

pub at-from : (m : Meaning) (limits : Limits) (n v : ℕ) (s : State) (log : List Item) → legal_from m limits n s log → IsSoundState s → Each (KeepsStorage v) log → AllAt v s
    → AllAt v (state_from n s log)
at-from m limits n v s [] l sound keeps a = a
at-from m limits n v s (i ∷ log) l sound keeps a =
    at-from m limits (number_after n i) v (effect n i s) log l.1 (sound-step m limits n i s l.0 sound) keeps.1 (at-step n v i s sound keeps.0 a)

pub at-mark : (limits : Limits) (meaning : Meaning) (n : ℕ) (s : State) (log : List Item) (m : Migration) → legal_from meaning limits n s (entry MarkSucceeded ∷ log) → IsSoundState s
    → running s.migrations ≡ Some m → Each (KeepsStorage m.target) log → Each (λ e. e.at ≡ m.target) (state_from n s (entry MarkSucceeded ∷ log)).objects
at-mark limits meaning n s log m l sound is keeps =
    let g : MaySucceed s = l.0 in
    let same : g.migration ≡ m = let both : Some g.migration ≡ Some m = sym g.runs ∙ is in cc in
    let t : g.migration.target ≡ m.target = ap (λ (q : Migration). q.target) same in
    let a : AllAt m.target (effect n (entry MarkSucceeded) s) = record {
      storage = sym g.target ∙ t;
      all = each (λ e. e.at ≡ g.migration.target) (λ e. e.at ≡ m.target) s.objects g.stands (λ e p. p ∙ t);
    } in
    (at-from meaning limits (n + 1) m.target (effect n (entry MarkSucceeded) s) log l.1 (sound-step meaning limits n (entry MarkSucceeded) s l.0 sound) keeps a).all

pub succeeded-all : (meaning : Meaning) (limits : Limits) (before after : List Item) (m : Migration) → legal meaning limits (before ++ entry MarkSucceeded ∷ after)
    → running (state meaning before).migrations ≡ Some m → Each (KeepsStorage m.target) after
    → Each (λ e. e.at ≡ m.target) (state meaning (before ++ entry MarkSucceeded ∷ after)).objects
succeeded-all meaning limits before after m l is keeps =
    let parts = legal_from-append meaning limits 2 (opening meaning) before (entry MarkSucceeded ∷ after) l in
    subst (λ (s : State). Each (λ e. e.at ≡ m.target) s.objects) (sym (state_from-append 2 (opening meaning) before (entry MarkSucceeded ∷ after)))
    (at-mark limits meaning (number_from 2 before) (state meaning before) after m parts.1 (sound-from meaning limits 2 (opening meaning) before parts.0 (sound-opening meaning)) is keeps)

-- ---- touches

away-put : (v : ℕ) (x : Stored) (es : List Stored) → nat_eq x.at v ≡ true → away v (put x es) ≤ away v es
away-put v x [] h = rw h (omega arith)
away-put v x (e ∷ es) h = by (key_cmp x.key e.key) (away-put v x es h)
  where
    by : (o : Ordering) → away v (put x es) ≤ away v es → away v (match_ordering o (x ∷ e ∷ es) (x ∷ es) (e ∷ put x es)) ≤ away v (e ∷ es)
    by Less more = rw h (omega arith)
    by Equal more = rw h (omega arith)
    by Greater more = omega (arith, more)

away-updated : (v : ℕ) (f : Stored → Stored) (k : KeyView) (es : List Stored) → ((e : Stored) → nat_eq (f e).at v ≡ true) → away v (updated f k es) ≤ away v es
away-updated v f k [] at = omega arith
away-updated v f k (e ∷ es) at = by (key_cmp k e.key) (away-updated v f k es at)
  where
    by : (o : Ordering) → away v (updated f k es) ≤ away v es → away v (match_ordering o (e ∷ es) (f e ∷ es) (e ∷ updated f k es)) ≤ away v (e ∷ es)
    by Less more = omega arith
    by Equal more = let there = at e in rw there (omega arith)
    by Greater more = omega (arith, more)

away-without : (v : ℕ) (k : KeyView) (es : List Stored) → away v (without k es) ≤ away v es
away-without v k [] = omega arith
away-without v k (e ∷ es) = by (key_cmp k e.key) (away-without v k es)
  where
    by : (o : Ordering) → away v (without k es) ≤ away v es → away v (match_ordering o (e ∷ es) es (e ∷ without k es)) ≤ away v (e ∷ es)
    by Less more = omega arith
    by Equal more = omega arith
    by Greater more = omega (arith, more)

pub each-elsewhere : (P : Stored → Type 0) (r : Span) (v : ℕ) (es : List Stored) (f : Stored) → Each P es → elsewhere r v es ≡ Some f → P f
each-elsewhere P r v [] f h is = cc
each-elsewhere P r v (e ∷ es) f h is = by (in_span r e.key && not (nat_eq e.at v)) is (each-elsewhere P r v es f h.1)
  where
    by : (b : Bool) → (if b then Some e else elsewhere r v es) ≡ Some f → (elsewhere r v es ≡ Some f → P f) → P f
    by true is more = let same : e ≡ f = cc in subst P same h.0
    by false is more = more is

away-touched : (r : Span) (n v : ℕ) (k : KeyView) (es : List Stored) (first : Stored) → first.key ≡ k → IsRising es → elsewhere r v es ≡ Some first
    → away v (updated (moved n v) k es) + 1 ≤ away v es
away-touched r n v k [] first under rising is = cc
away-touched r n v k (e ∷ es) first under rising is =
    by (key_cmp k e.key) refl (in_span r e.key) (nat_eq e.at v) refl is (λ found. away-touched r n v k es first under rising.1 found)
  where
    not_less : key_cmp k first.key ≡ Less → ⊥
    not_less h = let e1 : key_cmp k k ≡ Less = ap (key_cmp k) (sym under) ∙ h in let e2 = itself k in cc

    here : e ≡ first → key_cmp k e.key ≡ Equal
    here same = ap (key_cmp k) (ap (λ (f : Stored). f.key) same ∙ under) ∙ itself k

    by : (o : Ordering) → key_cmp k e.key ≡ o → (a b : Bool) → nat_eq e.at v ≡ b → (if a && not b then Some e else elsewhere r v es) ≡ Some first
        → (elsewhere r v es ≡ Some first → away v (updated (moved n v) k es) + 1 ≤ away v es)
        → away v (match_ordering o (e ∷ es) (record e { number = n; at = v } ∷ es) (e ∷ updated (moved n v) k es)) + 1 ≤ (if b then 0 else 1) + away v es
    by Less o true false is_b found more = let same : e ≡ first = cc in let q = here same in cc
    by Less o true true is_b found more =
        absurd (not_less (chain k e.key first.key o (each-elsewhere (λ f. key_cmp e.key f.key ≡ Less) r v es first rising.0 found)))
    by Less o false b is_b found more =
        absurd (not_less (chain k e.key first.key o (each-elsewhere (λ f. key_cmp e.key f.key ≡ Less) r v es first rising.0 found)))
    by Equal o true false is_b found more = let one : nat_eq v v ≡ true = eq-eqb v v refl in rw one (omega arith)
    by Equal o true true is_b found more =
        absurd (not_less (same_left k e.key first.key o (each-elsewhere (λ f. key_cmp e.key f.key ≡ Less) r v es first rising.0 found)))
    by Equal o false b is_b found more =
        absurd (not_less (same_left k e.key first.key o (each-elsewhere (λ f. key_cmp e.key f.key ≡ Less) r v es first rising.0 found)))
    by Greater o true false is_b found more = let same : e ≡ first = cc in let q = here same in cc
    by Greater o true true is_b found more = rw is_b (omega (arith, more found))
    by Greater o false true is_b found more = rw is_b (omega (arith, more found))
    by Greater o false false is_b found more = rw is_b (omega (arith, more found))

abbrev one_if : Bool → ℕ
one_if b = if b then 1 else 0

away-touch : (n v : ℕ) (k : KeyView) (c : ℕ) (s : State) → MayTouch k c s → IsSoundState s → s.flags.storage ≡ v → 1 + away v (updated (moved n (target_of s)) k s.objects) ≤ away v s.objects
away-touch n v k c s g sound at =
    let first : elsewhere g.claim.span s.flags.storage s.objects ≡ Some g.first =
    subst (λ (t : ℕ). elsewhere g.claim.span t s.objects ≡ Some g.first) (sound.plan g.claim.migration g.claim.runs).target g.is_first in
    let fewer = away-touched g.claim.span n s.flags.storage k s.objects g.first g.under sound.rising first in
    let there : 1 + away v (updated (moved n s.flags.storage) k s.objects) ≤ away v s.objects =
    subst (λ (t : ℕ). 1 + away t (updated (moved n s.flags.storage) k s.objects) ≤ away t s.objects) at (omega (arith, fewer)) in
    subst (λ (t : ℕ). 1 + away v (updated (moved n t) k s.objects) ≤ away v s.objects) (sym (touch_target s sound)) there

-- a touch takes one object off those that stand elsewhere, and no item that keeps the storage version adds one
away-step : (m : Meaning) (limits : Limits) (n v : ℕ) (i : Item) (s : State) → guard m limits s i → IsSoundState s → KeepsStorage v i → s.flags.storage ≡ v
    → (one_if (is_touch i) + away v (effect n i s).objects ≤ away v s.objects) × ((effect n i s).flags.storage ≡ v)
away-step m limits n v (entry (Create k h w)) s g sound keeps at =
    (omega (arith, away-put v (record { key = k; h = h; number = n; at = s.flags.storage; born = n; weight = w }) s.objects (eq-eqb s.flags.storage v at)), at)
away-step m limits n v (entry (Replace k over h w)) s g sound keeps at =
    (omega (arith, away-put v (record { key = k; h = h; number = n; at = s.flags.storage; born = born_or (find k s.objects) n; weight = w }) s.objects (eq-eqb s.flags.storage v at)), at)
away-step m limits n v (entry (Mark k over stamp)) s g sound keeps at =
    (omega (arith, away-updated v (marked_at n s.flags.storage stamp) k s.objects (λ e. eq-eqb s.flags.storage v at)), at)
away-step m limits n v (entry (Release k over)) s g sound keeps at = (omega (arith, away-without v k s.objects), at)
away-step m limits n v (entry (Touch k c)) s g sound keeps at = (away-touch n v k c s g sound at, at)
away-step m limits n v (entry (Delete k)) s g sound keeps at = (omega (arith, away-without v k s.objects), at)
away-step m limits n v (entry (SetVersions f)) s g sound keeps at = by (nat_eq f.storage s.flags.storage)
  where
    by : (b : Bool) → (0 + away v (if b then record s { flags = f } else moved_storage f s).objects ≤ away v s.objects)
        × ((if b then record s { flags = f } else moved_storage f s).flags.storage ≡ v)
    by true = (omega arith, keeps)
    by false = (omega arith, keeps)
away-step m limits n v (entry (Trim keep)) s g sound keeps at = (omega arith, at)
away-step m limits n v (entry (StartMigration name)) s g sound keeps at = (omega arith, at)
away-step m limits n v (entry MarkSucceeded) s g sound keeps at = (omega arith, at)
away-step m limits n v (note (Claim c)) s g sound keeps at = (omega arith, at)
away-step m limits n v (note (RangeDone c)) s g sound keeps at = (omega arith, at)
away-step m limits n v (note (GiveBack c)) s g sound keeps at = (omega arith, at)

-- ---- the touches of one migration

-- a migration has this name
abbrev HasName : List ℕ → List Migration → Type 0
HasName name [] = ⊥
HasName name (m ∷ ms) = (m.name ≡ name) ⊎ HasName name ms

-- the migration of this name was started, and doesn't run
record IsOver (name : List ℕ) (ms : List Migration) : Type 0 where
  started : HasName name ms
  over : is_named name (running ms) ≡ false

name-ended : (name : List ℕ) (c : Condition) (ms : List Migration) → HasName name ms → HasName name (ended c ms)
name-ended name c [] h = absurd h
name-ended name c (m ∷ ms) h = by (runs m.condition) h (name-ended name c ms)
  where
    by : (b : Bool) → (m.name ≡ name) ⊎ HasName name ms → (HasName name ms → HasName name (ended c ms))
        → ((if b then record m { condition = c } else m).name ≡ name) ⊎ HasName name (ended c ms)
    by true (inl is) more = inl is
    by false (inl is) more = inl is
    by b (inr h) more = inr (more h)

name-more : (name : List ℕ) (m : Migration) (ms : List Migration) → HasName name ms → HasName name (ms ++ m ∷ [])
name-more name m [] h = absurd h
name-more name m (l ∷ ms) (inl is) = inl is
name-more name m (l ∷ ms) (inr h) = inr (name-more name m ms h)

name-last : (name : List ℕ) (m : Migration) (ms : List Migration) → m.name ≡ name → HasName name (ms ++ m ∷ [])
name-last name m [] is = inl is
name-last name m (l ∷ ms) is = inr (name-last name m ms is)

other : (name new : List ℕ) (ms : List Migration) → HasName name ms → Each (λ m. m.name ≢ new) ms → new ≢ name
other name new [] h fresh is = h
other name new (m ∷ ms) (inl same) fresh is = fresh.0 (same ∙ sym is)
other name new (m ∷ ms) (inr h) fresh is = other name new ms h fresh.1 is

over-ended : (name : List ℕ) (c : Condition) (ms : List Migration) → runs c ≡ false → HasName name ms → IsOver name (ended c ms)
over-ended name c ms h started = record {
  started = name-ended name c ms started;
  over = let none = none-ended c ms h in ap (is_named name) none;
}

unequal : (a b : List ℕ) → a ≢ b → bytes_eq a b ≡ false
unequal a b ne = by (bytes_eq a b) refl
  where
    by : (q : Bool) → bytes_eq a b ≡ q → q ≡ false
    by true is = absurd (ne ((bytes_eq-Decides a b).0 is))
    by false is = refl

over-started : (limits : Limits) (name new : List ℕ) (s : State) → MayStart limits new s → IsOver name s.migrations
    → IsOver name (s.migrations ++ record { name = new; target = s.flags.storage; condition = Running } ∷ [])
over-started limits name new s g o =
    let m : Migration = record { name = new; target = s.flags.storage; condition = Running } in
    let runs_now = started s.migrations (record { name = new; target = s.flags.storage; condition = Running }) g.idle refl in
    record {
      started = name-more name (record { name = new; target = s.flags.storage; condition = Running }) s.migrations o.started;
      over = ap (is_named name) runs_now.0 ∙ unequal new name (other name new s.migrations o.started g.fresh);
    }

over-step : (m : Meaning) (limits : Limits) (n : ℕ) (name : List ℕ) (i : Item) (s : State) → guard m limits s i → IsOver name s.migrations → IsOver name (effect n i s).migrations
over-step m limits n name (entry (Create k h w)) s g o = o
over-step m limits n name (entry (Replace k over h w)) s g o = o
over-step m limits n name (entry (Mark k over stamp)) s g o = o
over-step m limits n name (entry (Release k over)) s g o = o
over-step m limits n name (entry (Touch k c)) s g o = o
over-step m limits n name (entry (Delete k)) s g o = o
over-step m limits n name (entry (SetVersions f)) s g o = by (nat_eq f.storage s.flags.storage)
  where
    by : (b : Bool) → IsOver name (if b then record s { flags = f } else moved_storage f s).migrations
    by true = o
    by false = over-ended name Failed s.migrations refl o.started
over-step m limits n name (entry (Trim keep)) s g o = o
over-step m limits n name (entry (StartMigration new)) s g o = over-started limits name new s g o
over-step m limits n name (entry MarkSucceeded) s g o = over-ended name Succeeded s.migrations refl o.started
over-step m limits n name (note (Claim c)) s g o = o
over-step m limits n name (note (RangeDone c)) s g o = o
over-step m limits n name (note (GiveBack c)) s g o = o

not_both : (a b : Bool) → b ≡ false → one_if (a && b) ≡ 0
not_both true b is = rw is refl
not_both false b is = refl

none-from : (m : Meaning) (limits : Limits) (n : ℕ) (name : List ℕ) (s : State) (log : List Item) → legal_from m limits n s log → IsOver name s.migrations → touches_of name n s log ≡ 0
none-from m limits n name s [] l o = refl
none-from m limits n name s (i ∷ log) l o =
    let here = not_both (is_touch i) (is_named name (running s.migrations)) o.over in
    let more = none-from m limits (number_after n i) name (effect n i s) log l.1 (over-step m limits n name i s l.0 o) in
    omega (arith, here, more)

-- while a migration runs: it goes on and the storage version stays, or it is over
record GoesOn (name : List ℕ) (i : Item) (s t : State) (q : Migration) : Type 0 where
  keeps : KeepsStorage s.flags.storage i
  started : HasName name t.migrations
  runs : running t.migrations ≡ Some q

abbrev Goes : List ℕ → Item → State → State → Migration → Type 0
Goes name i s t q = GoesOn name i s t q ⊎ (IsOver name t.migrations × (is_touch i ≡ false))

goes : (m : Meaning) (limits : Limits) (n : ℕ) (name : List ℕ) (i : Item) (s : State) (q : Migration) → guard m limits s i → HasName name s.migrations → running s.migrations ≡ Some q
    → Goes name i s (effect n i s) q
goes m limits n name (entry (Create k h w)) s q g has is = inl (record { keeps = refl; started = has; runs = is })
goes m limits n name (entry (Replace k over h w)) s q g has is = inl (record { keeps = refl; started = has; runs = is })
goes m limits n name (entry (Mark k over stamp)) s q g has is = inl (record { keeps = refl; started = has; runs = is })
goes m limits n name (entry (Release k over)) s q g has is = inl (record { keeps = refl; started = has; runs = is })
goes m limits n name (entry (Touch k c)) s q g has is = inl (record { keeps = refl; started = has; runs = is })
goes m limits n name (entry (Delete k)) s q g has is = inl (record { keeps = refl; started = has; runs = is })
goes m limits n name (entry (SetVersions f)) s q g has is = by (nat_eq f.storage s.flags.storage) refl
  where
    by : (b : Bool) → nat_eq f.storage s.flags.storage ≡ b → Goes name (entry (SetVersions f)) s (if b then record s { flags = f } else moved_storage f s) q
    by true same = inl (record { keeps = number f.storage s.flags.storage same; started = has; runs = is })
    by false same = inr (over-ended name Failed s.migrations refl has, refl)
goes m limits n name (entry (Trim keep)) s q g has is = inl (record { keeps = refl; started = has; runs = is })
goes m limits n name (entry (StartMigration new)) s q g has is = let idle = g.idle in let both : None ≡ Some q = sym idle ∙ is in cc
goes m limits n name (entry MarkSucceeded) s q g has is = inr (over-ended name Succeeded s.migrations refl has, refl)
goes m limits n name (note (Claim c)) s q g has is = inl (record { keeps = tt; started = has; runs = is })
goes m limits n name (note (RangeDone c)) s q g has is = inl (record { keeps = tt; started = has; runs = is })
goes m limits n name (note (GiveBack c)) s q g has is = inl (record { keeps = tt; started = has; runs = is })

at_most : (a b : Bool) → one_if (a && b) ≤ one_if a
at_most true true = omega arith
at_most true false = omega arith
at_most false b = omega arith

few-from : (m : Meaning) (limits : Limits) (n v : ℕ) (name : List ℕ) (s : State) (log : List Item) (q : Migration) → legal_from m limits n s log → IsSoundState s → s.flags.storage ≡ v
    → HasName name s.migrations → running s.migrations ≡ Some q → touches_of name n s log ≤ away v s.objects
few-from m limits n v name s [] q l sound at has is = omega arith
few-from m limits n v name s (i ∷ log) q l sound at has is =
    by (goes m limits n name i s q l.0 has is) (few-from m limits (number_after n i) v name (effect n i s) log q l.1 (sound-step m limits n i s l.0 sound))
  where
    b : Bool
    b = is_named name (running s.migrations)

    rest : ℕ
    rest = touches_of name (number_after n i) (effect n i s) log

    by : Goes name i s (effect n i s) q
        → ((effect n i s).flags.storage ≡ v → HasName name (effect n i s).migrations → running (effect n i s).migrations ≡ Some q
        → touches_of name (number_after n i) (effect n i s) log ≤ away v (effect n i s).objects)
        → one_if (is_touch i && is_named name (running s.migrations)) + touches_of name (number_after n i) (effect n i s) log ≤ away v s.objects
    by (inl g) more =
        let keeps : KeepsStorage v i = subst (λ (w : ℕ). KeepsStorage w i) at g.keeps in
        let step = away-step m limits n v i s l.0 sound keeps at in
        let left = more step.1 g.started g.runs in
        let one = at_most (is_touch i) (is_named name (running s.migrations)) in
        omega (arith, step.0, left, one)
    by (inr o) more =
        let none = none-from m limits (number_after n i) name (effect n i s) log l.1 o.0 in
        let here : one_if (is_touch i && is_named name (running s.migrations)) ≡ 0 = ap (λ (c : Bool). one_if (c && is_named name (running s.migrations))) o.1 in
        omega (arith, none, here)

pub few-all : (meaning : Meaning) (limits : Limits) (before after : List Item) (name : List ℕ) → legal meaning limits (before ++ entry (StartMigration name) ∷ after)
    → touches_of name (next_number before + 1) (effect (next_number before) (entry (StartMigration name)) (state meaning before)) after
    ≤ away (state meaning before).flags.storage (state meaning before).objects
few-all meaning limits before after name l =
    let parts = legal_from-append meaning limits 2 (opening meaning) before (entry (StartMigration name) ∷ after) l in
    let s = state meaning before in
    let sound = sound-from meaning limits 2 (opening meaning) before parts.0 (sound-opening meaning) in
    let runs_now = started (state meaning before).migrations (record { name = name; target = (state meaning before).flags.storage; condition = Running }) parts.1.0.idle refl in
    few-from meaning limits (next_number before + 1) (state meaning before).flags.storage name
    (effect (next_number before) (entry (StartMigration name)) (state meaning before)) after
    (record { name = name; target = (state meaning before).flags.storage; condition = Running }) parts.1.1
    (sound-step meaning limits (next_number before) (entry (StartMigration name)) (state meaning before) parts.1.0 sound) refl
    (name-last name (record { name = name; target = (state meaning before).flags.storage; condition = Running }) (state meaning before).migrations refl)
    runs_now.0
