-- Snapshots, and what was superseded since.
use Rattle.std.proofs.Common.{◌≡◌, ℕ, ◌+◌, ◌<◌, ◌≤◌, List, [], ◌∷◌, ◌++◌, Option, None, Some, Bool, true, false, ap, refl, sym, ◌∙◌, arith, nat_lt, inl, inr}
use Rattle.std.specs.Prelude.{◌⊎◌, if◌then◌else◌, nat_eq, ◌↔◌}
use Rattle.std.proofs.lemmas.Bool.Decides.{nat_tests}
use Rattle.std.specs.Ordering.{match_ordering}
use Rattle.std.specs.declared.cmp.Ordering.{Ordering}
use Rattle.std.specs.declared.cmp.Ordering.TheVariants.{Less, Equal, Greater}
use Rattle.kube_meta.specs.Key.{KeyView, key_cmp}
use Rattle.kube_meta.specs.declared.limits.Limits.{Limits}
use Rattle.api_calls.specs.Meaning.{Meaning}
use Rattle.api_calls.specs.Item.{Entry, Create, Replace, Mark, Release, Touch, Delete, SetVersions, Trim, StartMigration, MarkSucceeded, Claim, RangeDone, GiveBack, Item, entry, note}
use Rattle.api_calls.specs.Objects.{Stored, find, put, without, updated, moved, marked_at, born_or}
use Rattle.api_calls.specs.State.{State, target_of, moved_storage, effect, number_after, number_from, next_number, opening, state_from, state}
use Rattle.api_calls.specs.Legal.{In, guard, legal_from, legal}
use Rattle.api_calls.specs.LegalLists.{IsRising, Holds}
use Rattle.api_calls.proofs.Order.{itself, behind}
use Rattle.api_calls.proofs.Numbers.{in_each, find-in, Old, old-step, old-from, IsNumbered, numbered-step, numbered-opening, later}
use Rattle.api_calls.proofs.Sound.{sound-from, sound-opening}
use Rattle.kube_meta.specs.Window.{RisesFrom, IsFloor, above}
use Rattle.kube_meta.specs.laws.WindowLaws.{is-floor, above-floor}
use Rattle.api_calls.specs.Snap.{upto, snap, Past, past, entry_past, item_past, superseded_from, superseded, by_number, past_weight, floor, window, Supersedes}

less : (a b : ℕ) → nat_lt a b ≡ true → a < b
less a b h = grind (arith, nat_tests)

is_less : (a b : ℕ) → a < b → nat_lt a b ≡ true
is_less a b h = grind (arith, nat_tests)

no_less : (a b : ℕ) → nat_lt a b ≡ false → b ≤ a
no_less a b h = grind (arith, nat_tests)

-- ---- numbers of what was superseded rise

rises_later : (f g : ℕ) (ps : List Past) → f ≤ g → RisesFrom by_number g ps → RisesFrom by_number f ps
rises_later f g [] le r = tt
rises_later f g (p ∷ ps) le r = (omega (arith, le, r.0), r.1)

rises-past : (f n : ℕ) (o : Option Stored) (ps : List Past) → f < n → RisesFrom by_number n ps → RisesFrom by_number f (past n o ++ ps)
rises-past f n None ps lt r = rises_later f n ps (omega (arith, lt)) r
rises-past f n (Some e) ps lt r = (lt, r)

rises : (f n : ℕ) (s : State) (log : List Item) → f < n → RisesFrom by_number f (superseded_from n s log)
rises f n s [] lt = tt
rises f n s (entry e ∷ log) lt = by e (rises n (n + 1) (effect n (entry e) s) log (omega arith))
  where
    by : (e : Entry) → RisesFrom by_number n (superseded_from (n + 1) (effect n (entry e) s) log)
        → RisesFrom by_number f (entry_past n e s ++ superseded_from (n + 1) (effect n (entry e) s) log)
    by (Create k h w) more = rises_later f n (superseded_from (n + 1) (effect n (entry (Create k h w)) s) log) (omega (arith, lt)) more
    by (Replace k over h w) more = rises-past f n (find k s.objects) (superseded_from (n + 1) (effect n (entry (Replace k over h w)) s) log) lt more
    by (Mark k over stamp) more = rises-past f n (find k s.objects) (superseded_from (n + 1) (effect n (entry (Mark k over stamp)) s) log) lt more
    by (Release k over) more = rises-past f n (find k s.objects) (superseded_from (n + 1) (effect n (entry (Release k over)) s) log) lt more
    by (Touch k c) more = rises-past f n (find k s.objects) (superseded_from (n + 1) (effect n (entry (Touch k c)) s) log) lt more
    by (Delete k) more = rises-past f n (find k s.objects) (superseded_from (n + 1) (effect n (entry (Delete k)) s) log) lt more
    by (SetVersions g) more = rises_later f n (superseded_from (n + 1) (effect n (entry (SetVersions g)) s) log) (omega (arith, lt)) more
    by (Trim keep) more = rises_later f n (superseded_from (n + 1) (effect n (entry (Trim keep)) s) log) (omega (arith, lt)) more
    by (StartMigration name) more = rises_later f n (superseded_from (n + 1) (effect n (entry (StartMigration name)) s) log) (omega (arith, lt)) more
    by MarkSucceeded more = rises_later f n (superseded_from (n + 1) (effect n (entry MarkSucceeded) s) log) (omega (arith, lt)) more
rises f n s (note x ∷ log) lt = rises f n (effect n (note x) s) log lt

pub floor-all : (m : Meaning) (limits : Limits) (log : List Item) → IsFloor by_number past_weight limits (superseded m log) (floor limits m log)
floor-all m limits log = is-floor by_number past_weight limits (superseded m log) (rises 1 2 (opening m) log (omega arith))

pub window-all : (m : Meaning) (limits : Limits) (log : List Item) → window limits m log ≡ above by_number (floor limits m log) (superseded m log)
window-all m limits log = sym (above-floor by_number past_weight limits 1 (superseded m log) (rises 1 2 (opening m) log (omega arith)))

-- ---- the past stays

-- behind the number there are notes alone
notes_only : (n r : ℕ) (s : State) (ys : List Item) → r < n → (state_from n s (upto n r ys)).objects ≡ s.objects
notes_only n r s [] lt = refl
notes_only n r s (entry e ∷ ys) lt = let t = is_less r n lt in rw t refl
notes_only n r s (note (Claim c) ∷ ys) lt = notes_only n r (effect n (note (Claim c)) s) ys lt
notes_only n r s (note (RangeDone c) ∷ ys) lt = notes_only n r (effect n (note (RangeDone c)) s) ys lt
notes_only n r s (note (GiveBack c) ∷ ys) lt = notes_only n r (effect n (note (GiveBack c)) s) ys lt

pub stays-from : (n r : ℕ) (s : State) (xs ys : List Item) → r < number_from n xs → (state_from n s (upto n r (xs ++ ys))).objects ≡ (state_from n s (upto n r xs)).objects
stays-from n r s [] ys lt = notes_only n r s ys lt
stays-from n r s (entry e ∷ xs) ys lt = by (nat_lt r n) (stays-from (n + 1) r (effect n (entry e) s) xs ys lt)
  where
    by : (b : Bool) → (state_from (n + 1) (effect n (entry e) s) (upto (n + 1) r (xs ++ ys))).objects ≡ (state_from (n + 1) (effect n (entry e) s) (upto (n + 1) r xs)).objects
        → (state_from n s (if b then [] else entry e ∷ upto (n + 1) r (xs ++ ys))).objects ≡ (state_from n s (if b then [] else entry e ∷ upto (n + 1) r xs)).objects
    by true more = refl
    by false more = more
stays-from n r s (note x ∷ xs) ys lt = stays-from n r (effect n (note x) s) xs ys lt

-- ---- what stood is there, or was superseded

in-put : (x e : Stored) (es : List Stored) → In e es → In e (put x es) ⊎ (find x.key es ≡ Some e)
in-put x e [] i = absurd i
in-put x e (f ∷ es) i = by (key_cmp x.key f.key) i (in-put x e es)
  where
    by : (o : Ordering) → In e (f ∷ es) → (In e es → In e (put x es) ⊎ (find x.key es ≡ Some e))
        → In e (match_ordering o (x ∷ f ∷ es) (x ∷ es) (f ∷ put x es)) ⊎ (match_ordering o None (Some f) (find x.key es) ≡ Some e)
    by Less i more = inl (inr i)
    by Equal (inl same) more = inr (ap (λ (q : Stored). Some q) (sym same))
    by Equal (inr i) more = inl (inr i)
    by Greater (inl same) more = inl (inl same)
    by Greater (inr i) more = elim (more i) [ inl there ↦ inl (inr there) | inr found ↦ inr found ]

in-without : (k : KeyView) (e : Stored) (es : List Stored) → In e es → In e (without k es) ⊎ (find k es ≡ Some e)
in-without k e [] i = absurd i
in-without k e (f ∷ es) i = by (key_cmp k f.key) i (in-without k e es)
  where
    by : (o : Ordering) → In e (f ∷ es) → (In e es → In e (without k es) ⊎ (find k es ≡ Some e))
        → In e (match_ordering o (f ∷ es) es (f ∷ without k es)) ⊎ (match_ordering o None (Some f) (find k es) ≡ Some e)
    by Less i more = inl i
    by Equal (inl same) more = inr (ap (λ (q : Stored). Some q) (sym same))
    by Equal (inr i) more = inl i
    by Greater (inl same) more = inl (inl same)
    by Greater (inr i) more = elim (more i) [ inl there ↦ inl (inr there) | inr found ↦ inr found ]

in-updated : (f : Stored → Stored) (k : KeyView) (e : Stored) (es : List Stored) → In e es → In e (updated f k es) ⊎ (find k es ≡ Some e)
in-updated f k e [] i = absurd i
in-updated f k e (g ∷ es) i = by (key_cmp k g.key) i (in-updated f k e es)
  where
    by : (o : Ordering) → In e (g ∷ es) → (In e es → In e (updated f k es) ⊎ (find k es ≡ Some e))
        → In e (match_ordering o (g ∷ es) (f g ∷ es) (g ∷ updated f k es)) ⊎ (match_ordering o None (Some g) (find k es) ≡ Some e)
    by Less i more = inl i
    by Equal (inl same) more = inr (ap (λ (q : Stored). Some q) (sym same))
    by Equal (inr i) more = inl (inr i)
    by Greater (inl same) more = inl (inl same)
    by Greater (inr i) more = elim (more i) [ inl there ↦ inl (inr there) | inr found ↦ inr found ]

-- what was found is superseded
past-of : (r n : ℕ) (e : Stored) (o : Option Stored) → o ≡ Some e → r < n → Supersedes r e (past n o)
past-of r n e None is lt = cc
past-of r n e (Some f) is lt = inl (lt, (let s : f ≡ e = cc in s))

or_past : (P : Type 0) (r n : ℕ) (e : Stored) (o : Option Stored) → r < n → P ⊎ (o ≡ Some e) → P ⊎ Supersedes r e (past n o)
or_past P r n e o lt (inl p) = inl p
or_past P r n e o lt (inr is) = inr (past-of r n e o is lt)

pub goes-step : (m : Meaning) (limits : Limits) (r n : ℕ) (e : Stored) (i : Item) (s : State) → r < n → guard m limits s i → In e s.objects
    → In e (effect n i s).objects ⊎ Supersedes r e (item_past n i s)
goes-step m limits r n e (entry (Create k h w)) s lt g i =
    elim (in-put (record { key = k; h = h; number = n; at = s.flags.storage; born = n; weight = w }) e s.objects i) [
      | inl there ↦ inl there
      | inr found ↦ (let absent = g.absent in cc)
    ]
goes-step m limits r n e (entry (Replace k over h w)) s lt g i =
    or_past (In e (effect n (entry (Replace k over h w)) s).objects) r n e (find k s.objects) lt
    (in-put (record { key = k; h = h; number = n; at = s.flags.storage; born = born_or (find k s.objects) n; weight = w }) e s.objects i)
goes-step m limits r n e (entry (Mark k over stamp)) s lt g i =
    or_past (In e (effect n (entry (Mark k over stamp)) s).objects) r n e (find k s.objects) lt (in-updated (marked_at n s.flags.storage stamp) k e s.objects i)
goes-step m limits r n e (entry (Release k over)) s lt g i =
    or_past (In e (effect n (entry (Release k over)) s).objects) r n e (find k s.objects) lt (in-without k e s.objects i)
goes-step m limits r n e (entry (Touch k c)) s lt g i =
    or_past (In e (effect n (entry (Touch k c)) s).objects) r n e (find k s.objects) lt (in-updated (moved n (target_of s)) k e s.objects i)
goes-step m limits r n e (entry (Delete k)) s lt g i =
    or_past (In e (effect n (entry (Delete k)) s).objects) r n e (find k s.objects) lt (in-without k e s.objects i)
goes-step m limits r n e (entry (SetVersions f)) s lt g i = by (nat_eq f.storage s.flags.storage)
  where
    by : (b : Bool) → In e (if b then record s { flags = f } else moved_storage f s).objects ⊎ ⊥
    by true = inl i
    by false = inl i
goes-step m limits r n e (entry (Trim keep)) s lt g i = inl i
goes-step m limits r n e (entry (StartMigration name)) s lt g i = inl i
goes-step m limits r n e (entry MarkSucceeded) s lt g i = inl i
goes-step m limits r n e (note (Claim c)) s lt g i = inl i
goes-step m limits r n e (note (RangeDone c)) s lt g i = inl i
goes-step m limits r n e (note (GiveBack c)) s lt g i = inl i

in_either : (r : ℕ) (e : Stored) (ps qs : List Past) → Supersedes r e (ps ++ qs) → Supersedes r e ps ⊎ Supersedes r e qs
in_either r e [] qs h = inr h
in_either r e (p ∷ ps) qs (inl h) = inl (inl h)
in_either r e (p ∷ ps) qs (inr h) = elim (in_either r e ps qs h) [ inl a ↦ inl (inr a) | inr b ↦ inr b ]

in_first : (r : ℕ) (e : Stored) (ps qs : List Past) → Supersedes r e ps → Supersedes r e (ps ++ qs)
in_first r e [] qs h = absurd h
in_first r e (p ∷ ps) qs (inl h) = inl h
in_first r e (p ∷ ps) qs (inr h) = inr (in_first r e ps qs h)

in_second : (r : ℕ) (e : Stored) (ps qs : List Past) → Supersedes r e qs → Supersedes r e (ps ++ qs)
in_second r e [] qs h = h
in_second r e (p ∷ ps) qs h = inr (in_second r e ps qs h)

later_lt : (r n : ℕ) (i : Item) → r < n → r < number_after n i
later_lt r n i lt = let up = later n i in omega (arith, up, lt)

pub goes-from : (m : Meaning) (limits : Limits) (r n : ℕ) (e : Stored) (s : State) (log : List Item) → r < n → legal_from m limits n s log → In e s.objects
    → In e (state_from n s log).objects ⊎ Supersedes r e (superseded_from n s log)
goes-from m limits r n e s [] lt l i = inl i
goes-from m limits r n e s (x ∷ log) lt l i =
    by (goes-step m limits r n e x s lt l.0 i) (goes-from m limits r (number_after n x) e (effect n x s) log (later_lt r n x lt) l.1)
  where
    rest : List Past
    rest = superseded_from (number_after n x) (effect n x s) log

    by : In e (effect n x s).objects ⊎ Supersedes r e (item_past n x s)
        → (In e (effect n x s).objects → In e (state_from (number_after n x) (effect n x s) log).objects ⊎ Supersedes r e (superseded_from (number_after n x) (effect n x s) log))
        → In e (state_from (number_after n x) (effect n x s) log).objects ⊎ Supersedes r e (item_past n x s ++ superseded_from (number_after n x) (effect n x s) log)
    by (inl there) more =
        elim (more there) [
          | inl a ↦ inl a
          | inr b ↦ inr (in_second r e (item_past n x s) (superseded_from (number_after n x) (effect n x s) log) b)
        ]
    by (inr gone) more = inr (in_first r e (item_past n x s) (superseded_from (number_after n x) (effect n x s) log) gone)

-- what an item supersedes stood
stood : (r n : ℕ) (e : Stored) (k : KeyView) (s : State) (o : Option Stored) → find k s.objects ≡ o → Supersedes r e (past n o) → In e s.objects
stood r n e k s None is h = absurd h
stood r n e k s (Some f) is (inl h) = find-in k s.objects e (is ∙ ap (λ (q : Stored). Some q) h.1)
stood r n e k s (Some f) is (inr h) = absurd h

pub stood-step : (r n : ℕ) (e : Stored) (i : Item) (s : State) → Supersedes r e (item_past n i s) → In e s.objects
stood-step r n e (entry (Create k h w)) s x = absurd x
stood-step r n e (entry (Replace k over h w)) s x = stood r n e k s (find k s.objects) refl x
stood-step r n e (entry (Mark k over stamp)) s x = stood r n e k s (find k s.objects) refl x
stood-step r n e (entry (Release k over)) s x = stood r n e k s (find k s.objects) refl x
stood-step r n e (entry (Touch k c)) s x = stood r n e k s (find k s.objects) refl x
stood-step r n e (entry (Delete k)) s x = stood r n e k s (find k s.objects) refl x
stood-step r n e (entry (SetVersions f)) s x = absurd x
stood-step r n e (entry (Trim keep)) s x = absurd x
stood-step r n e (entry (StartMigration name)) s x = absurd x
stood-step r n e (entry MarkSucceeded) s x = absurd x
stood-step r n e (note c) s x = absurd x

pub stood-from : (r n : ℕ) (e : Stored) (s : State) (log : List Item) → e.number < n → Supersedes r e (superseded_from n s log) → In e s.objects
stood-from r n e s [] lt x = absurd x
stood-from r n e s (i ∷ log) lt x =
    by (in_either r e (item_past n i s) (superseded_from (number_after n i) (effect n i s) log) x)
    (stood-from r (number_after n i) e (effect n i s) log (later_lt e.number n i lt))
  where
    by : Supersedes r e (item_past n i s) ⊎ Supersedes r e (superseded_from (number_after n i) (effect n i s) log)
        → (Supersedes r e (superseded_from (number_after n i) (effect n i s) log) → In e (effect n i s).objects) → In e s.objects
    by (inl now) more = stood-step r n e i s now
    by (inr after) more = in_each (Old n s.objects) e (effect n i s).objects (old-step n i s) (more after) lt

-- at the number itself: what comes from here on is numbered above it
abbrev pub Rebuilt : ℕ → Stored → ℕ → State → List Item → List Stored → Type 0
Rebuilt r e n s log es = In e es ↔ ((e.number ≤ r) × (In e (state_from n s log).objects ⊎ Supersedes r e (superseded_from n s log)))

at_number : (m : Meaning) (limits : Limits) (r n : ℕ) (e : Stored) (s : State) (log : List Item) → n ≡ r + 1 → IsNumbered n s → legal_from m limits n s log → Rebuilt r e n s log s.objects
at_number m limits r n e s log is num l = (
  λ i.
      let lt : e.number < n = in_each (λ q. q.number < n) e s.objects num.below i in
      (omega (arith, lt, is), goes-from m limits r n e s log (omega (arith, is)) l i),
  λ h.
      let lt : e.number < n = omega (arith, h.0, is) in
      elim h.1 [
        | inl there ↦ in_each (Old n s.objects) e (state_from n s log).objects (old-from n s log) there lt
        | inr gone ↦ stood-from r n e s log lt gone
      ],
)

-- nothing that comes earlier is told of
early : (r n : ℕ) (e : Stored) (o : Option Stored) → n ≤ r → Supersedes r e (past n o) → ⊥
early r n e None le h = h
early r n e (Some f) le (inl h) = omega (arith, le, h.0)
early r n e (Some f) le (inr h) = h

early-step : (r n : ℕ) (e : Stored) (x : Entry) (s : State) → n ≤ r → Supersedes r e (entry_past n x s) → ⊥
early-step r n e (Create k h w) s le x = x
early-step r n e (Replace k over h w) s le x = early r n e (find k s.objects) le x
early-step r n e (Mark k over stamp) s le x = early r n e (find k s.objects) le x
early-step r n e (Release k over) s le x = early r n e (find k s.objects) le x
early-step r n e (Touch k c) s le x = early r n e (find k s.objects) le x
early-step r n e (Delete k) s le x = early r n e (find k s.objects) le x
early-step r n e (SetVersions f) s le x = x
early-step r n e (Trim keep) s le x = x
early-step r n e (StartMigration name) s le x = x
early-step r n e MarkSucceeded s le x = x

pub rebuilt-from : (m : Meaning) (limits : Limits) (r n : ℕ) (e : Stored) (s : State) (log : List Item) → n ≤ r + 1 → r < number_from n log → IsNumbered n s → legal_from m limits n s log
    → Rebuilt r e n s log (state_from n s (upto n r log)).objects
rebuilt-from m limits r n e s [] le lt num l = at_number m limits r n e s [] (omega (arith, le, lt)) num l
rebuilt-from m limits r n e s (note x ∷ log) le lt num l = rebuilt-from m limits r n e (effect n (note x) s) log le lt (numbered-step n (note x) s num) l.1
rebuilt-from m limits r n e s (entry x ∷ log) le lt num l = by (nat_lt r n) refl (λ up. rebuilt-from m limits r (n + 1) e (effect n (entry x) s) log up lt (numbered-step n (entry x) s num) l.1)
  where
    by : (b : Bool) → nat_lt r n ≡ b → (n + 1 ≤ r + 1 → Rebuilt r e (n + 1) (effect n (entry x) s) log (state_from (n + 1) (effect n (entry x) s) (upto (n + 1) r log)).objects)
        → Rebuilt r e n s (entry x ∷ log) (state_from n s (if b then [] else entry x ∷ upto (n + 1) r log)).objects
    by true is more = let t = less r n is in at_number m limits r n e s (entry x ∷ log) (omega (arith, le, t)) num l
    by false is more =
        let ge = no_less r n is in
        let (to, from) = more (omega (arith, ge)) in (
          λ i.
              let h = to i in (
                h.0,
                elim h.1 [
                  | inl there ↦ inl there
                  | inr gone ↦ inr (in_second r e (entry_past n x s) (superseded_from (n + 1) (effect n (entry x) s) log) gone)
                ],
              ),
          λ h. from (
            h.0,
            elim h.1 [
              | inl there ↦ inl there
              | inr gone ↦ elim (in_either r e (entry_past n x s) (superseded_from (n + 1) (effect n (entry x) s) log) gone) [
                | inl now ↦ absurd (early-step r n e x s ge now)
                | inr after ↦ inr after
              ]
            ],
          ),
        )

-- ---- in terms of keys

pub in-find : (es : List Stored) (e : Stored) → IsRising es → In e es → find e.key es ≡ Some e
in-find [] e r i = absurd i
in-find (f ∷ es) e r (inl same) = let k : key_cmp e.key f.key ≡ Equal = ap (λ (q : Stored). key_cmp e.key q.key) (sym same) ∙ itself e.key in rw k (ap (λ (q : Stored). Some q) (sym same))
in-find (f ∷ es) e r (inr i) =
    let l : key_cmp f.key e.key ≡ Less = in_each (λ g. key_cmp f.key g.key ≡ Less) e es r.0 i in
    let g : key_cmp e.key f.key ≡ Greater = behind f.key e.key l in rw g (in-find es e r.1 i)

legal-upto : (m : Meaning) (limits : Limits) (n r : ℕ) (s : State) (log : List Item) → legal_from m limits n s log → legal_from m limits n s (upto n r log)
legal-upto m limits n r s [] l = tt
legal-upto m limits n r s (note x ∷ log) l = (l.0, legal-upto m limits n r (effect n (note x) s) log l.1)
legal-upto m limits n r s (entry e ∷ log) l = by (nat_lt r n) (legal-upto m limits (n + 1) r (effect n (entry e) s) log l.1)
  where
    by : (b : Bool) → legal_from m limits (n + 1) (effect n (entry e) s) (upto (n + 1) r log) → legal_from m limits n s (if b then [] else entry e ∷ upto (n + 1) r log)
    by true more = tt
    by false more = (l.0, more)

pub rebuilt-all : (m : Meaning) (limits : Limits) (log : List Item) (r : ℕ) (e : Stored) → legal m limits log → 1 ≤ r → r < next_number log
    → Holds (record (state m log) { objects = snap m log r }) e ↔ ((e.number ≤ r) × (Holds (state m log) e ⊎ Supersedes r e (superseded m log)))
rebuilt-all m limits log r e l one lt =
    let sound = sound-from m limits 2 (opening m) log l (sound-opening m) in
    let sound_then = sound-from m limits 2 (opening m) (upto 2 r log) (legal-upto m limits 2 r (opening m) log l) (sound-opening m) in
    let (to, from) = rebuilt-from m limits r 2 e (opening m) log (omega (arith, one)) lt (numbered-opening m) l in (
      λ i.
          let h = to (find-in e.key (snap m log r) e i) in
          (h.0, elim h.1 [ inl there ↦ inl (in-find (state m log).objects e sound.rising there) | inr gone ↦ inr gone ]),
      λ h. in-find (snap m log r) e sound_then.rising
          (from (h.0, elim h.1 [ inl there ↦ inl (find-in e.key (state m log).objects e there) | inr gone ↦ inr gone ])),
    )
