-- The laws of a history, put together: which objects stood at a number, by those that stand and those of the window.
use Rattle.std.proofs.Common.{◌≡◌, ℕ, ◌+◌, ◌-◌, ◌<◌, ◌≤◌, List, [], ◌∷◌, ◌++◌, Bool, true, false, Option, None, Some, ap, refl, sym, subst, ◌∙◌, arith, nat_lt, inl, inr}
use Rattle.std.specs.Prelude.{◌⊎◌, ◌↔◌, if◌then◌else◌}
use Rattle.std.proofs.lemmas.Bool.Decides.{nat_tests}
use Rattle.kube_meta.specs.Window.{IsFloor, above}
use Rattle.kube_meta.specs.declared.limits.Limits.{Limits}
use Rattle.api_calls.specs.Meaning.{Meaning}
use Rattle.api_calls.specs.Item.{Create, Replace, Mark, Release, Touch, Delete, SetVersions, Trim, StartMigration, MarkSucceeded, Item, entry, note}
use Rattle.api_calls.specs.Objects.{Stored, find}
use Rattle.api_calls.specs.State.{State, effect, number_after, number_from, next_number, opening, state}
use Rattle.api_calls.specs.Legal.{In, legal_from, legal}
use Rattle.api_calls.specs.LegalLists.{IsRising, IsSoundState, Holds}
use Rattle.api_calls.specs.Snap.{upto, snap, Past, past, item_past, superseded_from, superseded, by_number, past_weight, floor, window, Supersedes}
use Rattle.record_store.proofs.Rising.{find-in, in-find}
use Rattle.record_store.proofs.Rebuilt.{Stood, supersedes-above, above-supersedes}

-- ---- numbers

less : (a b : ℕ) → nat_lt a b ≡ true → a < b
less a b h = grind (arith, nat_tests)

no_less : (a b : ℕ) → nat_lt a b ≡ false → b ≤ a
no_less a b h = grind (arith, nat_tests)

is_no_less : (a b : ℕ) → b ≤ a → nat_lt a b ≡ false
is_no_less a b h = grind (arith, nat_tests)

number-up : (n : ℕ) (log : List Item) → n ≤ number_from n log
number-up n [] = omega arith
number-up n (entry e ∷ log) = let up = number-up (n + 1) log in omega (arith, up)
number-up n (note x ∷ log) = number-up n log

-- up to the last number there is all
upto-all : (n r : ℕ) (log : List Item) → number_from n log ≤ r + 1 → upto n r log ≡ log
upto-all n r [] le = refl
upto-all n r (entry e ∷ log) le =
    let up = number-up (n + 1) log in
    let t = is_no_less r n (omega (arith, up, le)) in
    rw t (ap (λ (xs : List Item). entry e ∷ xs) (upto-all (n + 1) r log le))
upto-all n r (note x ∷ log) le = ap (λ (xs : List Item). note x ∷ xs) (upto-all n r log le)

legal-upto : (m : Meaning) (limits : Limits) (n r : ℕ) (s : State) (log : List Item) → legal_from m limits n s log → legal_from m limits n s (upto n r log)
legal-upto m limits n r s [] l = tt
legal-upto m limits n r s (note x ∷ log) l = (l.0, legal-upto m limits n r (effect n (note x) s) log l.1)
legal-upto m limits n r s (entry e ∷ log) l = by (nat_lt r n) (legal-upto m limits (n + 1) r (effect n (entry e) s) log l.1)
  where
    by : (b : Bool) → legal_from m limits (n + 1) (effect n (entry e) s) (upto (n + 1) r log) → legal_from m limits n s (if b then [] else entry e ∷ upto (n + 1) r log)
    by true more = tt
    by false more = (l.0, more)

-- ---- what was superseded has a number of the history

past-below : (r n : ℕ) (e : Stored) (o : Option Stored) → Supersedes r e (past n o) → r < n
past-below r n e None x = absurd x
past-below r n e (Some f) (inl h) = h.0
past-below r n e (Some f) (inr x) = absurd x

item-below : (r n : ℕ) (e : Stored) (i : Item) (s : State) → Supersedes r e (item_past n i s) → r < n
item-below r n e (entry (Create k h w)) s x = absurd x
item-below r n e (entry (Replace k over h w)) s x = past-below r n e (find k s.objects) x
item-below r n e (entry (Mark k over stamp)) s x = past-below r n e (find k s.objects) x
item-below r n e (entry (Release k over)) s x = past-below r n e (find k s.objects) x
item-below r n e (entry (Touch k c)) s x = past-below r n e (find k s.objects) x
item-below r n e (entry (Delete k)) s x = past-below r n e (find k s.objects) x
item-below r n e (entry (SetVersions f)) s x = absurd x
item-below r n e (entry (Trim keep)) s x = absurd x
item-below r n e (entry (StartMigration name)) s x = absurd x
item-below r n e (entry MarkSucceeded) s x = absurd x
item-below r n e (note c) s x = absurd x

in_either : (r : ℕ) (e : Stored) (ps qs : List Past) → Supersedes r e (ps ++ qs) → Supersedes r e ps ⊎ Supersedes r e qs
in_either r e [] qs h = inr h
in_either r e (p ∷ ps) qs (inl h) = inl (inl h)
in_either r e (p ∷ ps) qs (inr h) = elim (in_either r e ps qs h) [ inl a ↦ inl (inr a) | inr b ↦ inr b ]

after-up : (n : ℕ) (i : Item) → n ≤ number_after n i
after-up n (entry e) = omega arith
after-up n (note x) = omega arith

superseded-below : (r n : ℕ) (e : Stored) (s : State) (log : List Item) → Supersedes r e (superseded_from n s log) → r < number_from n log
superseded-below r n e s [] x = absurd x
superseded-below r n e s (i ∷ log) x =
    by (in_either r e (item_past n i s) (superseded_from (number_after n i) (effect n i s) log) x) (superseded-below r (number_after n i) e (effect n i s) log)
  where
    by : Supersedes r e (item_past n i s) ⊎ Supersedes r e (superseded_from (number_after n i) (effect n i s) log)
        → (Supersedes r e (superseded_from (number_after n i) (effect n i s) log) → r < number_from (number_after n i) log) → r < number_from (number_after n i) log
    by (inl now) more =
        let lt = item-below r n e i s now in
        let up = after-up n i in
        let last = number-up (number_after n i) log in
        omega (arith, lt, up, last)
    by (inr later) more = more later

-- ---- the members at a number

-- what the laws say of a history
pub record Laws (limits : Limits) (m : Meaning) : Type 0 where
  pub least : (log : List Item) → IsFloor by_number past_weight limits (superseded m log) (floor limits m log)
  pub above_floor : (log : List Item) → window limits m log ≡ above by_number (floor limits m log) (superseded m log)
  pub sound : (log : List Item) → legal m limits log → IsSoundState (state m log)
  pub rebuilt : (log : List Item) (r : ℕ) (e : Stored) → legal m limits log → 1 ≤ r → r < next_number log
      → Holds (record (state m log) { objects = snap m log r }) e ↔ ((e.number ≤ r) × (Holds (state m log) e ⊎ Supersedes r e (superseded m log)))

module _ (limits : Limits) (m : Meaning) (laws : Laws limits m) (log : List Item) (l : legal m limits log) where
  objects : List Stored
  objects = (state m log).objects

  pub rising : IsRising (state m log).objects
  rising = (laws.sound log l).rising

  pub rising_then : (r : ℕ) → IsRising (snap m log r)
  rising_then r = (laws.sound (upto 2 r log) (legal-upto m limits 2 r (opening m) log l)).rising

  module _ (r : ℕ) (known : floor limits m log ≤ r) where
    into_window : (e : Stored) → Supersedes r e (superseded m log) → Supersedes r e (window limits m log)
    into_window e s = subst (λ (ps : List Past). Supersedes r e ps) (sym (laws.above_floor log)) (supersedes-above (floor limits m log) r e (superseded m log) known s)

    from_window : (e : Stored) → Supersedes r e (window limits m log) → Supersedes r e (superseded m log)
    from_window e s = above-supersedes (floor limits m log) r e (superseded m log) (subst (λ (ps : List Past). Supersedes r e ps) (laws.above_floor log) s)

    one : 1 ≤ r
    one = let least = (laws.least log).one in omega (arith, least, known)

    -- at a number of the history
    early : r < next_number log → Stood r (state m log).objects (window limits m log) (snap m log r)
    early lt e =
        let law = laws.rebuilt log r e l one lt in (
          λ i.
              let h = law.0 (in-find (snap m log r) e (rising_then r) i) in
              (h.0, elim h.1 [ inl there ↦ inl (find-in e.key (state m log).objects e there) | inr gone ↦ inr (into_window e gone) ]),
          λ h. find-in e.key (snap m log r) e
              (law.1 (h.0, elim h.1 [ inl there ↦ inl (in-find (state m log).objects e rising there) | inr gone ↦ inr (from_window e gone) ])),
        )

    -- at a later one
    late : next_number log ≤ r → Stood r (state m log).objects (window limits m log) (snap m log r)
    late ge e =
        let two = number-up 2 log in
        let last = next_number log - 1 in
        let whole : snap m log r ≡ (state m log).objects = ap (λ (xs : List Item). (state m xs).objects) (upto-all 2 r log (omega (arith, ge))) in
        let whole_last : snap m log last ≡ (state m log).objects = ap (λ (xs : List Item). (state m xs).objects) (upto-all 2 last log (omega (arith, two))) in
        let law = laws.rebuilt log last e l (omega (arith, two)) (omega (arith, two)) in (
          λ i.
              let there = subst (In e) whole i in
              let holds = ap (find e.key) whole_last ∙ in-find (state m log).objects e rising there in
              let number = (law.0 holds).0 in
              (omega (arith, number, ge), inl there),
          λ h. elim h.1 [
            | inl there ↦ subst (In e) (sym whole) there
            | inr gone ↦ absurd (let lt = superseded-below r 2 e (opening m) log (from_window e gone) in omega (arith, lt, ge))
          ],
        )

    pub members : Stood r (state m log).objects (window limits m log) (snap m log r)
    members = by (nat_lt r (next_number log)) refl
      where
        by : (b : Bool) → nat_lt r (next_number log) ≡ b → Stood r (state m log).objects (window limits m log) (snap m log r)
        by true q = early (less r (next_number log) q)
        by false q = late (no_less r (next_number log) q)
