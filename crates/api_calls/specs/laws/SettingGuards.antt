-- What a decided change of flags, trim or start of a migration enters has its guard.
use Rattle.std.specs.Prelude.{◌≡◌, ◌≢◌, ◌⊎◌, ℕ, Bool, true, false, ◌||◌, List, [], ◌∷◌, Option, None, Some, filter, is_some, option_map, nat_eq, if◌then◌else◌}
use Rattle.std.specs.List.{list_all}
use Rattle.std.specs.Str.{bytes_eq}
use Rattle.std.proofs.Common.{refl, ap, sym, subst, ◌∙◌, arith, eq-eqb, inl, inr}
use Rattle.std.proofs.lemmas.Bool.Decides.{nat_tests}
use Rattle.std.proofs.lemmas.Slice.Eq.{bytes_eq-Decides}
use Rattle.std.proofs.Math.Bool.{beq}
use lib.Pointwise.{pointwise}
use Rattle.kube_meta.specs.Key.{KeyView}
use Rattle.kube_meta.specs.Plan.{Migration, named, running}
use Rattle.kube_meta.specs.declared.limits.Limits.{Limits}
use Rattle.kube_meta.specs.declared.limits.Room.{Room}
use Rattle.api_calls.specs.declared.flags.Flags.{Flags}
use Rattle.api_calls.specs.Meaning.{Meaning}
use Rattle.api_calls.specs.Versions.{AreFlags}
use Rattle.api_calls.specs.Item.{Item, entry, SetVersions, Trim, StartMigration}
use Rattle.api_calls.specs.Objects.{Stored}
use Rattle.api_calls.specs.State.{State, has, joined}
use Rattle.api_calls.specs.Room.{lacking_migrations}
use Rattle.api_calls.specs.Legal.{Each, In, IsPart, guard}
use Rattle.api_calls.specs.LegalLists.{IsSoundState}
use Rattle.api_calls.specs.Ends.{set, unchanged, trimmed, untrimmed, taken, says, enters}
use Rattle.api_calls.specs.Settings.{same_flags, set_decision, first_unknown, first_at, hold_of, held_or, first_held, trim_free, trim_known, trim_decision, start_room, start_idle, start_decision}

number : (m n : ℕ) → nat_eq m n ≡ true → m ≡ n
number m n h = grind (arith, nat_tests)

-- ---- flags

beq-same : (b : Bool) → beq b b ≡ true
beq-same true = refl
beq-same false = refl

all_same : (bs : List Bool) → pointwise beq bs bs ≡ true
all_same [] = refl
all_same (b ∷ bs) = rw (beq-same b) (all_same bs)

pub same_flags-same : (f g : Flags) → f ≡ g → same_flags f g ≡ true
same_flags-same f g is = ap (λ (h : Flags). same_flags h g) is ∙ (let bits = all_same g.served in let storage = eq-eqb g.storage g.storage refl in rw (bits, storage) refl)

pub set-guard : (m : Meaning) (limits : Limits) (s : State) (f : Flags) (i : Item) → AreFlags m.count f → (set_decision s f).item ≡ Some i → guard m limits s i
set-guard m limits s f i flags is = by (same_flags f s.flags) refl is
  where
    by : (b : Bool) → same_flags f s.flags ≡ b → (if b then says (unchanged s.stored) else enters (set (joined s.stored f.storage)) (entry (SetVersions f))).item ≡ Some i → guard m limits s i
    by true same is = cc
    by false same is =
        let it : entry (SetVersions f) ≡ i = cc in
        subst (guard m limits s) it (record { differ = λ e. (let b = same_flags-same f s.flags e in absurd cc); flags = flags })

-- ---- the stored list

part_more : (ks xs : List ℕ) (x : ℕ) → IsPart ks xs → IsPart ks (x ∷ xs)
part_more [] xs x h = tt
part_more (k ∷ ks) xs x h = inr h

part-filter : (p : ℕ → Bool) (xs : List ℕ) → IsPart (filter p xs) xs
part-filter p [] = tt
part-filter p (x ∷ xs) = by (p x) (part-filter p xs)
  where
    by : (b : Bool) → IsPart (filter p xs) xs → IsPart (if b then x ∷ filter p xs else filter p xs) (x ∷ xs)
    by true more = inl (refl, more)
    by false more = part_more (filter p xs) xs x more

all-filter : (p : ℕ → Bool) (xs : List ℕ) → list_all p (filter p xs) ≡ true
all-filter p [] = refl
all-filter p (x ∷ xs) = by (p x) refl (all-filter p xs)
  where
    by : (b : Bool) → p x ≡ b → list_all p (filter p xs) ≡ true → list_all p (if b then x ∷ filter p xs else filter p xs) ≡ true
    by true is more = rw is more
    by false is more = more

has-filter : (keep xs : List ℕ) (v : ℕ) → has xs v ≡ true → has keep v ≡ true → has (filter (has keep) xs) v ≡ true
has-filter keep [] v h k = h
has-filter keep (x ∷ xs) v h k = by (nat_eq x v) refl (has keep x) refl h (λ more. has-filter keep xs v more k)
  where
    later : (b : Bool) → has (filter (has keep) xs) v ≡ true → (b || has (filter (has keep) xs) v) ≡ true
    later true more = refl
    later false more = more

    by : (b : Bool) → nat_eq x v ≡ b → (c : Bool) → has keep x ≡ c → (b || has xs v) ≡ true → (has xs v ≡ true → has (filter (has keep) xs) v ≡ true)
        → has (if c then x ∷ filter (has keep) xs else filter (has keep) xs) v ≡ true
    by true is true in_keep h more = rw is refl
    by true is false in_keep h more = let kept : has keep x ≡ true = ap (has keep) (number x v is) ∙ k in absurd cc
    by false is true in_keep h more = later (nat_eq x v) (more h)
    by false is false in_keep h more = more h

-- a stored version is kept, or nothing holds it
free_of : (keep : List ℕ) (s : State) (vs : List ℕ) (v : ℕ) → first_held keep s vs ≡ None → has vs v ≡ true → (has keep v ≡ true) ⊎ (hold_of s.flags.storage s v ≡ None)
free_of keep s [] v none h = cc
free_of keep s (x ∷ vs) v none h = by (nat_eq x v) refl (has keep x) refl (hold_of s.flags.storage s x) refl h none (free_of keep s vs v)
  where
    by : (b : Bool) → nat_eq x v ≡ b → (c : Bool) → has keep x ≡ c → (o : Option (Option KeyView)) → hold_of s.flags.storage s x ≡ o → (b || has vs v) ≡ true
        → (if c then first_held keep s vs else held_or x o (first_held keep s vs)) ≡ None
        → (first_held keep s vs ≡ None → has vs v ≡ true → (has keep v ≡ true) ⊎ (hold_of s.flags.storage s v ≡ None))
        → (has keep v ≡ true) ⊎ (hold_of s.flags.storage s v ≡ None)
    by true is true kept o held h none more = inl (ap (has keep) (sym (number x v is)) ∙ kept)
    by true is false kept None held h none more = inr (ap (λ (y : ℕ). hold_of s.flags.storage s y) (sym (number x v is)) ∙ held)
    by true is false kept (Some k) held h none more = cc
    by false is true kept o held h none more = more none h
    by false is false kept None held h none more = more none h
    by false is false kept (Some k) held h none more = cc

in_each : (P : Stored → Type 0) (e : Stored) (es : List Stored) → Each P es → In e es → P e
in_each P e [] h i = absurd i
in_each P e (f ∷ es) h (inl same) = subst P (sym same) h.0
in_each P e (f ∷ es) h (inr i) = in_each P e es h.1 i

each_in : (P : Stored → Type 0) (es : List Stored) → ((e : Stored) → In e es → P e) → Each P es
each_in P [] f = tt
each_in P (e ∷ es) f = (f e (inl refl), each_in P es (λ g i. f g (inr i)))

some_at : (e : Stored) (es : List Stored) → In e es → first_at e.at es ≡ None → ⊥
some_at e [] i none = i
some_at e (f ∷ es) i none = by (nat_eq f.at e.at) refl i none (some_at e es)
  where
    by : (b : Bool) → nat_eq f.at e.at ≡ b → In e (f ∷ es) → (if b then Some f.key else first_at e.at es) ≡ None → (In e es → first_at e.at es ≡ None → ⊥) → ⊥
    by true is i none more = cc
    by false is (inl same) none more = let at : nat_eq f.at e.at ≡ true = eq-eqb f.at e.at (ap (λ (g : Stored). g.at) (sym same)) in absurd cc
    by false is (inr later) none more = more later none

pub trim-guard : (m : Meaning) (limits : Limits) (s : State) (keep : List ℕ) (i : Item) → IsSoundState s → (trim_decision s keep).item ≡ Some i → guard m limits s i
trim-guard m limits s keep i sound is = known (first_unknown s.stored keep) is
  where
    kept_storage : first_held keep s s.stored ≡ None → has keep s.flags.storage ≡ true
    kept_storage none =
        elim (free_of keep s s.stored s.flags.storage none sound.storage) [
          | inl kept ↦ kept
          | inr nothing ↦ (let at = eq-eqb s.flags.storage s.flags.storage refl in
              let held : hold_of s.flags.storage s s.flags.storage ≡ Some None = rw at refl in absurd cc)
        ]

    kept_at : first_held keep s s.stored ≡ None → (e : Stored) → In e s.objects → has keep e.at ≡ true
    kept_at none e i =
        elim (free_of keep s s.stored e.at none (in_each (λ f. has s.stored f.at ≡ true) e s.objects sound.stored i)) [
          | inl kept ↦ kept
          | inr nothing ↦ absurd (not_held e i (nat_eq e.at s.flags.storage) (first_at e.at s.objects) refl nothing)
        ]
      where
        not_held : (e : Stored) → In e s.objects → (b : Bool) (o : Option KeyView) → first_at e.at s.objects ≡ o
            → (if b then Some None else option_map (λ (k : KeyView). Some k) o) ≡ None → ⊥
        not_held e i true o at none = cc
        not_held e i false None at none = some_at e s.objects i at
        not_held e i false (Some k) at none = cc

    part : first_held keep s s.stored ≡ None → (b : Bool) → list_all (has keep) s.stored ≡ b
        → (if b then says (untrimmed s.flags s.stored)
        else enters (trimmed s.flags (filter (has keep) s.stored)) (entry (Trim (filter (has keep) s.stored)))).item ≡ Some i
        → guard m limits s i
    part none true all is = cc
    part none false all is =
        let it : entry (Trim (filter (has keep) s.stored)) ≡ i = cc in
        subst (guard m limits s) it (record {
          part = part-filter (has keep) s.stored;
          fewer = λ e. (let every : list_all (has keep) s.stored ≡ true = subst (λ (xs : List ℕ). list_all (has keep) xs ≡ true) e (all-filter (has keep) s.stored) in absurd cc);
          storage = has-filter keep s.stored s.flags.storage sound.storage (kept_storage none);
          kept = each_in (λ e. has (filter (has keep) s.stored) e.at ≡ true) s.objects
              (λ e i. has-filter keep s.stored e.at (in_each (λ f. has s.stored f.at ≡ true) e s.objects sound.stored i) (kept_at none e i));
        })

    free : (o : Option (ℕ × Option KeyView)) → first_held keep s s.stored ≡ o → (trim_free s keep o).item ≡ Some i → guard m limits s i
    free (Some held) none is = cc
    free None none is = part none (list_all (has keep) s.stored) refl is

    known : (u : Option ℕ) → (trim_known s keep u).item ≡ Some i → guard m limits s i
    known (Some v) is = cc
    known None is = free (first_held keep s s.stored) refl is

-- ---- migrations

no_name : (name : List ℕ) (ms : List Migration) → named name ms ≡ None → Each (λ q. q.name ≢ name) ms
no_name name [] none = tt
no_name name (q ∷ ms) none = by (bytes_eq q.name name) refl none (no_name name ms)
  where
    by : (b : Bool) → bytes_eq q.name name ≡ b → (if b then Some q else named name ms) ≡ None → (named name ms ≡ None → Each (λ q. q.name ≢ name) ms)
        → (q.name ≢ name) × Each (λ q. q.name ≢ name) ms
    by true is none more = cc
    by false is none more = ((λ e. let same = (bytes_eq-Decides q.name name).1 e in absurd cc), more none)

pub start-guard : (m : Meaning) (limits : Limits) (s : State) (name : List ℕ) (i : Item) → (start_decision limits s name).item ≡ Some i → guard m limits s i
start-guard m limits s name i is = fresh (named name s.migrations) refl is
  where
    room : named name s.migrations ≡ None → running s.migrations ≡ None → (r : Option Room) → lacking_migrations limits s.migrations ≡ r → (start_room s name r).item ≡ Some i → guard m limits s i
    room new none (Some x) at is = cc
    room new none None at is =
        let it : entry (StartMigration name) ≡ i = cc in
        subst (guard m limits s) it (record { fresh = no_name name s.migrations new; idle = none; room = at })

    idle : named name s.migrations ≡ None → (q : Option Migration) → running s.migrations ≡ q → (start_idle limits s name q).item ≡ Some i → guard m limits s i
    idle new (Some x) none is = cc
    idle new None none is = room new none (lacking_migrations limits s.migrations) refl is

    fresh : (o : Option Migration) → named name s.migrations ≡ o → (if is_some o then says taken else start_idle limits s name (running s.migrations)).item ≡ Some i → guard m limits s i
    fresh (Some x) new is = cc
    fresh None new is = idle new (running s.migrations) refl is
