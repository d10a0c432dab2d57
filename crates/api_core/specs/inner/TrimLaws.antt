-- A trim by its parts: of the versions that aren't kept, those before the storage version are looked for among the objects, once for all of them.
use Rattle.std.specs.Prelude.{◌≡◌, ℕ, Bool, true, false, not, ◌||◌, ◌&&◌, List, [], ◌∷◌, length, Option, None, Some, filter, option_map, nat_eq, if◌then◌else◌}
use Rattle.std.specs.List.{list_all}
use Rattle.std.proofs.Common.{refl, ap, ◌∙◌, arith}
use Rattle.std.proofs.lemmas.Bool.Decides.{nat_tests}
use Rattle.kube_meta.specs.Key.{KeyView}
use Rattle.kube_meta.specs.WindowPairs.{AllPair}
use Rattle.record_store.specs.View.{Item as RecordItem, item_key}
use Rattle.record_store.specs.Standing.{item_at, first_at as first_seen, at_version, first_held as first_standing}
use Rattle.api_calls.specs.Meaning.{Meaning}
use Rattle.api_calls.specs.Item.{entry, Trim}
use Rattle.api_calls.specs.Objects.{Stored, object_at, object_key}
use Rattle.api_calls.specs.State.{State, has}
use Rattle.api_calls.specs.Ends.{trimmed, untrimmed, unknown, still_stored, says, enters}
use Rattle.api_calls.specs.Settings.{first_unknown, first_at, hold_of, held_or, first_held, trim_free, trim_known, trim_decision}
use Rattle.api_core.specs.Keeps.{KeepsObject}

-- the versions that aren't kept
abbrev pub unkept : List ℕ → List ℕ → List ℕ
unkept keep vs = filter (λ v. not (has keep v)) vs

-- the versions before one
abbrev pub until : ℕ → List ℕ → List ℕ
until st [] = []
until st (v ∷ vs) = if nat_eq v st then [] else v ∷ until st vs

-- what was found before the storage version, and else the storage version, where it is among the versions
abbrev pub held_from : ℕ → List ℕ → Option (ℕ × KeyView) → Option (ℕ × Option KeyView)
held_from st vs (Some found) = Some (found.0, Some found.1)
held_from st vs None = if has vs st then Some (st, None) else None

number : (m n : ℕ) → nat_eq m n ≡ true → m ≡ n
number m n h = grind (arith, nat_tests)

-- the same, where the first version is not kept, and it is the storage version or not
abbrev front : ℕ → List ℕ → Bool → Option (ℕ × KeyView) → Option (ℕ × Option KeyView)
front st us c (Some found) = Some (found.0, Some found.1)
front st us c None = if c || has us st then Some (st, None) else None

pub first_held-parts : (keep : List ℕ) (s : State) (vs : List ℕ)
    → first_held keep s vs
    ≡ held_from s.flags.storage (unkept keep vs) (first_standing object_at object_key (until s.flags.storage (unkept keep vs)) s.objects)
first_held-parts keep s [] = refl
first_held-parts keep s (v ∷ vs) = by (has keep v) (first_held-parts keep s vs)
  where
    with_key : (o : Option KeyView)
        → first_held keep s vs ≡ held_from s.flags.storage (unkept keep vs) (first_standing object_at object_key (until s.flags.storage (unkept keep vs)) s.objects)
        → held_or v (option_map (λ (k : KeyView). Some k) o) (first_held keep s vs)
        ≡ front s.flags.storage (unkept keep vs) false (at_version v o (first_standing object_at object_key (until s.flags.storage (unkept keep vs)) s.objects))
    with_key None more = more
    with_key (Some k) more = refl

    with_storage : (c : Bool) → nat_eq v s.flags.storage ≡ c
        → first_held keep s vs ≡ held_from s.flags.storage (unkept keep vs) (first_standing object_at object_key (until s.flags.storage (unkept keep vs)) s.objects)
        → held_or v (if c then Some None else option_map (λ (k : KeyView). Some k) (first_at v s.objects)) (first_held keep s vs)
        ≡ front s.flags.storage (unkept keep vs) c (first_standing object_at object_key (if c then [] else v ∷ until s.flags.storage (unkept keep vs)) s.objects)
    with_storage true is more = ap (λ (w : ℕ). let p : ℕ × Option KeyView = (w, None) in Some p) (number v s.flags.storage is)
    with_storage false is more = with_key (first_at v s.objects) more

    by : (b : Bool)
        → first_held keep s vs ≡ held_from s.flags.storage (unkept keep vs) (first_standing object_at object_key (until s.flags.storage (unkept keep vs)) s.objects)
        → (if b then first_held keep s vs else held_or v (hold_of s.flags.storage s v) (first_held keep s vs))
        ≡ held_from s.flags.storage (if not b then v ∷ unkept keep vs else unkept keep vs)
        (first_standing object_at object_key (until s.flags.storage (if not b then v ∷ unkept keep vs else unkept keep vs)) s.objects)
    by true more = more
    by false more = with_storage (nat_eq v s.flags.storage) refl more

-- every version is kept exactly where none is left over
pub all-unkept : (keep vs : List ℕ) → list_all (has keep) vs ≡ nat_eq (length (unkept keep vs)) 0
all-unkept keep [] = refl
all-unkept keep (v ∷ vs) = by (has keep v) (all-unkept keep vs)
  where
    by : (b : Bool) → list_all (has keep) vs ≡ nat_eq (length (unkept keep vs)) 0
        → (b && list_all (has keep) vs) ≡ nat_eq (length (if not b then v ∷ unkept keep vs else unkept keep vs)) 0
    by true more = more
    by false more = grind (arith, nat_tests)

-- records that pair with objects tell the same
pairs-first_at : (m : Meaning) (v : ℕ) (xs : List RecordItem) (es : List Stored) → AllPair (KeepsObject m) xs es → first_seen item_at item_key v xs ≡ first_seen object_at object_key v es
pairs-first_at m v [] [] p = refl
pairs-first_at m v (x ∷ xs) (e ∷ es) p =
    let more = pairs-first_at m v xs es p.1 in
    ap (λ (w : ℕ). if nat_eq w v then Some x.key else first_seen item_at item_key v xs) p.0.at
    ∙ ap (λ (k : KeyView). if nat_eq e.at v then Some k else first_seen item_at item_key v xs) p.0.key
    ∙ ap (λ (o : Option KeyView). if nat_eq e.at v then Some e.key else o) more
pairs-first_at m v [] (e ∷ es) p = absurd p
pairs-first_at m v (x ∷ xs) [] p = absurd p

pub pairs-first_held : (m : Meaning) (vs : List ℕ) (xs : List RecordItem) (es : List Stored) → AllPair (KeepsObject m) xs es
    → first_standing item_at item_key vs xs ≡ first_standing object_at object_key vs es
pairs-first_held m [] xs es p = refl
pairs-first_held m (v ∷ vs) xs es p =
    ap (λ (o : Option KeyView). at_version v o (first_standing item_at item_key vs xs)) (pairs-first_at m v xs es p)
    ∙ ap (λ (o : Option (ℕ × KeyView)). at_version v (first_seen object_at object_key v es) o) (pairs-first_held m vs xs es p)

-- ---- the decision

pub trim-unknown : (s : State) (keep : List ℕ) (v : ℕ) → first_unknown s.stored keep ≡ Some v → trim_decision s keep ≡ says (unknown v)
trim-unknown s keep v is = ap (trim_known s keep) is

pub trim-held : (s : State) (keep : List ℕ) (held : ℕ × Option KeyView) → first_unknown s.stored keep ≡ None → first_held keep s s.stored ≡ Some held
    → trim_decision s keep ≡ says (still_stored held.0 held.1)
trim-held s keep held none is = ap (trim_known s keep) none ∙ ap (trim_free s keep) is

pub trim-same : (s : State) (keep : List ℕ) → first_unknown s.stored keep ≡ None → first_held keep s s.stored ≡ None → list_all (has keep) s.stored ≡ true
    → trim_decision s keep ≡ says (untrimmed s.flags s.stored)
trim-same s keep none free all = ap (trim_known s keep) none ∙ ap (trim_free s keep) free ∙ (rw all refl)

pub trim-done : (s : State) (keep : List ℕ) → first_unknown s.stored keep ≡ None → first_held keep s s.stored ≡ None → list_all (has keep) s.stored ≡ false
    → trim_decision s keep ≡ enters (trimmed s.flags (filter (has keep) s.stored)) (entry (Trim (filter (has keep) s.stored)))
trim-done s keep none free some = ap (trim_known s keep) none ∙ ap (trim_free s keep) free ∙ (rw some refl)
