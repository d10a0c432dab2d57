-- The flags of a definition at first: one version at least is served, and the storage version is one of the versions. And its
-- versions have different names.
use Rattle.std.proofs.Common.{◌≡◌, ◌∙◌, ℕ, zero, suc, ◌<◌, ◌≤◌, List, [], ◌∷◌, length, Bool, true, false, cond, Some, refl, ap, sym, arith}
use Rattle.std.specs.Prelude.{◌&&◌, ◌||◌, not, map, slice_get, slice_index_or, if◌then◌else◌}
use Rattle.std.specs.Str.{bytes_eq}
use Rattle.std.proofs.lemmas.Slice.Eq.{bytes_eq-Decides}
use Rattle.std.proofs.lemmas.List.{get_or_past}
use Rattle.crd_reading.specs.View.{VersionView}
use Rattle.crd_reading.specs.Offered.{has_version, names_differ, storages, some_served}
use Rattle.crd_reading.specs.Accepted.{AreOffered}
use Rattle.api_calls.specs.Versions.{AreFlags}
use Rattle.crd_meaning.specs.Definition.{Definition, count_of, version_at, no_version, before_storage, served_at, opening_of}

-- the flag of each place
pub at_place : (f : ℕ → Bool) (v : ℕ) → v < 8 → slice_get (map f (0 ∷ 1 ∷ 2 ∷ 3 ∷ 4 ∷ 5 ∷ 6 ∷ 7 ∷ [])) v ≡ Some (f v)
at_place f zero h = refl
at_place f (suc zero) h = refl
at_place f (suc (suc zero)) h = refl
at_place f (suc (suc (suc zero))) h = refl
at_place f (suc (suc (suc (suc zero)))) h = refl
at_place f (suc (suc (suc (suc (suc zero))))) h = refl
at_place f (suc (suc (suc (suc (suc (suc zero)))))) h = refl
at_place f (suc (suc (suc (suc (suc (suc (suc zero))))))) h = refl
at_place f (suc (suc (suc (suc (suc (suc (suc (suc v)))))))) h = absurd (omega arith)

-- a version that is served stands at a place
abbrev ServedAmong : List VersionView → Type 0
ServedAmong vs = (v : ℕ) × (v < length vs) × ((slice_index_or vs v no_version).served ≡ true)

some_place : (vs : List VersionView) → some_served vs ≡ true → ServedAmong vs
some_place [] h = absurd (cc)
some_place (v ∷ vs) h = by_test v.served refl h (some_place vs)
  where
    later : ServedAmong vs → ServedAmong (v ∷ vs)
    later p = (suc p.0, omega (arith, p.1), p.2)

    by_test : (b : Bool) → v.served ≡ b → (v.served || some_served vs) ≡ true → (some_served vs ≡ true → ServedAmong vs) → ServedAmong (v ∷ vs)
    by_test true e q rest = (0, omega arith, e)
    by_test false e q rest = later (rest (ap (λ (b : Bool). b || some_served vs) (sym e) ∙ q))

storage_within : (vs : List VersionView) → storages vs ≡ 1 → before_storage vs < length vs
storage_within [] h = let e : 0 ≡ 1 = h in absurd (omega (arith, e))
storage_within (v ∷ vs) h = by_test v.storage h (storage_within vs)
  where
    by_test : (b : Bool) → cond b (suc (storages vs)) (storages vs) ≡ 1 → (storages vs ≡ 1 → before_storage vs < length vs) → (if b then 0 else suc (before_storage vs)) < suc (length vs)
    by_test true q rest = omega arith
    by_test false q rest = omega (arith, rest q)

pub opening_flags : (d : Definition) → AreOffered d.view.versions → count_of d ≤ 8 → AreFlags (count_of d) (opening_of d)
opening_flags d offered few = record {
  served =
      let p = some_place d.view.versions offered.some_served in
      (p.0, p.1, at_place (served_at d) p.0 (omega (arith, p.1, few)) ∙ ap Some p.2);
  none_beyond = λ v past low. at_place (served_at d) v low ∙ ap (λ (w : VersionView). Some w.served) (get_or_past d.view.versions v no_version past);
  storage = storage_within d.view.versions offered.one_storage;
}

-- ---- names

left_or : (a b : Bool) → a ≡ true → (a || b) ≡ true
left_or true b h = refl
left_or false b h = absurd (cc)

right_or : (a b : Bool) → b ≡ true → (a || b) ≡ true
right_or true b h = refl
right_or false b h = h

both_true : (a b : Bool) → (a && b) ≡ true → (a ≡ true) × (b ≡ true)
both_true true b h = (refl, h)
both_true false b h = absurd (cc)

not_and : (b : Bool) → not b ≡ true → b ≡ true → ⊥
not_and true h k = cc
not_and false h k = cc

-- the version at a place
abbrev place_in : List VersionView → ℕ → VersionView
place_in vs v = slice_index_or vs v no_version

has_place : (n : List ℕ) (vs : List VersionView) (v : ℕ) → v < length vs → n ≡ (place_in vs v).name → has_version n vs ≡ true
has_place n [] v h e = absurd (omega arith)
has_place n (w ∷ vs) zero h e = left_or (bytes_eq n w.name) (has_version n vs) ((bytes_eq-Decides n w.name).1 e)
has_place n (w ∷ vs) (suc v) h e = right_or (bytes_eq n w.name) (has_version n vs) (has_place n vs v (omega (arith, h)) e)

one_place : (vs : List VersionView) → names_differ vs ≡ true → (v w : ℕ) → v < length vs → w < length vs → (place_in vs v).name ≡ (place_in vs w).name → v ≡ w
one_place [] d v w p q e = absurd (omega arith)
one_place (u ∷ vs) d zero zero p q e = refl
one_place (u ∷ vs) d zero (suc w) p q e =
    absurd (not_and (has_version u.name vs) (both_true (not (has_version u.name vs)) (names_differ vs) d).0 (has_place u.name vs w (omega (arith, q)) e))
one_place (u ∷ vs) d (suc v) zero p q e =
    absurd (not_and (has_version u.name vs) (both_true (not (has_version u.name vs)) (names_differ vs) d).0 (has_place u.name vs v (omega (arith, p)) (sym e)))
one_place (u ∷ vs) d (suc v) (suc w) p q e =
    ap suc (one_place vs (both_true (not (has_version u.name vs)) (names_differ vs) d).1 v w (omega (arith, p)) (omega (arith, q)) e)

pub names_apart : (d : Definition) → AreOffered d.view.versions → (v w : ℕ) → v < count_of d → w < count_of d → (version_at d v).name ≡ (version_at d w).name → v ≡ w
names_apart d offered = one_place d.view.versions offered.differ
