-- Flags of versions of which one is the storage version and one at least is served are legal.
use Rattle.std.proofs.Common.{◌≡◌, ℕ, zero, suc, ◌<◌, ◌≤◌, List, [], ◌∷◌, length, map, Bool, true, false, cond, ◌||◌, Some, refl, ap, ◌∙◌, arith}
use Rattle.std.specs.Prelude.{slice_get}
use Rattle.api_calls.specs.Versions.{AreFlags}
use Rattle.crd_reading.specs.View.{VersionView}
use Rattle.crd_reading.specs.Offered.{storages, some_served}
use Rattle.crd_meaning.specs.Definition.{before_storage, no_version}
use Rattle.crd_settings.specs.Flags.{flags_of, version_in}

found : (vs : List VersionView) → some_served vs ≡ true → (v : ℕ) × (v < length vs) × ((version_in vs v).served ≡ true)
found [] h = absurd cc
found (v ∷ vs) h = by v.served refl h (found vs)
  where
    by : (b : Bool) → v.served ≡ b → (b || some_served vs) ≡ true → (some_served vs ≡ true → (w : ℕ) × (w < length vs) × ((version_in vs w).served ≡ true))
        → (w : ℕ) × (w < length (v ∷ vs)) × ((version_in (v ∷ vs) w).served ≡ true)
    by true is h more = (0, omega arith, is)
    by false is h more = let rest = more h in (suc rest.0, omega (arith, rest.1), rest.2)

past : (vs : List VersionView) (v : ℕ) → length vs ≤ v → version_in vs v ≡ no_version
past [] v h = refl
past (x ∷ vs) zero h = absurd (omega arith)
past (x ∷ vs) (suc v) h = past vs v (omega arith)

stored : (vs : List VersionView) → 0 < storages vs → before_storage vs < length vs
stored [] h = absurd (omega arith)
stored (v ∷ vs) h = by v.storage h (stored vs)
  where
    by : (b : Bool) → 0 < cond b (suc (storages vs)) (storages vs) → (0 < storages vs → before_storage vs < length vs)
        → cond b 0 (suc (before_storage vs)) < suc (length vs)
    by true h more = omega arith
    by false h more = let rest = more h in omega (arith, rest)

eight : (f : ℕ → Bool) (v : ℕ) → v < 8 → slice_get (map f (0 ∷ 1 ∷ 2 ∷ 3 ∷ 4 ∷ 5 ∷ 6 ∷ 7 ∷ [])) v ≡ Some (f v)
eight f zero h = refl
eight f (suc zero) h = refl
eight f (suc (suc zero)) h = refl
eight f (suc (suc (suc zero))) h = refl
eight f (suc (suc (suc (suc zero)))) h = refl
eight f (suc (suc (suc (suc (suc zero))))) h = refl
eight f (suc (suc (suc (suc (suc (suc zero)))))) h = refl
eight f (suc (suc (suc (suc (suc (suc (suc zero))))))) h = refl
eight f (suc (suc (suc (suc (suc (suc (suc (suc v)))))))) h = absurd (omega arith)

pub are_flags : (vs : List VersionView) → length vs ≤ 8 → storages vs ≡ 1 → some_served vs ≡ true → AreFlags (length vs) (flags_of vs)
are_flags vs few one some = record {
  served =
      let it = found vs some in
      let below : it.0 < 8 = omega (arith, it.1) in
      (it.0, it.1, eight (λ v. (version_in vs v).served) it.0 below ∙ ap (λ (b : Bool). Some b) it.2);
  none_beyond = λ v beyond below.
      eight (λ w. (version_in vs w).served) v below ∙ ap (λ (x : VersionView). Some x.served) (past vs v beyond);
  storage = stored vs (omega (arith, one));
}
