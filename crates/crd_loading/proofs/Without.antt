-- A list without the item at a place.
use Rattle.std.proofs.Common.{◌≡◌, ◌∙◌, ◌<◌, ◌≤◌, ◌+◌, ℕ, zero, suc, List, [], ◌∷◌, length, Bool, true, false, cond, refl, ap, arith}
use Rattle.std.specs.Prelude.{slice_get, nat_eq}
use Rattle.std.proofs.lemmas.Bool.Decides.{Decides-eqb}
use Rattle.hub_cells.specs.Level.{Name}
use Rattle.crd_reading.specs.View.{VersionView}
use Rattle.crd_loading.specs.Fits.{spokes_from, spokes_of}
use Rattle.crd_loading.specs.inner.Following.{version_names}

abbrev pub without : {A : Type 0} → ℕ → List A → List A
without m [] = []
without zero (x ∷ xs) = xs
without (suc m) (x ∷ xs) = x ∷ without m xs

pub get_before : {A : Type 0} → (m : ℕ) (xs : List A) (p : ℕ) → p < m → slice_get (without m xs) p ≡ slice_get xs p
get_before m [] p h = refl
get_before zero (x ∷ xs) p h = absurd (omega arith)
get_before (suc m) (x ∷ xs) zero h = refl
get_before (suc m) (x ∷ xs) (suc p) h = get_before m xs p (omega arith)

pub get_behind : {A : Type 0} → (m : ℕ) (xs : List A) (p : ℕ) → m ≤ p → slice_get (without m xs) p ≡ slice_get xs (suc p)
get_behind m [] p h = refl
get_behind zero (x ∷ xs) p h = refl
get_behind (suc m) (x ∷ xs) zero h = absurd (omega arith)
get_behind (suc m) (x ∷ xs) (suc p) h = get_behind m xs p (omega arith)

pub length_without : {A : Type 0} → (m : ℕ) (xs : List A) → m < length xs → suc (length (without m xs)) ≡ length xs
length_without m [] h =
    let none : m < 0 = h in
    absurd (omega arith)
length_without zero (x ∷ xs) h = refl
length_without (suc m) (x ∷ xs) h =
    let more : suc m < suc (length xs) = h in
    ap suc (length_without m xs (omega arith))

pub names_without : (m : ℕ) (vs : List VersionView) → version_names (without m vs) ≡ without m (version_names vs)
names_without m [] = refl
names_without zero (v ∷ vs) = refl
names_without (suc m) (v ∷ vs) = ap (λ (ns : List Name). v.name ∷ ns) (names_without m vs)

-- ---- the versions but the hub

on_true : (b : Bool) (vs ws : List VersionView) → b ≡ true → cond b vs ws ≡ vs
on_true true vs ws e = refl
on_true false vs ws e = absurd (cc)

on_false : (b : Bool) (vs ws : List VersionView) → b ≡ false → cond b vs ws ≡ ws
on_false true vs ws e = absurd (cc)
on_false false vs ws e = refl

is_same : (i hub : ℕ) → i ≡ hub → nat_eq i hub ≡ true
is_same i hub e = (Decides-eqb i hub).1 e

differs : (i hub : ℕ) → (i ≡ hub → ⊥) → nat_eq i hub ≡ false
differs i hub n = by_test (nat_eq i hub) refl
  where
    by_test : (b : Bool) → nat_eq i hub ≡ b → b ≡ false
    by_test true q = absurd (n ((Decides-eqb i hub).0 q))
    by_test false q = refl

beyond : (hub i : ℕ) (vs : List VersionView) → hub < i → spokes_from hub i vs ≡ vs
beyond hub i [] h = refl
beyond hub i (v ∷ vs) h =
    on_false (nat_eq i hub) (spokes_from hub (suc i) vs) (v ∷ spokes_from hub (suc i) vs) (differs i hub (λ e. omega arith)) ∙ ap (λ (ws : List VersionView). v ∷ ws) (beyond hub (suc i) vs (omega arith))

from_is : (hub i m : ℕ) (vs : List VersionView) → hub ≡ i + m → spokes_from hub i vs ≡ without m vs
from_is hub i m [] e = refl
from_is hub i zero (v ∷ vs) e =
    on_true (nat_eq i hub) (spokes_from hub (suc i) vs) (v ∷ spokes_from hub (suc i) vs) (is_same i hub (omega arith)) ∙ beyond hub (suc i) vs (omega arith)
from_is hub i (suc m) (v ∷ vs) e =
    on_false (nat_eq i hub) (spokes_from hub (suc i) vs) (v ∷ spokes_from hub (suc i) vs) (differs i hub (λ q. omega arith)) ∙ ap (λ (ws : List VersionView). v ∷ ws) (from_is hub (suc i) m vs (omega arith))

pub spokes_are : (hub : ℕ) (vs : List VersionView) → spokes_of hub vs ≡ without hub vs
spokes_are hub vs = from_is hub 0 hub vs (omega arith)
