-- The names of the versions of a definition differ.
use Rattle.std.proofs.Common.{◌≡◌, ◌∙◌, ◌++◌, ℕ, zero, suc, List, [], ◌∷◌, Bool, true, false, ◌&&◌, ◌||◌, not, Some, refl, ap, sym, subst}
use Rattle.std.specs.Prelude.{slice_get}
use Rattle.std.specs.Str.{bytes_eq}
use Rattle.std.proofs.lemmas.Slice.Eq.{bytes_eq-Decides}
use Rattle.hub_cells.specs.Level.{Name, IsFresh, AreDistinct}
use Rattle.crd_reading.specs.View.{VersionView}
use Rattle.crd_reading.specs.Offered.{has_version, names_differ}
use Rattle.crd_loading.specs.Fits.{spokes_of}
use Rattle.crd_loading.specs.inner.Following.{version_names}
use Rattle.crd_loading.proofs.Without.{without, names_without, spokes_are}

-- ---- from the test

both : (a b : Bool) → (a && b) ≡ true → (a ≡ true) × (b ≡ true)
both true true h = (refl, refl)
both true false h = absurd (cc)
both false b h = absurd (cc)

neither : (a b : Bool) → not (a || b) ≡ true → (a ≡ false) × (not b ≡ true)
neither true b h = absurd (cc)
neither false b h = (refl, h)

fresh : (n : Name) (vs : List VersionView) → not (has_version n vs) ≡ true → IsFresh n (version_names vs)
fresh n [] h = tt
fresh n (v ∷ vs) h =
    let p = neither (bytes_eq n v.name) (has_version n vs) h in
    (λ e. absurd (lies (sym ((bytes_eq-Decides n v.name).1 e) ∙ p.0)), fresh n vs p.1)
  where
    lies : true ≡ false → ⊥
    lies e = cc

pub distinct : (vs : List VersionView) → names_differ vs ≡ true → AreDistinct (version_names vs)
distinct [] h = tt
distinct (v ∷ vs) h =
    let p = both (not (has_version v.name vs)) (names_differ vs) h in
    (fresh v.name vs p.0, distinct vs p.1)

-- ---- without one of them

fresh_at : (k : Name) (ns : List Name) (m : ℕ) (n : Name) → IsFresh k ns → slice_get ns m ≡ Some n → k ≡ n → ⊥
fresh_at k [] m n f e q = cc
fresh_at k (j ∷ ns) zero n f e q =
    let same : j ≡ n = cc in
    f.0 (q ∙ sym same)
fresh_at k (j ∷ ns) (suc m) n f e q = fresh_at k ns m n f.1 e q

fresh_without : (k : Name) (m : ℕ) (ns : List Name) → IsFresh k ns → IsFresh k (without m ns)
fresh_without k m [] f = tt
fresh_without k zero (n ∷ ns) f = f.1
fresh_without k (suc m) (n ∷ ns) f = (f.0, fresh_without k m ns f.1)

distinct_without : (m : ℕ) (ns : List Name) → AreDistinct ns → AreDistinct (without m ns)
distinct_without m [] d = tt
distinct_without zero (n ∷ ns) d = d.1
distinct_without (suc m) (n ∷ ns) d = (fresh_without n m ns d.0, distinct_without m ns d.1)

taken_fresh : (m : ℕ) (ns : List Name) (n : Name) → AreDistinct ns → slice_get ns m ≡ Some n → IsFresh n (without m ns)
taken_fresh m [] n d e = absurd (cc)
taken_fresh zero (k ∷ ns) n d e =
    let same : k ≡ n = cc in
    subst (λ (j : Name). IsFresh j ns) same d.0
taken_fresh (suc m) (k ∷ ns) n d e = (λ q. fresh_at k ns m n d.0 e (sym q), taken_fresh m ns n d.1 e)

name_at : (vs : List VersionView) (m : ℕ) (h : VersionView) → slice_get vs m ≡ Some h → slice_get (version_names vs) m ≡ Some h.name
name_at [] m h e = absurd (cc)
name_at (v ∷ vs) zero h e =
    let same : v ≡ h = cc in
    ap (λ (w : VersionView). Some w.name) same
name_at (v ∷ vs) (suc m) h e = name_at vs m h e

-- the hub's name and those of the other versions
pub all_names : (hub : ℕ) (vs : List VersionView) (h : VersionView) → names_differ vs ≡ true → slice_get vs hub ≡ Some h → AreDistinct (h.name ∷ version_names (spokes_of hub vs))
all_names hub vs h d e =
    let all : AreDistinct (version_names vs) = distinct vs d in
    let same : without hub (version_names vs) ≡ version_names (spokes_of hub vs) = sym (names_without hub vs) ∙ ap version_names (sym (spokes_are hub vs)) in
    subst (λ (ns : List Name). AreDistinct (h.name ∷ ns)) same (taken_fresh hub (version_names vs) h.name all (name_at vs hub h e), distinct_without hub (version_names vs) all)

-- ---- names behind others

differs_behind : (k : Name) (xs : List Name) (y : Name) (ys : List Name) → IsFresh k (xs ++ y ∷ ys) → k ≡ y → ⊥
differs_behind k [] y ys f e = f.0 e
differs_behind k (x ∷ xs) y ys f e = differs_behind k xs y ys f.1 e

pub fresh_behind : (xs : List Name) (y : Name) (ys : List Name) → AreDistinct (xs ++ y ∷ ys) → IsFresh y xs
fresh_behind [] y ys d = tt
fresh_behind (x ∷ xs) y ys d = (λ e. differs_behind x xs y ys d.0 (sym e), fresh_behind xs y ys d.1)
