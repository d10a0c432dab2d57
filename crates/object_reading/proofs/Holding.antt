-- Refusals of which none holds.
use Rattle.std.proofs.Common.{◌≡◌, ℕ, zero, suc, ap, [], ◌∷◌, Some, None, Bool, true, false, cond, refl}
use Rattle.object_reading.specs.Refusal.{Refusal, Judged, first_holding}

abbrev pub NoneHolds : Judged → Type 0
NoneHolds [] = Unit {0}
NoneHolds (r ∷ rs) = (r.1 ≡ false) × NoneHolds rs

pub none_first : (rs : Judged) → NoneHolds rs → first_holding rs ≡ None
none_first [] h = refl
none_first (r ∷ rs) h = rw h.0 (none_first rs h.1)

pub none_holds : (rs : Judged) → first_holding rs ≡ None → NoneHolds rs
none_holds [] e = tt
none_holds (r ∷ rs) e = by_test r.1 e (none_holds rs)
  where
    by_test : (b : Bool) → cond b (Some r.0) (first_holding rs) ≡ None → (first_holding rs ≡ None → NoneHolds rs) → (b ≡ false) × NoneHolds rs
    by_test true f more = absurd (cc)
    by_test false f more = (refl, more f)

-- none of so many holds, and then this one does
abbrev pub Passed : Judged → ℕ → Type 0
Passed rs zero = Unit {0}
Passed [] (suc n) = ⊥
Passed (r ∷ rs) (suc n) = (r.1 ≡ false) × Passed rs n

abbrev pub HoldsNext : Judged → ℕ → Refusal → Type 0
HoldsNext [] n r = ⊥
HoldsNext (x ∷ rs) zero r = (x.1 ≡ true) × (x.0 ≡ r)
HoldsNext (x ∷ rs) (suc n) r = HoldsNext rs n r

pub told_at : (rs : Judged) (n : ℕ) (r : Refusal) → Passed rs n → HoldsNext rs n r → first_holding rs ≡ Some r
told_at [] n r before here = absurd here
told_at (x ∷ rs) zero r before here = rw here.0 (ap (λ (y : Refusal). Some y) here.1)
told_at (x ∷ rs) (suc n) r before here = rw before.0 (told_at rs n r before.1 here)
