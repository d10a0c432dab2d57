-- What follows of a cache's forms, for those who keep a fact of each of them.
use Rattle.std.specs.Prelude.{◌≡◌, ℕ, zero, suc, ◌-◌, Bool, true, false, cond, List, [], ◌∷◌, take, Option, Some, None, refl}
use Rattle.std.proofs.Common.{ap, subst}
use Rattle.kube_meta.specs.Key.{KeyView}
use Rattle.form_cache.specs.Forms.{Form, Forms, shows, found, without, in_front, used, beside, kept}
use Rattle.form_cache.specs.Same.{same_parts, same_itself}

-- P holds of each form
abbrev pub Each : (Form → Type 0) → List Form → Type 0
Each P [] = Unit {0}
Each P (f ∷ fs) = P f × Each P fs

module _ (P : Form → Type 0) where
  module _ (passes : Form → Bool) where
    -- of a form that was found, P holds, and it passes
    pub found_holds : (fs : List Form) (f : Form) → found passes fs ≡ Some f → Each P fs → P f × (passes f ≡ true)
    found_holds [] f h e = absurd (cc)
    found_holds (g ∷ fs) f h e = at_head (passes g) refl h (λ q. found_holds fs f q e.1)
      where
        at_head : (b : Bool) → passes g ≡ b → cond b (Some g) (found passes fs) ≡ Some f → (found passes fs ≡ Some f → P f × (passes f ≡ true)) → P f × (passes f ≡ true)
        at_head true p q later = let same : g ≡ f = cc in (subst P same e.0, subst (λ x. passes x ≡ true) same p)
        at_head false p q later = later q

    pub each_without : (fs : List Form) → Each P fs → Each P (without passes fs)
    each_without [] e = tt
    each_without (g ∷ fs) e = elim (passes g) as (λ b. Each P (cond b fs (g ∷ without passes fs))) [
      | true ↦ e.1
      | false ↦ (e.0, each_without fs e.1)
    ]

  each_take : (n : ℕ) (fs : List Form) → Each P fs → Each P (take n fs)
  each_take zero fs e = tt
  each_take (suc n) [] e = tt
  each_take (suc n) (f ∷ fs) e = (e.0, each_take n fs e.1)

  -- P still holds of each form after one was used
  pub each_used : (k : KeyView) (n v : ℕ) (fs : List Form) → Each P fs → Each P (used k n v fs)
  each_used k n v fs e = by_found (found (shows k n v) fs) refl
    where
      by_found : (o : Option Form) → found (shows k n v) fs ≡ o → Each P (in_front o (without (shows k n v) fs) fs)
      by_found None h = e
      by_found (Some f) h = ((found_holds (shows k n v) fs f h e).0, each_without (shows k n v) fs e)

  -- and after one of which P holds was kept
  pub each_kept : (f : Form) (c : Forms) → P f → Each P c.forms → Each P (kept f c)
  each_kept f c p e = (p, by_found (found (shows f.key f.number f.version) c.forms))
    where
      by_found : (o : Option Form) → Each P (beside o (without (shows f.key f.number f.version) c.forms) (take (c.most - 1) c.forms))
      by_found None = each_take (c.most - 1) c.forms e
      by_found (Some g) = each_without (shows f.key f.number f.version) c.forms e

-- a form that was kept is found
pub found_kept : (f : Form) (c : Forms) → found (shows f.key f.number f.version) (kept f c) ≡ Some f
found_kept f c = ap (λ b. cond b (Some f) (found (shows f.key f.number f.version) (beside (found (shows f.key f.number f.version) c.forms) (without (shows f.key f.number f.version) c.forms) (take (c.most - 1) c.forms)))) (same_itself f.key f.number f.version)

-- what shows an object at a number and a version is of that key, number and version
pub shown_parts : (k : KeyView) (n v : ℕ) (f : Form) → shows k n v f ≡ true → (k ≡ f.key) × (n ≡ f.number) × (v ≡ f.version)
shown_parts k n v f h = same_parts k n v f.key f.number f.version h
