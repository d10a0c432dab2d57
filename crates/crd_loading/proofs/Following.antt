-- The spokes are made one by one, each of the version in its place.
use Rattle.std.proofs.Common.{◌≡◌, ◌∙◌, ◌++◌, ◌+◌, ◌<◌, ℕ, zero, suc, List, [], ◌∷◌, length, drop, Some, refl, ap, sym, subst, append_assoc, add-one, arith}
use Rattle.std.specs.Prelude.{slice_get}
use Rattle.std.proofs.lemmas.List.{append-nil, length_push}
use Rattle.hub_cells.specs.Fit.{Fit}
use Rattle.keep_laws.specs.Spokes.{Spoke}
use Rattle.crd_reading.specs.View.{VersionView}
use Rattle.crd_loading.specs.Set.{named_fits}

abbrev pub named : VersionView → Fit → Spoke
named v f = record { name = v.name; fit = f }

-- as many versions went before as there are spokes, and these fits are left
pub record Goes (vs : List VersionView) (fs left : List Fit) (ss : List Spoke) : Type 0 where
  pub long : length ss + length left ≡ length vs
  pub whole : ss ++ named_fits (drop (length ss) vs) left ≡ named_fits vs fs

pub begins : (vs : List VersionView) (fs left : List Fit) (ss : List Spoke) → ss ≡ [] → left ≡ fs → length fs ≡ length vs → Goes vs fs left ss
begins vs fs left ss none same long =
    subst (λ (ts : List Spoke). Goes vs fs left ts) (sym none) (subst (λ (gs : List Fit). Goes vs fs gs []) (sym same) (record { long = omega (arith, long); whole = refl }))

dropped_from : (vs : List VersionView) (i : ℕ) (v : VersionView) → slice_get vs i ≡ Some v → drop i vs ≡ v ∷ drop (suc i) vs
dropped_from [] i v e = absurd (cc)
dropped_from (w ∷ vs) zero v e =
    let same : w ≡ v = cc in
    ap (λ (u : VersionView). u ∷ vs) same
dropped_from (w ∷ vs) (suc i) v e = dropped_from vs i v e

-- there is a version for the next one
pub goes_on : (vs : List VersionView) (fs left : List Fit) (ss : List Spoke) (f : Fit) (gs : List Fit) → left ≡ f ∷ gs → Goes vs fs left ss → length ss < length vs
goes_on vs fs left ss f gs e g =
    let here : Goes vs fs (f ∷ gs) ss = subst (λ (hs : List Fit). Goes vs fs hs ss) e g in
    omega (arith, here.long)

pub next : (vs : List VersionView) (fs left : List Fit) (ss : List Spoke) (v : VersionView) (f : Fit) (gs : List Fit) (ts : List Spoke) → slice_get vs (length ss) ≡ Some v → left ≡ f ∷ gs → ts ≡ ss ++ named v f ∷ [] → Goes vs fs left ss → Goes vs fs gs ts
next vs fs left ss v f gs ts at e is g =
    let here : Goes vs fs (f ∷ gs) ss = subst (λ (hs : List Fit). Goes vs fs hs ss) e g in
    let rest : List VersionView = drop (suc (length ss)) vs in
    let more : List Spoke = ss ++ named v f ∷ [] in
    let one : length more ≡ suc (length ss) = length_push ss (named v f) ∙ add-one (length ss) in
    let step : ss ++ named_fits (v ∷ rest) (f ∷ gs) ≡ named_fits vs fs = ap (λ (ws : List VersionView). ss ++ named_fits ws (f ∷ gs)) (sym (dropped_from vs (length ss) v at)) ∙ here.whole in
    subst (λ (us : List Spoke). Goes vs fs gs us) (sym is) (record {
      long = omega (arith, one, here.long);
      whole = ap (λ (n : ℕ). more ++ named_fits (drop n vs) gs) one ∙ append_assoc ss (named v f ∷ []) (named_fits rest gs) ∙ step;
    })

none_left : (vs : List VersionView) → named_fits vs [] ≡ []
none_left [] = refl
none_left (v ∷ vs) = refl

pub ends : (vs : List VersionView) (fs left : List Fit) (ss : List Spoke) → left ≡ [] → Goes vs fs left ss → ss ≡ named_fits vs fs
ends vs fs left ss e g =
    let none : Goes vs fs [] ss = subst (λ (hs : List Fit). Goes vs fs hs ss) e g in
    sym (ap (λ (ts : List Spoke). ss ++ ts) (none_left (drop (length ss) vs)) ∙ append-nil ss) ∙ none.whole
