-- How the logic stores what a pass knows, for a struct above whose value holds a view.
use Rattle.std.specs.Prelude.{◌≡◌, ℕ, List, Option, ◌⊎◌, refl}
use mathlib.Core.Logic.{inl, inr}
use base.Stored.{coded_unit}
use Rattle.std.specs.Coded.{Coded, code_by, coded_ℕ, coded_list, coded_option, coded×, coded⊎}
use Rattle.api_calls.specs.Item.{Logged}
use Rattle.api_calls.specs.laws.ItemCode.{logged_code}
use Rattle.turn_cell.specs.declared.view.Share.{Share}
use Rattle.turn_cell.specs.declared.view.Sight.{Sight}
use Rattle.turn_cell.specs.declared.view.Stage.{Stage}
use Rattle.turn_cell.specs.declared.view.Stage.TheVariants.{Rest, Waits, Holds, Met}
use Rattle.turn_cell.specs.declared.view.View.{View}

abbrev sight_code : Coded Sight
sight_code = code_by (List Logged × List ℕ) (coded× (coded_list logged_code) (coded_list coded_ℕ)) (λ s. (s.seen, s.numbers)) (λ p. record { seen = p.0; numbers = p.1 }) (λ _. refl)

abbrev Cases : Type 0
Cases = Unit {0} ⊎ (ℕ ⊎ ((ℕ × ℕ) ⊎ (Sight × Sight)))

abbrev cases : Stage → Cases
cases Rest = inl tt
cases (Waits t) = inr (inl t)
cases (Holds t a) = inr (inr (inl (t, a)))
cases (Met a b) = inr (inr (inr (a, b)))

abbrev stage_back : Cases → Stage
stage_back (inl c) = Rest
stage_back (inr (inl t)) = Waits t
stage_back (inr (inr (inl c))) = Holds c.0 c.1
stage_back (inr (inr (inr c))) = Met c.0 c.1

pub stage_back-cases : (st : Stage) → stage_back (cases st) ≡ st
stage_back-cases Rest = refl
stage_back-cases (Waits t) = refl
stage_back-cases (Holds t a) = refl
stage_back-cases (Met a b) = refl

abbrev pub stage_code : Coded Stage
stage_code = code_by Cases (coded⊎ coded_unit (coded⊎ coded_ℕ (coded⊎ (coded× coded_ℕ coded_ℕ) (coded× sight_code sight_code)))) cases stage_back stage_back-cases

abbrev share_code : Coded Share
share_code = code_by (ℕ × ℕ) (coded× coded_ℕ coded_ℕ) (λ s. (s.top, s.halves)) (λ p. record { top = p.0; halves = p.1 }) (λ _. refl)

abbrev pub view_code : {B : Type 0} → Coded B → Coded (View B)
view_code {B} b =
    code_by ((Option B × (Option ℕ × List ℕ)) × (List Logged × (Share × Stage)))
    (coded× (coded× (coded_option b) (coded× (coded_option coded_ℕ) (coded_list coded_ℕ))) (coded× (coded_list logged_code) (coded× share_code stage_code)))
    (λ v. ((v.base, (v.number, v.met)), (v.seen, (v.share, v.stage))))
    (λ t. record { base = t.0.0; number = t.0.1.0; met = t.0.1.1; seen = t.1.0; share = t.1.1.0; stage = t.1.1.1 })
    (λ _. refl)
