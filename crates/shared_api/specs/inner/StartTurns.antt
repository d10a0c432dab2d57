-- For private clauses: what the turn of a start tells.
use Rattle.std.specs.Prelude.{◌≡◌, ◌<◌, ℕ, List, [], ◌∷◌}
use Rattle.api_calls.specs.Calls.{Server}
use Rattle.api_calls.specs.Ends.{StartEnd, started}
use Rattle.api_calls.specs.Item.{Logged, items}
use Rattle.api_calls.specs.Settings.{start_decision}
use Rattle.api_calls.specs.State.{state}
use Rattle.turn_cell.specs.declared.view.View.{View}
use Rattle.shared_api.specs.inner.Turning.{Writes}
use Rattle.setting_texts.specs.Starting.{HasTarget}

-- a turn that started a migration of a name, or didn't
pub record BeginsStart {B : Type 0} (s : Server) (v z : View B) (name : List ℕ) (end : StartEnd) : Type 0 where
  pub log : List Logged
  pub writes : Writes s v z log (start_decision s.limits (state s.meaning (items log)) name).item
  pub ended : end ≡ (start_decision s.limits (state s.meaning (items log)) name).answer
  pub target : HasTarget s.meaning.count end
