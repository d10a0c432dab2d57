-- For private clauses: what one turn of a call on migrations tells.
use Rattle.std.specs.Prelude.{◌≡◌, ◌<◌, List, Result, IfOk}
use Rattle.kj_value.specs.declared.error.NoMemory.{NoMemory}
use Rattle.kube_meta.specs.Plan.{Migration}
use Rattle.api_calls.specs.Calls.{Server}
use Rattle.api_calls.specs.Item.{Logged, items}
use Rattle.api_calls.specs.State.{state}
use Rattle.turn_cell.specs.declared.view.View.{View}
use Rattle.shared_api.specs.inner.Turning.{Reads}
use Rattle.setting_texts.specs.Migrating.{HaveTargets}

-- a look at the migrations
pub record LooksMigrations {B : Type 0} (s : Server) (v z : View B) (r : Result (List Migration) NoMemory) : Type 0 where
  pub log : List Logged
  pub reads : Reads s v z log
  pub listed : IfOk r (λ qs. qs ≡ (state s.meaning (items log)).migrations)
  pub known : IfOk r (λ qs. HaveTargets s.meaning qs)
