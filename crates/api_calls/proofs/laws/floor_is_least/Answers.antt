use Rattle.api_calls.proofs.Snaps.{floor-all, window-all}
use Rattle.api_calls.proofs.laws.floor_is_least.Goals as goal

pub returns-clause-floor : goal.returns-clause-floor
returns-clause-floor g c = λ it limits log. floor-all (g.V.Means.meaning it) limits log

pub returns-clause-window : goal.returns-clause-window
returns-clause-window g c = λ it limits log. window-all (g.V.Means.meaning it) limits log
