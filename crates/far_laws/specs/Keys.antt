-- A key in a state.
use Rattle.std.specs.Prelude.{◌≡◌, ℕ, MatchOption}
use Rattle.kube_meta.specs.Key.{KeyView}
use Rattle.api_calls.specs.Objects.{find}
use Rattle.api_calls.specs.State.{State}

-- no object stands under the key, or it is stored at that version
abbrev pub IsAbsentOrAt : ℕ → KeyView → State → Type 0
IsAbsentOrAt v k s = MatchOption (find k s.objects) (Unit {0}) (λ e. e.at ≡ v)
