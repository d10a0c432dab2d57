-- How many answers tell that the converter failed.
use Rattle.std.specs.Prelude.{◌+◌, ℕ, List, [], ◌∷◌, nat_eq, if◌then◌else◌}
use Rattle.api_calls.specs.Status.{code_bad_gateway}
use Rattle.http_front.specs.Talk.{Exchange}

unfoldable pub failures : List Exchange → ℕ
failures [] = 0
failures (x ∷ xs) = (if nat_eq x.answer.code code_bad_gateway then 1 else 0) + failures xs
