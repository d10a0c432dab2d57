use Rattle.std.proofs.Common.{◌≡◌, ◌∙◌, ℕ, List, subst}
use Rattle.api_calls.specs.Versions.{Refused}
use Rattle.crd_meaning.specs.Request.{breaks}
use Rattle.crd_meaning.specs.Refusal.{object_path}
use Rattle.hook_versions.proofs.faults.told.Goals as goal

pub returns-in-Ok : goal.returns-in-Ok
returns-in-Ok c =
    subst (λ (n : List ℕ). Refused (λ f. f ≡ breaks n object_path c.args.rule) ⊥ c.broken.result) (c.in-Ok.ensures ∙ c.as_str.ensures) c.broken.ensures
