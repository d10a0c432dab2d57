-- A version of a definition by its group and name.
use Rattle.std.proofs.Common.{◌≡◌, ◌≢◌, ℕ, ◌<◌, List, [], ◌∷◌, Option, Some, None, ap, sym, ◌∙◌}
use Rattle.std.specs.Prelude.{MatchOption}
use Rattle.keep_laws.specs.Spokes.{slash, api_version}
use Rattle.crd_meaning.specs.Definition.{Definition, count_of, version_at}
use Rattle.review_batch.specs.Answer.{IsGroupVersion}

tail_same : (x : ℕ) (a b : List ℕ) → x ∷ a ≡ x ∷ b → a ≡ b
tail_same x a b e = cc

same_behind : (group a b : List ℕ) → api_version group a ≡ api_version group b → a ≡ b
same_behind [] a b e = tail_same slash a b e
same_behind (g ∷ group) a b e = same_behind group a b (tail_same g (api_version group a) (api_version group b) e)

pub version_found : (d : Definition) (text name : List ℕ) (r : Option ℕ) → text ≡ api_version d.view.group name
    → MatchOption r ((v : ℕ) → v < count_of d → (version_at d v).name ≢ name) (λ v. (v < count_of d) × ((version_at d v).name ≡ name))
    → MatchOption r ((v : ℕ) → IsGroupVersion d text v → ⊥) (λ v. IsGroupVersion d text v)
version_found d text name None is h = λ v k. h v k.known (sym (same_behind d.view.group name (version_at d v).name (sym is ∙ k.named)))
version_found d text name (Some v) is h = record { known = h.0; named = is ∙ ap (api_version d.view.group) (sym h.1) }
