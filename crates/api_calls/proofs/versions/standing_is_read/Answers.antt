use Rattle.std.proofs.Common.{◌≡◌, ℕ, List, None, subst}
use Rattle.kube_meta.specs.Document.{document}
use Rattle.object_reading.specs.Refusal.{refusal}
use Rattle.api_calls.proofs.versions.standing_is_read.Goals as goal

pub returns : goal.returns
returns g c = λ it v x s. subst (λ (k : List ℕ). refusal k (document x) ≡ None) s.kind (c.accepted.ensures x s.rules)
