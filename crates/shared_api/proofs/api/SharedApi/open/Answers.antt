use Rattle.std.proofs.Common.{ap, rules}
use Rattle.form_cache.specs.Forms.{Forms}
use Rattle.form_cache.specs.Limits.{forms_of_a_pass}
use Rattle.shared_api.proofs.Caches.{none-cached}
use Rattle.shared_api.proofs.api.SharedApi.open.Goals as goal

pub returns-clause-of : goal.returns-clause-of
returns-clause-of g c = record {
  table = search rules;
  base = search rules;
  legal = search rules;
  cached = none-cached _ _ _ c.in_ok-cache.cache forms_of_a_pass c.in_ok-cache.ensures;
  most = ap (λ (f : Forms). f.most) c.in_ok-cache.ensures;
}
