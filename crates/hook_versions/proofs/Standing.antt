-- What is taken of an answer stands at the version, near to what was sent.
use Rattle.std.proofs.Common.{◌≡◌, ℕ, refl, sym, subst}
use Rattle.std.specs.Prelude.{◌≢◌}
use Rattle.kj_value.specs.Json.{Json}
use Rattle.kube_meta.specs.View.{ObjectView}
use Rattle.crd_meaning.specs.Definition.{Definition}
use Rattle.crd_laws.specs.Hook.{Near, IsAt}
use Rattle.crd_laws.specs.Turning.{taken_of}
use Rattle.hook_versions.specs.inner.Steps.{IsTaken, IsStanding}

module _ (d : Definition) (w v : ℕ) (x y : ObjectView) (j : Json) (s : IsStanding d w x) (t : IsTaken d x v j y) where
  at : IsAt d v (taken_of x j)
  at = record {
    version = t.good.version;
    body = t.good.body;
    annotations = t.annotations;
    meta = record { labels = t.labels; owners = s.stands.at.meta.owners; levels = s.stands.at.meta.levels };
  }

  pub taken_standing : IsStanding d v y
  taken_standing = subst (λ (z : ObjectView). IsStanding d v z) (sym t.is) (record {
    stands = record { at = at; kind = s.stands.kind; rules = t.rules; no_number = s.stands.no_number; no_uid = s.stands.no_uid };
    stamps = s.stamps;
    sent = record {
      kind = s.sent.kind;
      rules = t.rules;
      meta = at.meta;
      writable = record { body = t.good.body.free; created = s.sent.writable.created; deleted = s.sent.writable.deleted };
      no_uid = s.sent.no_uid;
      levels = t.good.levels;
    };
  })

  -- y is the form of x
  pub form_near : w ≡ d.hub → v ≢ d.hub → Near d v x y
  form_near here spoke = subst (λ (z : ObjectView). Near d v x z) (sym t.is) (record { at = at; kind = refl; meta = refl; rules = λ _. t.rules; hub = λ e. absurd (spoke e) })

  -- y is the hub value of x
  pub hub_near : w ≢ d.hub → Near d w y x
  hub_near spoke = subst (λ (z : ObjectView). Near d w z x) (sym t.is) (record { at = s.stands.at; kind = refl; meta = refl; rules = λ _. s.stands.rules; hub = λ e. absurd (spoke e) })
