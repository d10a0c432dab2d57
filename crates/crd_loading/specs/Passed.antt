-- An object of a version as a request submits it, once its body was filled and checked.
use Rattle.std.specs.Prelude.{◌≡◌, ℕ, pos, None}
use Rattle.kube_meta.specs.View.{ObjectView}
use Rattle.object_reading.specs.Keeping.{KeepsRules}
use Rattle.keep_laws.specs.FittedBody.{IsBody}
use Rattle.keep_laws.specs.Spokes.{api_version}
use Rattle.keep_laws.specs.Notes.{IsObject}
use Rattle.crd_meaning.specs.Definition.{Definition, version_at}
use Rattle.crd_meaning.specs.Objects.{IsMeta}

-- its body is valid, filled and at most 64 deep, its metadata keep their rules, and what the server sets isn't set
pub record IsPassed (d : Definition) (v : ℕ) (x : ObjectView) : Type 0 where
  pub version : x.api_version ≡ api_version d.view.group (version_at d v).name
  pub kind : x.kind ≡ d.view.kind
  pub object : IsObject x
  pub body : IsBody 0 (version_at d v).schema x.body
  pub rules : KeepsRules x.meta
  pub meta : IsMeta x.meta
  pub no_number : x.meta.resource_version ≡ None
  pub no_uid : x.meta.uid ≡ None
  pub created : x.meta.created ≡ None
  pub deleted : x.meta.deleted ≡ None
  pub generation : x.meta.generation ≡ pos 0
