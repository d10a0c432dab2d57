-- Which documents are written of objects.
use Rattle.std.specs.Prelude.{◌≡◌, ℕ, List, None, IfSome, length, codes}
use Rattle.std.specs.Str.{IsAscii}
use Rattle.kj_value.specs.Json.{Json}
use Rattle.kj_value.specs.Fields.{Pairs, field}
use Rattle.kube_meta.specs.View.{ObjectView}
use Rattle.kube_meta.specs.Document.{document}

-- 20 ASCII bytes, as of `2024-01-02T03:04:05Z`
pub record IsMoment (s : List ℕ) : Type 0 where
  pub bytes : length s ≡ 20
  pub ascii : IsAscii s

-- the body leaves the three names to the object's own values
pub record IsBody (body : Pairs) : Type 0 where
  pub api_version : field (codes "apiVersion") body ≡ None
  pub kind : field (codes "kind") body ≡ None
  pub metadata : field (codes "metadata") body ≡ None

-- and each stamp is a moment
pub record IsWritable (x : ObjectView) : Type 0 where
  pub body : IsBody x.body
  pub created : IfSome x.meta.created IsMoment
  pub deleted : IfSome x.meta.deleted IsMoment

-- the document of an object
abbrev pub IsWritten : Json → Type 0
IsWritten j = (x : ObjectView) × IsWritable x × (j ≡ document x)
