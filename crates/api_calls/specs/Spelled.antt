-- The object that a stored text spells.
use Rattle.std.specs.Prelude.{◌≡◌, ◌≤◌, ℕ, List, IsUtf8}
use Rattle.kj_value.specs.Json.{depth}
use Rattle.kj_value.specs.Sound.{IsSoundJson}
use Rattle.kj_value.specs.Text.{text_of}
use Rattle.kube_meta.specs.Document.{document}
use Rattle.kube_meta.specs.View.{ObjectView}
use Rattle.object_reading.specs.Written.{IsWritable}
use Rattle.api_calls.specs.declared.versions.TheConstants.{OBJECT_LEVELS}

-- the bytes are the compact text of the document of x, from which x can be read back
pub record IsTextOf (x : ObjectView) (bytes : List ℕ) : Type 0 where
  pub whole : IsWritable x
  pub sound : IsSoundJson (document x)
  pub levels : depth (document x) ≤ OBJECT_LEVELS
  pub spelled : bytes ≡ text_of (document x)
  pub utf8 : IsUtf8 bytes
