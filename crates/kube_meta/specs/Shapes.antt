-- What an object becomes at another version.
use Rattle.kube_meta.specs.View.{ObjectView}
use Rattle.kube_meta.specs.declared.object.Shape.{Shape}

-- its kind stays, and so do its metadata but for the annotations
abbrev pub shaped : Shape → ObjectView → ObjectView
shaped p h = record {
  api_version = p.version.bytes;
  kind = h.kind;
  meta = record h.meta { annotations = p.notes };
  body = p.body;
}
