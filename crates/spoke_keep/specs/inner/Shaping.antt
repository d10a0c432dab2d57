-- For private clauses: what an object of a spoke becomes at the hub, of its body and its annotations.
use Rattle.std.specs.Prelude.{◌≡◌, ◌≤◌, true, List, Option}
use Rattle.kj_value.specs.Json.{members_of, depth}
use Rattle.kj_value.specs.Fields.{Pairs, AreInOrder}
use Rattle.kj_value.specs.Sound.{AreRising}
use Rattle.kube_meta.specs.View.{Texts, ObjectView}
use Rattle.kube_meta.specs.Shapes.{shaped}
use Rattle.kube_meta.specs.declared.object.Shape.{Shape}
use Rattle.kept_entries.specs.declared.entry.Entry.{Entry}
use Rattle.kept_entries.specs.declared.reading.TheConstants.{KEPT_LEVELS}
use Rattle.kept_entries.specs.Entry.{are_in_order}
use Rattle.kept_entries.specs.Text.{kept_json}
use Rattle.hub_cells.specs.Level.{Name}
use Rattle.keep_laws.specs.Complete.{completed_over}
use Rattle.keep_laws.specs.Spokes.{Spoke, Spokes, api_version, fills_at}
use Rattle.keep_laws.specs.Keys.{spoke_key}
use Rattle.keep_laws.specs.Notes.{IsNoteOf, with_note, with_entries}
use Rattle.keep_laws.specs.WholeHub.{IsHubBody}
use Rattle.keep_laws.specs.Over.{GoesOver}

-- p is the shape at the version of these annotations and this body
pub record IsMadeOf (version : Name) (notes : Texts) (body : Pairs) (p : Shape) : Type 0 where
  pub named : p.version.bytes ≡ version
  pub noted : p.notes ≡ notes
  pub fields : p.body ≡ body
  pub order : AreInOrder p.notes
  pub rises : AreRising (members_of body)

-- what comes over of a body, where es are kept of the hub beside it, is completed, can stand at the hub, and keeps eh of the
-- spoke, which can be written
pub record ComesOver (all : Spokes) (s : Spoke) (body : Pairs) (es : List Entry) (fields : Pairs) (eh : List Entry) : Type 0 where
  pub made : with_entries fields eh ≡ completed_over (fills_at all s) s.fit.level (with_entries body es)
  pub at_hub : IsHubBody all.items fields
  pub order : are_in_order eh ≡ true
  pub levels : depth (kept_json eh) ≤ KEPT_LEVELS

-- p is the shape at the hub of this body, where es are kept of the spoke beside the annotations ns
pub record IsShapeOf (all : Spokes) (s : Spoke) (body : Pairs) (es : List Entry) (ns : Texts) (p : Shape) : Type 0 where
  pub version : p.version.bytes ≡ api_version all.group all.hub
  pub fields : p.body ≡ body
  pub note : Option Name
  pub is : IsNoteOf es note
  pub put : p.notes ≡ with_note (spoke_key s.name) note ns
  pub order : AreInOrder p.notes
  pub rises : AreRising (members_of body)

-- each object of the spoke with this body and these annotations goes over to the hub as p shapes it
abbrev pub ShapesOver : Spokes → Spoke → Pairs → Texts → Shape → Type 0
ShapesOver all s body ns p = (x : ObjectView) → x.body ≡ body → x.meta.annotations ≡ ns → GoesOver all s x (shaped p x)
