-- Objects are the same where their documents are.
use Rattle.std.proofs.Common.{◌≡◌, ◌∙◌, Bool, IsTrue, ap, sym}
use Rattle.std.specs.Prelude.{◌↔◌}
use Rattle.kj_value.specs.Json.{Json}
use Rattle.kube_meta.specs.Document.{document}
use Rattle.kube_meta.specs.View.{ObjectView}
use Rattle.object_reading.specs.Parts.{whole_in}
use Rattle.object_reading.specs.Written.{IsWritable}

pub same_objects : ((x : ObjectView) → IsWritable x → whole_in (document x) ≡ x) → (x y : ObjectView) (j k : Json) (b : Bool) → IsWritable x → IsWritable y
    → j ≡ document x → k ≡ document y → IsTrue b ↔ (j ≡ k) → IsTrue b ↔ (x ≡ y)
same_objects read x y j k b wx wy p q t = (
  λ e. sym (read x wx) ∙ ap whole_in (sym p ∙ t.0 e ∙ q) ∙ read y wy,
  λ e. t.1 (p ∙ ap document e ∙ sym q),
)
