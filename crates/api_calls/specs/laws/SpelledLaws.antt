-- A stored text spells the form that is stored.
use Rattle.std.specs.Prelude.{◌≡◌, ℕ, List, Option, None, Some, IfSome}
use Rattle.std.proofs.Common.{◌∙◌, ap, sym}
use Rattle.kj_value.specs.Text.{text_of}
use Rattle.kube_meta.specs.Document.{document}
use Rattle.kube_meta.specs.View.{ObjectView}
use Rattle.object_reading.specs.Written.{IsMoment, IsWritable}
use Rattle.api_calls.specs.Meaning.{Meaning, unnumbered}
use Rattle.api_calls.specs.Versions.{IsStamp, StandsAt, IsStored, Stand}
use Rattle.api_calls.specs.Spelled.{IsTextOf}

moment : (o : Option (List ℕ)) → IfSome o IsStamp → IfSome o IsMoment
moment None h = tt
moment (Some s) h = record { bytes = h.bytes; ascii = h.ascii }

-- what stands at a version can be read back
pub standing-writable : (m : Meaning) (v : ℕ) (x : ObjectView) → StandsAt m v x → IsWritable x
standing-writable m v x s = record {
  body = s.body;
  created = moment x.meta.created s.stamps.created;
  deleted = moment x.meta.deleted s.stamps.deleted;
}

-- what stands at a version has neither number nor uid
pub unnumbered-itself : (m : Meaning) (v : ℕ) (x : ObjectView) → StandsAt m v x → unnumbered x ≡ x
unnumbered-itself m v x s =
    λ i. record x { meta = record x.meta { resource_version = sym s.no_number i; uid = sym s.no_uid i } }

pub stored-text : (m : Meaning) (v : ℕ) (h : ObjectView) (bytes : List ℕ) → Stand m → (s : IsStored m v h bytes) → IsTextOf s.form bytes
stored-text m v h bytes stand s =
    let at = stand.pair v h s.form s.known s.whole s.pairs in
    record {
      whole = standing-writable m v s.form at;
      sound = at.sound;
      levels = at.levels;
      spelled = s.spelled ∙ ap (λ (y : ObjectView). text_of (document y)) (unnumbered-itself m v s.form at);
      utf8 = s.utf8;
    }
